-- What is calculated for a job before its kept bundles move.
use Rattle.std.specs.Prelude.{◌≡◌, ◌≤◌, true, length}
use Rattle.path_cache.specs.Refreshed.{refreshed}
use Rattle.path_cache.specs.Renewals.{Gives}
use Rattle.path_cache.specs.Standing.{AreOfEach}
use Rattle.map_board.specs.declared.jobs.Calculation.{Calculation}
use Rattle.map_board.specs.Views.{Job}
use Rattle.map_board.specs.inner.Held.{no_marks}

-- with the job's kept bundles it gives them refreshed, there is a mark of each, and it may know that they are of each
-- source
pub record IsCalculated (job : Job) (made : Calculation) : Type 0 where
  pub gives : Gives made.renewed job.kept (refreshed job.scene job.receiver job.kept job.marks)
  pub plain : made.marks.items ≡ no_marks (refreshed job.scene job.receiver job.kept job.marks)
  pub few : length (refreshed job.scene job.receiver job.kept job.marks) ≤ 128
  pub of_each : made.stand ≡ true
      → AreOfEach job.scene.sources (refreshed job.scene job.receiver job.kept job.marks)
