-- When an answer or a job may come back, and what it is then.
use Rattle.std.specs.Prelude.{◌≡◌, ℕ, ◌≤◌, ◌⊎◌, List, length, take, Contains, Some, IsSome}
use Rattle.scene_parts.specs.Parts.{Source, Receiver}
use Rattle.scene_book.specs.declared.edits.Edit.{Edit}
use Rattle.path_calc.specs.Levels.{levels_of}
use Rattle.path_calc.specs.Show.{sources_within, bundles_of}
use Rattle.path_cache.specs.Refreshed.{is_wanted, refreshed, Stand}
use Rattle.map_board.specs.Views.{Job, Answer}
use Rattle.map_board.specs.Journal.{scene_at, first_naming}
use Rattle.map_board.specs.Rows.{Row, row_named}
use Rattle.map_board.specs.Due.{is_due}

-- the row of a receiver has a job of a version out
pub record IsOutFor (rows : List Row) (version : ℕ) (r : Receiver) : Type 0 where
  pub row : Row
  pub found : row_named r.name rows ≡ Some row
  pub receiver : row.receiver ≡ r
  pub out : row.out ≡ Some version

-- what comes back is of a version up to the newest; either an edit since names its receiver, or it is out for its row
pub record MayReturn (journal : List Edit) (rows : List Row) (version : ℕ) (r : Receiver) : Type 0 where
  pub past : version ≤ length journal
  pub awaited : IsSome (first_naming journal version r.name) ⊎ IsOutFor rows version r

-- a job fits a journal and rows
pub record IsFit (journal : List Edit) (rows : List Row) (job : Job) : Type 0 where
  -- its scene is that of its version
  pub scene : job.scene ≡ scene_at journal job.version
  -- each unmarked kept bundle of a source within reach is the scene's
  pub kept : Stand job.scene job.receiver job.kept job.marks
  -- where it is out for its row, the sources within reach whose bundle is marked or missing are those that are due
  pub due : (row : Row) → row_named job.receiver.name rows ≡ Some row → row.out ≡ Some job.version
      → (source : Source) → Contains (sources_within job.scene job.receiver) source
      → is_wanted job.kept job.marks source ≡ is_due (take job.version journal) row.kept row.receiver source

-- an answer is right: its scene is that of its version, its bundles are that scene's, its levels are theirs
pub record IsRight (journal : List Edit) (answer : Answer) : Type 0 where
  pub scene : answer.scene ≡ scene_at journal answer.version
  pub bundles : answer.bundles ≡ bundles_of answer.scene answer.receiver
  pub levels : answer.levels ≡ levels_of answer.bundles

-- an answer answers a job: it is of its version, receiver and scene, and has its bundles refreshed and their levels
pub record Answers (job : Job) (answer : Answer) : Type 0 where
  pub version : answer.version ≡ job.version
  pub receiver : answer.receiver ≡ job.receiver
  pub scene : answer.scene ≡ job.scene
  pub bundles : answer.bundles ≡ refreshed job.scene job.receiver job.kept job.marks
  pub levels : answer.levels ≡ levels_of answer.bundles
