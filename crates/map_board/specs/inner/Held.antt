-- What jobs and answers keep.
use Rattle.std.specs.Prelude.{◌≡◌, ℕ, ◌≤◌, Bool, true, false, List, [], length, map, slice_get, Option, Some, is_some, IfSome}
use Rattle.path_calc.specs.Levels.{levels_of}
use Rattle.scene_parts.specs.Parts.{Receiver}
use Rattle.scene_book.specs.Book.{Book}
use Rattle.path_calc.specs.Bundles.{Bundle}
use Rattle.path_cache.specs.declared.sums.RowSums.{RowSums}
use Rattle.path_cache.specs.Refreshed.{CanRefresh, count_wanted, unmarked}
use Rattle.path_cache.specs.Standing.{AreOfEach}
use Rattle.path_cache.specs.Sums.{Fits}
use Rattle.map_board.specs.declared.scenes.PreparedScene.{PreparedScene}
use Rattle.map_board.specs.Due.{source_within}
use Rattle.map_board.specs.Views.{Job, Answer}

-- each unmarked bundle is that of a source within reach
abbrev pub AreWithin : Book → Receiver → List Bundle → List Bool → Type 0
AreWithin book r kept marks = (name : List ℕ) (bundle : Bundle) → unmarked name kept marks ≡ Some bundle
    → is_some (source_within book r name) ≡ true

-- a job keeps: its receiver stands at a place in its scene, its kept bundles can be refreshed, unmarked ones are of
-- sources within reach, and those have to be calculated whose source is within reach and that are marked or missing
pub record IsJob (place : ℕ) (job : Job) : Type 0 where
  pub stands : slice_get job.scene.receivers place ≡ Some job.receiver
  pub kept : CanRefresh job.kept job.marks
  pub within : AreWithin job.scene job.receiver job.kept job.marks
  pub due : job.due ≡ count_wanted job.scene job.receiver job.kept job.marks

-- what a job has of a scene is its own but for the receivers, its sums are those of its kept bundles, and it may know
-- that these are of each source of its scene, in their order
pub record IsAtHand (shared : Option PreparedScene) (sums : RowSums) (stand : Bool) (job : Job) : Type 0 where
  pub hold : IfSome shared (λ prepared. prepared.scene ≡ record job.scene { receivers = [] })
  pub fit : Fits sums job.kept
  pub of_each : stand ≡ true → AreOfEach job.scene.sources job.kept

-- a job of a version for the receiver at a place in a scene
pub record IsJobOf (version place : ℕ) (scene : Book) (kept : List Bundle) (marks : List Bool) (job : Job) : Type 0
  where
    pub at_version : job.version ≡ version
    pub at_place : slice_get scene.receivers place ≡ Some job.receiver
    pub of_scene : job.scene ≡ scene
    pub bundles : job.kept ≡ kept
    pub marked : job.marks ≡ marks
    pub due : job.due ≡ count_wanted job.scene job.receiver job.kept job.marks

-- a mark of each bundle, none of them set
abbrev pub no_marks : List Bundle → List Bool
no_marks bundles = map (λ bundle. false) bundles

-- an answer keeps: there is a mark of each bundle and none is set, there are few bundles, the levels and the sums are
-- theirs, and it may know that they are of each source of its scene, in their order
pub record IsAnswer (marks : List Bool) (sums : RowSums) (stand : Bool) (answer : Answer) : Type 0 where
  pub plain : marks ≡ no_marks answer.bundles
  pub few : length answer.bundles ≤ 128
  pub levels : answer.levels ≡ levels_of answer.bundles
  pub fit : Fits sums answer.bundles
  pub of_each : stand ≡ true → AreOfEach answer.scene.sources answer.bundles
