-- The first edit after a version that passes a test is the one of the least number.
use Rattle.std.specs.Prelude.{◌≡◌, ℕ, suc, ◌≤◌, ◌<◌, Bool, true, List, Some, None, slice_get}
use Rattle.scene_book.specs.Book.{Book}
use Rattle.scene_book.specs.declared.edits.Edit.{Edit}
use Rattle.map_board.specs.Journal.{scene_at, first_after}

-- the edit of the next number after a version passes a test of it and of the scene before it
pub record PassesAfter (test : Edit → Book → Bool) (journal : List Edit) (version : ℕ) : Type 0 where
  pub edit : Edit
  pub next : slice_get journal version ≡ Some edit
  pub passes : test edit (scene_at journal version) ≡ true

-- the edit of a number passes, and none before it does that comes after a version
pub record IsLeast (test : Edit → Book → Bool) (journal : List Edit) (version number : ℕ) : Type 0 where
  pub before : ℕ
  pub number_is : number ≡ suc before
  pub after : version ≤ before
  pub passes : PassesAfter test journal before
  pub others : (k : ℕ) → version ≤ k → k < before → PassesAfter test journal k → ⊥

abbrev pub FirstIsLeast : Type 0
FirstIsLeast = (test : Edit → Book → Bool) (journal : List Edit) (version number : ℕ)
    → first_after test journal version ≡ Some number → IsLeast test journal version number

-- where there is no first, no edit after the version passes
abbrev pub NoFirstPassesNone : Type 0
NoFirstPassesNone = (test : Edit → Book → Bool) (journal : List Edit) (version k : ℕ)
    → first_after test journal version ≡ None → version ≤ k → PassesAfter test journal k → ⊥
