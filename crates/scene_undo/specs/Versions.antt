-- The versions that are kept for an undo, and what is taken of them.
use Rattle.std.specs.Prelude.{◌≡◌, ◌≤◌, ◌<◌, ◌⊎◌, ◌==◌, ◌*◌, ℕ, Bool, false, nat_lt, List, [], ◌∷◌, ◌++◌, map, flat_map, reverse, All}
use Rattle.std.specs.List.{list_any}
use Rattle.scene_book.specs.Book.{most_receivers}
use Rattle.scene_book.specs.declared.edits.Edit.{Edit}
use Rattle.scene_book.specs.declared.edits.Edit.TheVariants as edits
use Rattle.scene_undo.specs.declared.versions.KeptVersion.{KeptVersion}

-- a version is among those that are kept
abbrev pub is_kept : ℕ → List ℕ → Bool
is_kept version kept = list_any (λ v. v == version) kept

-- the versions of a list, the last of it first, and 0 behind them, which is always kept
abbrev pub kept_in : List KeptVersion → List ℕ
kept_in kept = reverse (map (λ (one : KeptVersion). one.version) kept) ++ 0 ∷ []

-- no version is behind another one: none, or the last of these is not
abbrev pub EndsUpTo : ℕ → List KeptVersion → Type 0
EndsUpTo to kept =
    (kept ≡ [])
    ⊎ ((front : List KeptVersion) × (last : KeptVersion) × (kept ≡ front ++ last ∷ []) × (last.version ≤ to))

-- The versions after one were taken out, and these are the edits that undo theirs, the last version first.
pub record IsCut (to : ℕ) (before after : List KeptVersion) (edits : List Edit) : Type 0 where
  pub later : List KeptVersion
  pub parts : before ≡ after ++ later
  pub behind : All (λ one. to < one.version) later
  pub ends : EndsUpTo to after
  pub edits_are : edits ≡ flat_map (λ (one : KeptVersion). one.back) (reverse later)

-- Some of the versions after one were taken off the end, where memory ran out.
pub record IsCutShort (to : ℕ) (before after : List KeptVersion) : Type 0 where
  pub gone : List KeptVersion
  pub parts : before ≡ after ++ gone
  pub behind : All (λ one. to < one.version) gone

-- an edit puts more receivers at once than a scene holds
abbrev pub is_too_large : Edit → Bool
is_too_large (edits.Grid grid) = nat_lt most_receivers (grid.columns * grid.rows)
is_too_large _ = false
