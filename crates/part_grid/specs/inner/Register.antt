-- Numbers that are entered in cells, each of which knows the one before it.
use Rattle.std.specs.Prelude.{ℕ, zero, suc, ◌≤◌, ◌<◌, List, [], ◌∷◌, length, map, slice_index_or}
use Rattle.part_grid.specs.declared.numbers.register.Entry.{Entry}

-- the entry at a place
abbrev pub entry_at : List Entry → ℕ → Entry
entry_at entries place = slice_index_or entries place (record { number = 0; before = 0 })

-- the number that stands at a place and those before it, at most so many. Places count from 1, and 0 is none
abbrev pub numbers_from : ℕ → List Entry → ℕ → List ℕ
numbers_from zero entries place = []
numbers_from (suc most) entries zero = []
numbers_from (suc most) entries (suc place) =
    (entry_at entries place).number ∷ numbers_from most entries (entry_at entries place).before

-- the numbers of each cell, the newest first
abbrev pub lists_of : List ℕ → List Entry → List (List ℕ)
lists_of newest entries = map (numbers_from (length entries) entries) newest

-- what stands before an entry was entered before it
pub record IsRegister (newest : List ℕ) (entries : List Entry) : Type 0 where
  pub cells : (k : ℕ) → slice_index_or newest k 0 ≤ length entries
  pub places : (k : ℕ) → k < length entries → (entry_at entries k).before ≤ k
