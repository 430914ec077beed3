-- The names of the receivers of a grid, in the order in which a grid puts them: row by row, and in each by column.
use Rattle.std.specs.Prelude.{◌≡◌, ℕ, zero, suc, List, [], ◌∷◌, ◌++◌, not, is_some, Option, find, map}
use Rattle.scene_parts.specs.Parts.{Grid}
use Rattle.scene_book.specs.Book.{Book}
use Rattle.scene_book.specs.Grid.{name_in, receivers_of}
use Rattle.scene_book.specs.Lists.{named}
use Rattle.command_lines.specs.Views.{Contour}

-- those of a row in so many columns from one on
abbrev pub names_along : List ℕ → ℕ → ℕ → ℕ → List (List ℕ)
names_along name row column zero = []
names_along name row column (suc count) = name_in name row column ∷ names_along name row (suc column) count

-- those of so many rows from one on
abbrev pub names_from : Contour → ℕ → ℕ → List (List ℕ)
names_from spec row zero = []
names_from spec row (suc count) = names_along spec.name row 0 spec.columns ++ names_from spec (suc row) count

-- those of all columns and rows of a contour
abbrev pub names_of : Contour → List (List ℕ)
names_of spec = names_from spec 0 spec.rows

-- a grid of this name with so many columns and rows puts receivers of these names, in this order
abbrev pub NamesAreOfGrid : Contour → Type 0
NamesAreOfGrid spec =
    (grid : Grid) → grid.name ≡ spec.name → grid.columns ≡ spec.columns → grid.rows ≡ spec.rows
    → map (λ r. r.name) (receivers_of grid) ≡ names_of spec

-- the first of them that no receiver of a scene bears
abbrev pub first_missing_of : Contour → Book → Option (List ℕ)
first_missing_of spec book = find (λ name. not (is_some (named (λ r. r.name) name book.receivers))) (names_of spec)
