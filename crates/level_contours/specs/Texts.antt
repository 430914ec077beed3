-- The rows of a contour: its head, and each loop with its points behind it.
use Rattle.std.specs.Prelude.{ℕ, suc, ◌+◌, List, [], ◌∷◌, ◌++◌, length, decimal, codes, flat_map}
use Rattle.std.specs.Fmt.{signed_decimal}
use Rattle.csv_rows.specs.Rows.{row}
use Rattle.command_lines.specs.Views.{Contour}
use Rattle.cell_loops.specs.declared.corners.Corner.{Corner}
use Rattle.cell_loops.specs.declared.kinds.Family.{Family}
use Rattle.cell_loops.specs.declared.kinds.Family.TheVariants.{Inner, Outer}

abbrev pub family_word : Family → List ℕ
family_word Inner = codes "inner"
family_word Outer = codes "outer"

-- the head: the version, how many loops there are, the grid's name and the level in 0.01 dB
unfoldable pub head_row : ℕ → ℕ → Contour → List ℕ
head_row version loops spec =
    row (codes "contour" ∷ decimal version ∷ decimal loops ∷ spec.name ∷ signed_decimal spec.level ∷ [] ∷ [] ∷ [])

-- a loop by its number: its family, and how many points it has
unfoldable pub loop_row : ℕ → ℕ → Family → ℕ → List ℕ
loop_row version number family points =
    row (codes "loop" ∷ decimal version ∷ decimal number ∷ family_word family ∷ decimal points ∷ [] ∷ [] ∷ [])

-- a point of a loop by both numbers
unfoldable pub point_row : ℕ → ℕ → ℕ → Corner → List ℕ
point_row version number place corner =
    row (codes "point" ∷ decimal version ∷ decimal number ∷ decimal place ∷ [] ∷ decimal corner.x ∷ decimal corner.y
    ∷ [])

-- the points of a loop, from one with a number on
abbrev pub points_from : ℕ → ℕ → ℕ → List Corner → List (List ℕ)
points_from version number place [] = []
points_from version number place (corner ∷ corners) =
    point_row version number place corner ∷ points_from version number (suc place) corners

-- a loop, and its points behind it
abbrev pub loop_rows : ℕ → Family → ℕ → List Corner → List (List ℕ)
loop_rows version family number points =
    loop_row version number family (length points) ∷ points_from version number 0 points

-- the loops of a family, numbered from a number on
abbrev pub loops_from : ℕ → Family → ℕ → List (List Corner) → List (List ℕ)
loops_from version family number [] = []
loops_from version family number (points ∷ loops) =
    loop_rows version family number points ++ loops_from version family (suc number) loops

-- all rows: the loops are numbered over both families, the inner first
abbrev pub contour_rows : ℕ → Contour → List (List Corner) → List (List Corner) → List (List ℕ)
contour_rows version spec inner outer =
    head_row version (length inner + length outer) spec
    ∷ (loops_from version Inner 0 inner ++ loops_from version Outer (length inner) outer)

-- the text of them
abbrev pub text_of : List (List ℕ) → List ℕ
text_of rows = flat_map (λ row. row) rows
