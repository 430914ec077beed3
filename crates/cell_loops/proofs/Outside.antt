-- The cells of a grid, and none outside.
use Rattle.std.proofs.Common.{◌≡◌, ℕ, ◌+◌, ◌-◌, ◌*◌, ◌<◌, Bool, true, false, ◌&&◌, List, length, get_or, map, arith, refl, ap, ◌∙◌}
use Rattle.std.proofs.lemmas.List.{get_or-map}
use Rattle.std.proofs.lemmas.Nat.{mul-add-lt}
use Rattle.std.proofs.lemmas.Bool.Decides.{nat_tests}
use Rattle.cell_loops.specs.declared.kinds.Cell.{Cell}
use Rattle.cell_loops.specs.declared.kinds.Family.{Family}
use Rattle.cell_loops.specs.Plane.{Plane, plane_of, is_in, is_cell, cell_place, holds}

-- none has its northeast corner where x or y is 0
pub none_west : (s : Plane) (x y : ℕ) → x ≡ 0 → holds s x y ≡ false
unfolding holds
none_west s x y h = grind (arith, nat_tests)

pub none_south : (s : Plane) (x y : ℕ) → y ≡ 0 → holds s x y ≡ false
unfolding holds
none_south s x y h = grind (arith, nat_tests)

-- the cell of a column and a row
pub holds-cell : (columns rows : ℕ) (kinds : List Cell) (family : Family) (c r : ℕ) (d : Cell) → c < columns → r < rows → length kinds ≡ columns * rows
    → holds (plane_of columns rows kinds family) (c + 1) (r + 1) ≡ is_in family (get_or kinds (r * columns + c) d)
unfolding holds
holds-cell columns rows kinds family c r d in_columns in_rows whole =
    let here : is_cell columns rows (c + 1) (r + 1) ≡ true = grind (arith, nat_tests) in
    let row : r + 1 - 1 ≡ r = omega arith in
    let column : c + 1 - 1 ≡ c = omega arith in
    let below = mul-add-lt r columns c rows in_rows in_columns in
    rw (here, row, column) (get_or-map (is_in family) kinds (r * columns + c) d false (omega (arith, below, whole)))
