-- The cells of contours are as many as the columns and rows of their grid say.
use Rattle.std.proofs.Common.{◌≡◌, ℕ, zero, suc, ◌*◌, List, length, map, refl, ap, ◌∙◌, subst, arith}
use Rattle.std.specs.Prelude.{Result, IfOk}
use Rattle.std.proofs.lemmas.List.{length-append, length-map}
use native.Mathlib.Nat.{suc-mul, mul_comm}
use Rattle.command_lines.specs.Views.{Contour}
use Rattle.command_lines.specs.inner.Ranges.{IsContour}
use Rattle.map_board.specs.declared.looks.LookAll.{LookAll}
use Rattle.cell_loops.specs.declared.corners.Corner.{Corner}
use Rattle.cell_loops.specs.declared.kinds.Cell.{Cell}
use Rattle.cell_loops.specs.declared.kinds.Family.{Family}
use Rattle.cell_loops.specs.declared.kinds.Family.TheVariants.{Inner, Outer}
use Rattle.cell_loops.specs.Plane.{plane_of}
use Rattle.cell_loops.specs.Boundary.{loops_of, points_of}
use Rattle.cell_loops.specs.Steps.{IsGrid}
use Rattle.level_contours.specs.Comparing.{cell_of}
use Rattle.level_contours.specs.GridNames.{names_along, names_from, names_of}
use Rattle.level_contours.specs.Looking.{cells_of, total_of}
use Rattle.level_contours.specs.Texts.{contour_rows}
use Rattle.noise_map.specs.Texts.{loops_in, contour_rows_in}

along-length : (name : List ℕ) (row column count : ℕ) → length (names_along name row column count) ≡ count
along-length name row column zero = refl
along-length name row column (suc count) = ap suc (along-length name row (suc column) count)

from-length : (contour : Contour) (row count : ℕ) → length (names_from contour row count) ≡ count * contour.columns
from-length contour row zero = omega arith
from-length contour row (suc count) =
    let here = along-length contour.name row 0 contour.columns in
    let rest = from-length contour (suc row) count in
    length-append (names_along contour.name row 0 contour.columns) (names_from contour (suc row) count) ∙ omega (arith, here, rest, suc-mul count contour.columns)

pub cells-grid : (look : LookAll) (contour : Contour) → IsContour contour → IsGrid contour.columns contour.rows (cells_of look contour)
cells-grid look contour is = record {
  few_columns = is.columns.high;
  few_rows = is.rows.high;
  whole =
      length-map (names_of contour) (λ (name : List ℕ). cell_of (total_of look.rows name) contour.level)
      ∙ (from-length contour 0 contour.rows ∙ mul_comm contour.rows contour.columns);
}

-- the loops of a family, where the grid and the cells go by other names
pub loops-are : (look : LookAll) (value view : Contour) (cells : List Cell) (family : Family) (loops : List (List Corner)) → view ≡ value → cells ≡ cells_of look value
    → (let set = plane_of view.columns view.rows cells family in loops ≡ map (points_of set) (loops_of set)) → loops ≡ loops_in value look family
loops-are look value view cells family loops same are is =
    is ∙ (λ i. let set = plane_of (same i).columns (same i).rows (are i) family in map (points_of set) (loops_of set))

pub rows-are : {E : Type 0} (look : LookAll) (contour : Contour) (inner outer : List (List Corner)) (result : Result (List (List ℕ)) E) → inner ≡ loops_in contour look Inner → outer ≡ loops_in contour look Outer
    → IfOk result (λ texts. texts ≡ contour_rows look.version contour inner outer) → IfOk result (λ texts. texts ≡ contour_rows_in contour look)
rows-are look contour inner outer result inside outside is =
    subst (λ (o : List (List Corner)). IfOk result (λ texts. texts ≡ contour_rows look.version contour (loops_in contour look Inner) o)) outside
    (subst (λ (n : List (List Corner)). IfOk result (λ texts. texts ≡ contour_rows look.version contour n outer)) inside is)
