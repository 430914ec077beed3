-- The rows so far, and those of the points behind, are all rows.
use Rattle.std.proofs.Common.{◌≡◌, ◌++◌, drop}
use Rattle.level_contours.specs.Texts.{points_from, loop_rows}
use Rattle.level_contours.proofs.contour_rows.push_loop.Given as goal

abbrev pub invariant-loop-place : goal.invariant-loop-place
invariant-loop-place l =
    l.rows.items ++ points_from l.version l.number l.place (drop l.place l.points)
    ≡ l.fn.rows.items ++ loop_rows l.version l.fn.family l.number l.points
