-- The rows so far, and those of the loops behind, are all rows.
use Rattle.std.proofs.Common.{◌≡◌, ◌+◌, ◌++◌, drop}
use Rattle.level_contours.specs.Texts.{loops_from}
use Rattle.level_contours.proofs.contour_rows.push_loops.Given as goal

abbrev pub invariant-loop-place : goal.invariant-loop-place
invariant-loop-place l =
    l.rows.items ++ loops_from l.version l.family (l.first + l.place) (drop l.place l.loops)
    ≡ l.initial.rows.items ++ loops_from l.version l.family l.first l.loops
