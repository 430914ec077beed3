-- The rows so far are counted.
use Rattle.std.proofs.Common.{◌≡◌, take}
use Rattle.std.specs.Prelude.{count_by}
use Rattle.map_board.specs.inner.Boards.{is_held_out}
use Rattle.map_board.proofs.rows.count_out.Given as goal

abbrev pub invariant-loop-row : goal.invariant-loop-row
invariant-loop-row l = l.count ≡ count_by is_held_out (take l.row-index l.rows)
