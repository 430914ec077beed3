-- None of the rows so far is needy or out.
use Rattle.std.proofs.Common.{◌≡◌, drop}
use Rattle.std.specs.List.{list_any}
use Rattle.map_board.specs.inner.Boards.{is_held_unsettled}
use Rattle.map_board.proofs.rows.is_any_unsettled.Given as goal

abbrev pub invariant-loop-row : goal.invariant-loop-row
invariant-loop-row l = list_any is_held_unsettled l.rows ≡ list_any is_held_unsettled (drop l.row-index l.rows)
