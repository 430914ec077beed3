-- None of the rows so far is needy.
use Rattle.map_board.specs.inner.Boards.{NoneNeedyBefore}
use Rattle.map_board.proofs.rows.next_needy.Given as goal

abbrev pub invariant-loop-place : goal.invariant-loop-place
invariant-loop-place l = NoneNeedyBefore l.place l.rows
