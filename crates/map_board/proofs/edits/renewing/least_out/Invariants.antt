-- The least version that is out of the rows so far.
use Rattle.std.proofs.Common.{ℕ, ◌≤◌, take}
use Rattle.std.specs.Prelude.{All}
use Rattle.map_board.specs.inner.Boards.{IsOutSince}
use Rattle.map_board.proofs.edits.renewing.least_out.Given as goal

abbrev pub invariant-loop-row : goal.invariant-loop-row
invariant-loop-row l = record {
  reaches : All (IsOutSince l.least) (take l.row-index l.rows);
  newest : l.least ≤ l.newest;
  start : (start : ℕ) → start ≤ l.newest → All (IsOutSince start) l.rows → start ≤ l.least;
}
