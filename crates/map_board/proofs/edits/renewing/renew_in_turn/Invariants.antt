-- The rows so far are renewed, and the tests that are left are those of the rows from here on.
use Rattle.std.proofs.Common.{◌≡◌, ◌≤◌, drop}
use Rattle.std.specs.Prelude.{vec_capacity, IfSome}
use Rattle.map_board.specs.inner.Paths.{tests_of}
use Rattle.map_board.specs.inner.Changes.{AreRenewed}
use Rattle.map_board.proofs.edits.renewing.renew_in_turn.Given as goal

abbrev pub invariant-loop-place : goal.invariant-loop-place
invariant-loop-place l = record {
  upto : l.place ≤ l.count;
  room : vec_capacity l.rows ≡ vec_capacity l.fn.rows;
  renewed : AreRenewed l.change l.news l.fn.rows.items l.place l.rows.items;
  left : IfSome l.left (λ t. t.now ≡ tests_of l.change.logged (drop l.place l.news) (drop l.place l.fn.rows.items));
}
