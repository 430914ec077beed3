-- The rows so far are looked at.
use Rattle.std.proofs.Common.{◌≡◌, take}
use Rattle.map_board.specs.inner.Boards.{held_looks}
use Rattle.map_board.proofs.looks.looking.look_at_each.Given as goal

abbrev pub invariant-loop-place : goal.invariant-loop-place
invariant-loop-place l = l.looks.items ≡ held_looks (take l.place l.receivers) (take l.place l.rows)
