-- No number is marked so far.
use Rattle.std.proofs.Common.{◌≡◌, ℕ, ◌*◌, ◌≤◌, ◌<◌, false}
use Rattle.part_grid.specs.inner.Marks.{is_marked}
use Rattle.part_grid.proofs.numbers.marks.Marks.next_from.Given as goal

abbrev pub invariant-loop-place : goal.invariant-loop-place
invariant-loop-place l = (k : ℕ) → l.fn.number ≤ k → k < 64 * l.place → is_marked l.self-inside.words.items k ≡ false
