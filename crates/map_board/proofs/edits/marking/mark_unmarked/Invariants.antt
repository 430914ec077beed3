-- The bundles so far have their marks.
use Rattle.std.proofs.Common.{◌≡◌, ◌++◌, length, take, drop}
use Rattle.map_board.specs.inner.Marks.{marks_after}
use Rattle.map_board.proofs.edits.marking.mark_unmarked.Given as goal

abbrev pub invariant-loop-place : goal.invariant-loop-place
invariant-loop-place l = record {
  one_each : length l.marks ≡ length l.bundles;
  so_far : take l.place l.marks ++ marks_after l.logged.edit l.logged.old l.receiver (drop l.place l.bundles) (drop l.place l.marks)
      ≡ marks_after l.logged.edit l.logged.old l.receiver l.bundles l.initial.marks;
}
