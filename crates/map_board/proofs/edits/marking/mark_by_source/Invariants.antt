-- The bundles so far have their marks.
use Rattle.std.proofs.Common.{◌≡◌, ◌++◌, length, take, drop}
use Rattle.std.specs.List.{list_any}
use Rattle.map_board.specs.inner.Marks.{is_from, marks_from}
use Rattle.map_board.proofs.edits.marking.mark_by_source.Given as goal

abbrev pub invariant-loop-place : goal.invariant-loop-place
invariant-loop-place l = record {
  one_each : length l.marks ≡ length l.bundles;
  so_far : take l.place l.marks ++ marks_from l.name (drop l.place l.bundles) (drop l.place l.marks)
      ≡ marks_from l.name l.bundles l.initial.marks;
  one : l.one ≡ list_any (is_from l.name) (take l.place l.bundles);
}
