-- The marks so far are set.
use Rattle.std.proofs.Common.{◌≡◌, ◌++◌, length, take, drop}
use Rattle.std.specs.List.{list_any}
use Rattle.map_board.proofs.InTurn.{marks_of}
use Rattle.map_board.proofs.edits.marking.mark_tested.Given as goal

abbrev pub invariant-loop-place : goal.invariant-loop-place
invariant-loop-place l = record {
  one_each : length l.marks ≡ length l.tests;
  so_far : take l.place l.marks ++ marks_of (λ test. test) (drop l.place l.tests) (drop l.place l.marks)
      ≡ marks_of (λ test. test) l.tests l.initial.marks;
  one : l.one ≡ list_any (λ test. test) (take l.place l.tests);
}
