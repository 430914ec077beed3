-- The bundles have the marks of the edits so far.
use Rattle.std.proofs.Common.{◌≡◌, length, drop}
use Rattle.map_board.specs.inner.Later.{marks_after_all}
use Rattle.map_board.proofs.returns.later.mark_by_all.Given as goal

abbrev pub invariant-loop-entry : goal.invariant-loop-entry
invariant-loop-entry l = record {
  bundles : l.cache.bundles ≡ l.initial.cache.bundles;
  order : l.cache.order ≡ l.initial.cache.order;
  one_each : length l.cache.marks.items ≡ length l.cache.bundles.items;
  marks : marks_after_all (drop l.entry-index l.later) l.receiver l.initial.cache.bundles.items l.cache.marks.items
      ≡ marks_after_all l.later l.receiver l.initial.cache.bundles.items l.initial.cache.marks.items;
}
