-- So many items are dropped, and the others are to come.
use Rattle.std.proofs.Common.{◌≡◌, ◌+◌, drop}
use Rattle.std.specs.Vec.Iter.{into_iter_items, into_iter_len}
use Rattle.path_cache.proofs.renewing.item_behind.Given as goal

abbrev pub invariant-loop : goal.invariant-loop
invariant-loop l = record {
  items : drop l.counter (into_iter_items l.fn.rest) ≡ into_iter_items l.rest;
  len : into_iter_len l.rest + l.counter ≡ into_iter_len l.fn.rest;
}
