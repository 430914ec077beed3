use Rattle.std.proofs.Common.{◌≡◌, true, arith}
use Rattle.std.specs.Prelude.{is_some}
use Rattle.std.specs.Vec.Iter.{into_iter_items}
use Rattle.path_cache.proofs.Ascending.{one-passed, one-long}
use Rattle.path_cache.proofs.renewing.item_behind.Goals as goal

pub loop-preserved : goal.loop-preserved
loop-preserved c =
    let some : is_some c.next.result ≡ true = c.next.ensures.variant.1 (omega (arith, c.loop.invariant.len, c.loop-test.true, c.requires)) in
    record {
      items = one-passed (into_iter_items c.args.rest.now) (into_iter_items c.loop.rest) (into_iter_items c.next.new.self) c.loop.counter c.next.result some c.loop.invariant.items c.next.ensures.items;
      len = omega (arith, c.next.ensures.len, one-long c.next.result some, c.loop.invariant.len);
    }
