use Rattle.std.proofs.Common.{length, arith}
use Rattle.std.specs.Vec.Iter.{into_iter_items}
use Rattle.path_cache.specs.Renewals.{with_each}
use Rattle.path_cache.proofs.Placing.{put-on, first-place, still-places}
use Rattle.path_cache.proofs.replacing.put_each.Goals as goal

pub index_mut-requires : goal.index_mut-requires
index_mut-requires c =
    let bundles = c.loop-replaced.bundles in
    let inside = first-place (into_iter_items c.loop-replaced.replaced-iterator) (into_iter_items c.next.new.self) c.in-Some.replaced c.in-Some.ensures.steps.0 (length bundles.items) c.loop-replaced.invariant.places in
    omega (arith, inside, bundles.ok.0)

pub loop-replaced-preserved-in-Some : goal.loop-replaced-preserved-in-Some
loop-replaced-preserved-in-Some c =
    let news = into_iter_items c.loop-replaced.replaced-iterator in
    let rest = into_iter_items c.next.new.self in
    let is = c.in-Some.ensures.steps.0 in
    record {
      all = put-on news rest c.in-Some.replaced is c.loop-replaced.bundles.items (with_each c.args.news.items c.args.kept.items) c.into_inner.result c.into_inner.ensures c.loop-replaced.invariant.all;
      places = still-places news rest c.in-Some.replaced is c.loop-replaced.bundles.items c.into_inner.result c.loop-replaced.invariant.places;
    }

pub loop-replaced-preserved : goal.loop-replaced-preserved
loop-replaced-preserved c =
    let news = into_iter_items c.loop-replaced.replaced-iterator in
    let rest = into_iter_items c.next.new.self in
    let is = c.in-Some.ensures.steps.0 in
    record {
      all = put-on news rest c.in-Some.replaced is c.loop-replaced.bundles.items (with_each c.args.news.items c.args.kept.items) c.into_inner.result c.into_inner.ensures c.loop-replaced.invariant.all;
      places = still-places news rest c.in-Some.replaced is c.loop-replaced.bundles.items c.into_inner.result c.loop-replaced.invariant.places;
    }
