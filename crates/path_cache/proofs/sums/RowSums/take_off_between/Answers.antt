use Rattle.std.proofs.Common.{◌+◌, ◌<◌, ◌++◌, List, drop, length, subst, arith}
use Rattle.path_calc.specs.Bundles.{Bundle}
use Rattle.path_cache.specs.Sums.{Fits}
use Rattle.path_cache.proofs.Ascending.{drop-here}
use Rattle.path_cache.proofs.Summing.{are-part}
use Rattle.path_cache.proofs.sums.RowSums.take_off_between.Goals as goal

pub take_off-requires : goal.take_off-requires
take_off-requires c =
    let bundles = c.args.bundles.now in
    let i = c.loop-place.place in
    let b = c.index-bundles-place.result in
    let some = c.loop-place.invariant.some in
    let inside : i < length bundles = omega (arith, c.loop-place-test.true, c.requires.to) in
    are-part some.front b (drop (i + 1) bundles) c.loop-place.self
    (subst (λ rest. Fits c.loop-place.self (some.front ++ rest)) (drop-here bundles i b inside c.index-bundles-place.is) some.fit)

pub loop-place-preserved : goal.loop-place-preserved
loop-place-preserved c =
    let bundles = c.args.bundles.now in
    let i = c.loop-place.place in
    let b = c.index-bundles-place.result in
    let some = c.loop-place.invariant.some in
    let inside : i < length bundles = omega (arith, c.loop-place-test.true, c.requires.to) in
    let less : (front : List Bundle) → Fits c.loop-place.self (front ++ drop i bundles) → Fits c.take_off.new.self (front ++ drop (i + 1) bundles) = λ front fit.
    c.take_off.ensures front (drop (i + 1) bundles)
    (subst (λ rest. Fits c.loop-place.self (front ++ rest)) (drop-here bundles i b inside c.index-bundles-place.is) fit) in
    record {
      some = record { front = some.front; fit = less some.front some.fit };
      all = λ front fit. less front (c.loop-place.invariant.all front fit);
    }
