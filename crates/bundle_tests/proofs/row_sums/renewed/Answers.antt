use Rattle.std.proofs.Common.{◌≡◌, length, sym, ap, subst, arith}
use Rattle.scene_book.specs.Lists.{AreApart}
use Rattle.path_calc.specs.Bundles.{Bundle}
use Rattle.path_cache.proofs.Standing.{as-many, apart-as-sources}
use Rattle.bundle_tests.proofs.row_sums.renewed.Goals as goal

pub of-renewal-requires-clause-kept : goal.of-renewal-requires-clause-kept
of-renewal-requires-clause-kept g c =
    let book = c.args.scene.now in
    let kept = c.args.row.bundles.items in
    let many = as-many book c.args.receiver.now kept c.requires in
    let two : length book.sources ≡ 2 = omega (arith, ap length c.sources.ensures.value) in
    let same = ap length c.as_slice-kept.ensures.value in
    record {
      one_each = omega (arith, many, two, same);
      few = omega (arith, many, two, same);
      apart = subst (AreApart (λ (bundle : Bundle). bundle.source)) (sym c.as_slice-kept.ensures.value)
          (apart-as-sources book.sources kept c.requires.of_each c.sources.ensures.apart.sources);
    }
