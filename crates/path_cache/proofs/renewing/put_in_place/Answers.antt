use Rattle.std.proofs.Common.{◌≡◌, ◌+◌, ◌<◌, ◌++◌, ◌∷◌, take, drop, length, sym, ap, ◌∙◌, append_assoc, arith}
use Rattle.std.specs.Vec.Iter.{into_iter_items}
use Rattle.std.proofs.lemmas.List.Concat.{flat_map-cons}
use Rattle.path_cache.specs.Origins.{bundle_from, bundles_from}
use Rattle.path_cache.specs.inner.Origins.{StandsAt}
use Rattle.path_cache.proofs.Ascending.{there-is, behind-it}
use Rattle.path_cache.proofs.InPlace.{placed, as-many}
use Rattle.path_cache.proofs.renewing.put_in_place.Goals as goal

pub loop-origin-preserved : goal.loop-origin-preserved
loop-origin-preserved c =
    let kept = c.args.kept.items in
    let place = c.loop-origin.place in
    let bundles = c.loop-origin.bundles.items in
    let origin = c.in-Some.origin in
    let inv = c.loop-origin.invariant in
    let rest = into_iter_items c.next.new.self in
    let is = c.in-Some.ensures.steps.0 in
    let there : drop place c.args.origins.items ≡ origin ∷ rest = sym inv.rest ∙ is in
    let stands : StandsAt place origin = c.requires.places place origin (there-is c.args.origins.items place origin rest there) in
    let below : place < length bundles = omega (arith, inv.reach, ap length is, inv.count, c.requires.count) in
    let made = placed kept bundles place origin stands below inv.left in
    record {
      rest = sym (behind-it c.args.origins.items place origin rest there);
      all = ap (λ bs. take (place + 1) bs ++ bundles_from kept rest) c.put_new.ensures
          ∙ ap (λ bs. bs ++ bundles_from kept rest) made.0
          ∙ append_assoc (take place bundles) (bundle_from kept origin) (bundles_from kept rest)
          ∙ ap (λ bs. take place bundles ++ bs) (sym (flat_map-cons (bundle_from kept) origin rest) ∙ ap (bundles_from kept) (sym is))
          ∙ inv.all;
      left = ap (λ bs. drop (place + 1) bs) c.put_new.ensures ∙ made.1;
      count = ap length c.put_new.ensures ∙ as-many place origin bundles ∙ inv.count;
      reach = omega (arith, inv.reach, ap length is);
    }
