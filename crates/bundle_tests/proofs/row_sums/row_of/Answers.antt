use Rattle.std.proofs.Common.{◌≤◌, false, List, [], ◌∷◌, length, take, sym, ap, subst, ◌∙◌, arith}
use Rattle.std.proofs.lemmas.List.{length-take-le}
use Rattle.scene_book.specs.Lists.{AreApart}
use Rattle.path_calc.specs.Bundles.{Bundle}
use Rattle.path_cache.specs.Standing.{StandAsSources}
use Rattle.path_cache.proofs.Standing.{refreshed-stands}
use Rattle.bundle_tests.proofs.row_sums.row_of.Goals as goal

-- a bundle is apart from none
alone : (bundles : List Bundle) → length bundles ≤ 1 → AreApart (λ b. b.source) bundles
alone [] few = tt
alone (b ∷ []) few = (tt, tt)
alone (b ∷ (d ∷ bs)) few = absurd (omega (arith, few))

pub refresh_sums-requires-clause-kept : goal.refresh_sums-requires-clause-kept
refresh_sums-requires-clause-kept g c =
    let bundles = c.as_slice-bundles.result.now in
    let few : length bundles ≤ 1 = omega (arith, c.if-bundles-gt1.false) in
    record {
      one_each = length-take-le (length bundles) (false ∷ []) few;
      few = omega (arith, few);
      apart = alone bundles few;
    }

pub returns-in-Ok : goal.returns-in-Ok
returns-in-Ok g c full =
    let is = c.in-Ok.ensures.value in
    subst (StandAsSources c.args.scene.now c.args.receiver.now) (sym is)
    (refreshed-stands c.args.scene.now c.args.receiver.now c.as_slice-bundles.result.now (take (length c.as_slice-bundles.result.now) (false ∷ [])) (sym (ap length is) ∙ full))
