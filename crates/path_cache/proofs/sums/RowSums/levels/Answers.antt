use Rattle.std.proofs.Common.{◌≡◌, length, rules, refl, ◌∙◌, lit<}
use Rattle.path_calc.specs.Levels.{IsLevel}
use Rattle.path_calc.proofs.Bounds.{is-level}
use Rattle.path_cache.proofs.SumLevels.{total-level, band-level, in-each-band, eight-alike, all-eight}
use Rattle.path_cache.proofs.sums.RowSums.levels.Goals as goal

pub invariant_of-result : goal.invariant_of-result
invariant_of-result c = record {
  total = is-level c.level.result c.level.ensures.bounds;
  eight = refl;
  bands = all-eight IsLevel c.level-2.result c.level-3.result c.level-4.result c.level-5.result c.level-6.result c.level-7.result c.level-8.result c.level-9.result
      (is-level c.level-2.result c.level-2.ensures.bounds) (is-level c.level-3.result c.level-3.ensures.bounds) (is-level c.level-4.result c.level-4.ensures.bounds)
      (is-level c.level-5.result c.level-5.ensures.bounds) (is-level c.level-6.result c.level-6.ensures.bounds) (is-level c.level-7.result c.level-7.ensures.bounds)
      (is-level c.level-8.result c.level-8.ensures.bounds) (is-level c.level-9.result c.level-9.ensures.bounds);
}

pub returns-clause-total : goal.returns-clause-total
returns-clause-total c = c.level.ensures.value

pub returns-clause-bands : goal.returns-clause-bands
returns-clause-bands c =
    let eight : length c.args.self.now.bands ≡ 8 = search rules in
    in-each-band c.args.self.now eight _ _ _ _ _ _ _ _ _ _ _ _ _ _ _ _ _
    c.level-2.ensures.value c.level-3.ensures.value c.level-4.ensures.value c.level-5.ensures.value
    c.level-6.ensures.value c.level-7.ensures.value c.level-8.ensures.value c.level-9.ensures.value

pub returns-clause-fitting : goal.returns-clause-fitting
returns-clause-fitting c bundles few fit =
    let sums = c.args.self.now in
    let eight : length c.args.self.now.bands ≡ 8 = search rules in
    let total = c.level.ensures.value ∙ total-level bundles sums fit few in
    let bands = eight-alike _ _ _ _ _ _ _ _ _ _ _ _ _ _ _ _
    (c.level-2.ensures.value ∙ band-level bundles sums fit few eight 0 (lit< tt) _)
    (c.level-3.ensures.value ∙ band-level bundles sums fit few eight 1 (lit< tt) _)
    (c.level-4.ensures.value ∙ band-level bundles sums fit few eight 2 (lit< tt) _)
    (c.level-5.ensures.value ∙ band-level bundles sums fit few eight 3 (lit< tt) _)
    (c.level-6.ensures.value ∙ band-level bundles sums fit few eight 4 (lit< tt) _)
    (c.level-7.ensures.value ∙ band-level bundles sums fit few eight 5 (lit< tt) _)
    (c.level-8.ensures.value ∙ band-level bundles sums fit few eight 6 (lit< tt) _)
    (c.level-9.ensures.value ∙ band-level bundles sums fit few eight 7 (lit< tt) _) in
    λ i. record { total = total i; bands = bands i }
