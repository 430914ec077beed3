use Rattle.std.proofs.Common.{◌∙◌, ap, sym, List, subst}
use Rattle.std.proofs.lemmas.List.{take_all}
use Rattle.fix_interval.specs.Interval.{Interval}
use Rattle.fix_interval.specs.Tree.{Known, enc}
use Rattle.energy_sum.specs.Energies.{level_form}
use Rattle.path_calc.specs.Bundles.{Bundle}
use Rattle.path_calc.specs.Levels.{level_of}
use Rattle.path_calc.proofs.Bounds.{is-level}
use Rattle.path_calc.proofs.Sums.{IsCounted, summed, none-counted, next-sum, one-counted, room, sum-of-map}
use Rattle.path_calc.proofs.Adding.{long-can}
use Rattle.path_calc.proofs.totals.addition.total_level.Goals as goal

pub loop-bundle-init : goal.loop-bundle-init
loop-bundle-init c = record {
  value = c.zero-sum.ensures;
  counted = subst (IsCounted (λ (b : Bundle). b.long) c.args.bundles.now 0) (sym c.zero-sum.ensures) (none-counted (λ (b : Bundle). b.long) c.args.bundles.now);
}

pub add-requires-clause-below : goal.add-requires-clause-below
add-requires-clause-below c =
    room (λ (b : Bundle). b.long) c.args.bundles.now c.loop-bundle.bundle-index c.bundle-item.result c.loop-bundle.sum c.long_energy.result c.loop-bundle-test.true c.bundle-item.is c.loop-bundle.invariant.counted c.long_energy.ensures.value c.long_energy.ensures.energy
    (long-can c.args.bundles.now c.requires)

pub loop-bundle-preserved : goal.loop-bundle-preserved
loop-bundle-preserved c = record {
  value = next-sum (λ (b : Bundle). b.long) c.args.bundles.now c.loop-bundle.bundle-index c.bundle-item.result c.loop-bundle.sum c.add.new.self c.long_energy.result c.loop-bundle-test.true c.bundle-item.is c.loop-bundle.invariant.value c.long_energy.ensures.value c.add.ensures;
  counted = one-counted (λ (b : Bundle). b.long) c.args.bundles.now c.loop-bundle.bundle-index c.bundle-item.result c.loop-bundle.sum c.add.new.self c.long_energy.result c.loop-bundle-test.true c.bundle-item.is c.loop-bundle.invariant.counted c.long_energy.ensures.value c.long_energy.ensures.energy c.add.ensures;
}

pub returns-clause-value : goal.returns-clause-value
unfolding level_of
returns-clause-value c =
    c.level.ensures.value
    ∙ ap (λ (i : Interval). enc (level_form (Known i))) (c.loop-bundle.invariant.value ∙ ap (λ (xs : List Bundle). summed (λ (b : Bundle). b.long) xs) (take_all c.loop-bundle.bundle-index c.args.bundles.now c.loop-bundle-test.false) ∙ sym (sum-of-map (λ (b : Bundle). b.long) c.args.bundles.now))

pub returns-clause-range : goal.returns-clause-range
returns-clause-range c = is-level c.level.result c.level.ensures.bounds
