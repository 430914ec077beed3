use Rattle.std.proofs.Common.{◌≡◌, ◌+◌, ◌-◌, ◌<◌, ◌≤◌, pos, length, rules, sym, ap, ◌∙◌, subst, get_or, arith}
use Rattle.std.specs.Prelude.{Some}
use Rattle.std.proofs.lemmas.List.{get_or_default}
use Rattle.fix_interval.specs.Interval.{Interval}
use Rattle.energy_sum.specs.Sums.{units_of}
use Rattle.path_cache.specs.inner.TakingOff.{IsPartOf}
use Rattle.path_cache.proofs.Summing.{so-far, from-then-on}
use Rattle.path_cache.proofs.sums.take_each_off.Goals as goal

pub take_off-requires-clause-low : goal.take_off-requires-clause-low
take_off-requires-clause-low c =
    (c.requires c.loop-place.place c.index-sums-place.result c.index-energies-place.result c.loop-place-test.true).low

pub take_off-requires-clause-high : goal.take_off-requires-clause-high
take_off-requires-clause-high c =
    (c.requires c.loop-place.place c.index-sums-place.result c.index-energies-place.result c.loop-place-test.true).high

pub take_off-requires-clause-part : goal.take_off-requires-clause-part
take_off-requires-clause-part c =
    let sum = get_or c.args.sums.now c.loop-place.place c.index-sums-place.result in
    let energy = get_or c.args.energies.now c.loop-place.place c.index-energies-place.result in
    let part : IsPartOf sum energy = c.requires c.loop-place.place c.index-sums-place.result c.index-energies-place.result c.loop-place-test.true in
    subst (λ (s : Interval). units_of energy.lo ≤ units_of s.lo) (sym (c.loop-place.invariant.rest c.loop-place.place c.index-sums-place.result (omega arith))) part.part

pub take_off-requires-clause-ordered : goal.take_off-requires-clause-ordered
take_off-requires-clause-ordered c =
    let sum = get_or c.args.sums.now c.loop-place.place c.index-sums-place.result in
    let energy = get_or c.args.energies.now c.loop-place.place c.index-energies-place.result in
    let part : IsPartOf sum energy = c.requires c.loop-place.place c.index-sums-place.result c.index-energies-place.result c.loop-place-test.true in
    subst (λ (s : Interval). units_of s.lo + units_of energy.hi ≤ units_of s.hi + units_of energy.lo) (sym (c.loop-place.invariant.rest c.loop-place.place c.index-sums-place.result (omega arith))) part.ordered

pub loop-place-preserved : goal.loop-place-preserved
loop-place-preserved c =
    let i = c.loop-place.place in
    let inside : i < length c.loop-place.sums = omega (arith, c.loop-place-test.true, c.loop-place.invariant.eight) in
    let olds = c.args.sums.now in
    let energies = c.args.energies.now in
    let sum = c.index-sums-place.result in
    let energy = c.index-energies-place.result in
    let old : (d : Interval) → get_or c.loop-place.sums i sum ≡ get_or olds i d = λ d.
    c.loop-place.invariant.rest i sum (omega arith) ∙ get_or_default olds i sum d (search rules) in
    let part : (e : Interval) → get_or energies i energy ≡ get_or energies i e = λ e. get_or_default energies i energy e (search rules) in
    record {
      eight = search rules;
      low = λ k d e below. so-far (λ j (s : Interval). s.lo ≡ Some (pos (units_of (get_or olds j d).lo - units_of (get_or energies j e).lo)))
          c.loop-place.sums i c.take_off.new.self d inside (λ j less. c.loop-place.invariant.low j d e less) (c.take_off.ensures.low ∙ ap (λ (s : Interval). Some (pos (units_of s.lo - units_of (get_or energies i energy).lo))) (old d) ∙ ap (λ (x : Interval). Some (pos (units_of (get_or olds i d).lo - units_of x.lo))) (part e)) k below;
      high = λ k d e below. so-far (λ j (s : Interval). s.hi ≡ Some (pos (units_of (get_or olds j d).hi - units_of (get_or energies j e).hi)))
          c.loop-place.sums i c.take_off.new.self d inside (λ j less. c.loop-place.invariant.high j d e less) (c.take_off.ensures.high ∙ ap (λ (s : Interval). Some (pos (units_of s.hi - units_of (get_or energies i energy).hi))) (old d) ∙ ap (λ (x : Interval). Some (pos (units_of (get_or olds i d).hi - units_of x.hi))) (part e)) k below;
      rest = λ k d above. from-then-on c.loop-place.sums olds i c.take_off.new.self d (λ j more. c.loop-place.invariant.rest j d more) k above;
    }
