use Rattle.std.proofs.Common.{◌∙◌, ◌≡◌, ◌<◌, ◌≤◌, ap, sym, subst, List, arith, ◌+◌, ◌*◌, ℕ, length, refl}
use Rattle.fix_interval.specs.Values.{add_of}
use Rattle.std.proofs.lemmas.List.{take_all}
use Rattle.path_calc.specs.declared.energies.hearing.Heard.{Heard}
use Rattle.path_calc.specs.inner.Ranges.{IsSumOf}
use Rattle.path_calc.proofs.Bounds.{small-energies}
use Rattle.path_calc.proofs.Sums.{summed, no-sum, next-sum, sums-added}
use Rattle.path_calc.proofs.energies.long_sum.Goals as goal

pub loop-heard-init : goal.loop-heard-init
loop-heard-init c = record { value = c.exact-sum.ensures; bounds = subst (IsSumOf 0) (sym c.exact-sum.ensures) (no-sum 0) }

pub plus-sum-requires-clause-first : goal.plus-sum-requires-clause-first
plus-sum-requires-clause-first c = small-energies (c.loop-heard.heard-index * 16387) c.loop-heard.sum (omega arith) c.loop-heard.invariant.bounds

pub plus-sum-requires-clause-second : goal.plus-sum-requires-clause-second
plus-sum-requires-clause-second c = small-energies 16387 _ (omega arith) (c.requires c.loop-heard.heard-index c.heard-item.result (omega arith))

pub loop-heard-preserved : goal.loop-heard-preserved
loop-heard-preserved c =
    let i = c.loop-heard.heard-index in
    let xs = c.args.bands.now in
    let h = c.heard-item.result in
    let below : i < length xs = omega arith in
    let long = subst (λ (x : Heard). IsSumOf 16387 x.long) (sym c.heard-item.is) (c.requires i h below) in
    let next = c.plus-sum.ensures ∙ ap (λ (x : Heard). add_of c.loop-heard.sum x.long) (sym c.heard-item.is) in
    record {
      value = next-sum (λ (x : Heard). x.long) xs i h c.loop-heard.sum c.plus-sum.result h.long below c.heard-item.is c.loop-heard.invariant.value refl next;
      bounds = subst (IsSumOf ((i + 1) * 16387)) (sym next) (subst (λ (n : ℕ). IsSumOf n (add_of c.loop-heard.sum h.long)) (omega arith) (sums-added c.loop-heard.sum h.long (i * 16387) 16387 (omega arith) c.loop-heard.invariant.bounds long));
    }

pub returns-clause-value : goal.returns-clause-value
returns-clause-value c =
    let all : length c.args.bands.now ≤ c.loop-heard.heard-index = omega arith in
    c.loop-heard.invariant.value ∙ ap (λ (xs : List Heard). summed (λ (h : Heard). h.long) xs) (take_all c.loop-heard.heard-index c.args.bands.now all)

pub returns-clause-bounds : goal.returns-clause-bounds
returns-clause-bounds c =
    let all : c.loop-heard.heard-index ≡ 8 = omega arith in
    subst (λ (n : ℕ). IsSumOf (n * 16387) c.loop-heard.sum) all c.loop-heard.invariant.bounds
