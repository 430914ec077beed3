use Rattle.std.proofs.Common.{◌≡◌, arith, ap, ◌∙◌, sym}
use Rattle.std.specs.Prelude.{ℤ, ◌-ℤ◌}
use Rattle.std.proofs.lemmas.Int.{ints}
use Rattle.scene_geom.specs.Fraction.{over, inner}
use Rattle.scene_geom.proofs.Whole.{abs-sub, restored, restored_difference}
use Rattle.scene_geom.proofs.Vectors.{cross_eq}
use Rattle.scene_geom.proofs.Crossings.{crosses-none, crosses-some, apart}
use Rattle.scene_geom.proofs.meetings.crossing.crosses.Goals as goal
use mir.Syntax.{w128}
use mir.Val.{to_z, of_z}

pub returns-then-before-after-clause-value : goal.returns-then-before-after-clause-value
returns-then-before-after-clause-value c =
    let before = restored c.cross-before.result c.cross-before.ensures.within in
    let after = restored c.cross-after.result c.cross-after.ensures.within in
    let before_is = cross_eq _ _ _ _ _ c.cross-before.ensures.value c.between-line.ensures c.between-start.ensures in
    let after_is = cross_eq _ _ _ _ _ c.cross-after.ensures.value c.between-line.ensures c.between.ensures in
    sym (crosses-none c.args.side c.args.p c.args.q _ _ (record { before_is = before_is; after_is = after_is }) (rw (before, after) at c.if-before-after.true))

pub inner_fraction-requires-clause-divides : goal.inner_fraction-requires-clause-divides
inner_fraction-requires-clause-divides c e =
    let before = restored c.cross-before.result c.cross-before.ensures.within in
    let after = restored c.cross-after.result c.cross-after.ensures.within in
    apart c.cross-after.result c.cross-before.result (rw (before, after) at c.if-before-after.false) (omega (arith, ints))

pub returns-clause-value : goal.returns-clause-value
returns-clause-value c =
    let before = restored c.cross-before.result c.cross-before.ensures.within in
    let after = restored c.cross-after.result c.cross-after.ensures.within in
    let before_is = cross_eq _ _ _ _ _ c.cross-before.ensures.value c.between-line.ensures c.between-start.ensures in
    let after_is = cross_eq _ _ _ _ _ c.cross-after.ensures.value c.between-line.ensures c.between.ensures in
    let reached_is = cross_eq _ _ _ _ _ c.cross-reached.ensures.value c.between-start.ensures c.between-2.ensures in
    let n_is : to_z w128 (of_z w128 c.from.result) ≡ c.cross-reached.result = omega (arith, ints) in
    let d_is : to_z w128 (of_z w128 c.from-2.result) ≡ c.cross-after.result -ℤ c.cross-before.result = restored_difference _ c.cross-after.result c.cross-before.result c.cross-after.ensures.within c.cross-before.ensures.within c.from-2.ensures in
    c.inner_fraction.ensures.value
    ∙ ap (λ (n : ℤ). inner (over n (to_z w128 (of_z w128 c.from-2.result)))) n_is
    ∙ ap (λ (d : ℤ). inner (over c.cross-reached.result d)) d_is
    ∙ sym (crosses-some c.args.side c.args.p c.args.q _ _ _ (record { before_is = before_is; after_is = after_is }) reached_is (rw (before, after) at c.if-before-after.false))

pub inner_fraction-requires-clause-d_within : goal.inner_fraction-requires-clause-d_within
inner_fraction-requires-clause-d_within c =
    rw
    (restored_difference c.from-2.result c.cross-after.result c.cross-before.result c.cross-after.ensures.within c.cross-before.ensures.within c.from-2.ensures)
    (abs-sub c.cross-after.result c.cross-before.result 128000000000000 128000000000000 c.cross-after.ensures.within c.cross-before.ensures.within)
