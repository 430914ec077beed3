use Rattle.std.proofs.Common.{◌≡◌, ◌≤◌, arith, ap, ◌∙◌, sym, refl}
use Rattle.std.specs.Prelude.{ℤ, ◌*ℤ◌, pos, int_lt, unsigned_abs, Some}
use Rattle.scene_geom.proofs.Whole.{kept, restored, difference_kept, difference_fits, difference_within}
use Rattle.scene_geom.proofs.Vectors.{cross_eq}
use Rattle.scene_geom.proofs.Crossings.{passage-none, passage-some, divisor-within, place-fits, over_eq, apart}
use Rattle.scene_geom.proofs.meetings.crossing.passes.Goals as goal
use mir.Syntax.{w64, w128}
use mir.Val.{to_z, of_z}

pub returns-then-before-to_left-clause-value : goal.returns-then-before-to_left-clause-value
returns-then-before-to_left-clause-value c =
    let before = kept c.turn_from-before.result 33760000000000000000000000 c.turn_from-before.ensures.within (omega arith) in
    let after = kept c.turn_from-after.result 33760000000000000000000000 c.turn_from-after.ensures.within (omega arith) in
    let before_is = cross_eq _ _ _ _ _ c.turn_from-before.ensures.value refl c.between-start.ensures in
    let after_is = cross_eq _ _ _ _ _ c.turn_from-after.ensures.value refl c.between.ensures in
    sym (passage-none c.args.side c.args.from c.args.dir _ _ (record { before_is = before_is; after_is = after_is }) (rw (before, after) at c.if-before-to_left.true))

pub fraction-requires-clause-divides : goal.fraction-requires-clause-divides
fraction-requires-clause-divides c e =
    let before = kept c.turn_from-before.result 33760000000000000000000000 c.turn_from-before.ensures.within (omega arith) in
    let after = kept c.turn_from-after.result 33760000000000000000000000 c.turn_from-after.ensures.within (omega arith) in
    let d_is = difference_kept c.turn_from-after.result c.turn_from-before.result c.turn_from-after.ensures.within c.turn_from-before.ensures.within in
    apart c.turn_from-after.result c.turn_from-before.result (rw (before, after) at c.if-before-to_left.false) (sym d_is ∙ e)

pub overflow_sub-after : goal.overflow_sub-after
overflow_sub-after c = difference_fits c.turn_from-after.result c.turn_from-before.result c.turn_from-after.ensures.within c.turn_from-before.ensures.within

pub fraction-requires-clause-d_turns : goal.fraction-requires-clause-d_turns
fraction-requires-clause-d_turns c =
    rw
    (difference_kept c.turn_from-after.result c.turn_from-before.result c.turn_from-after.ensures.within c.turn_from-before.ensures.within)
    (difference_within c.turn_from-after.result c.turn_from-before.result c.turn_from-after.ensures.within c.turn_from-before.ensures.within)

-- the numbers that make the place, as they are passed on
n_is : (scaled reached w : ℤ) → unsigned_abs scaled ≤ 8796025913472000000000000 → unsigned_abs reached ≤ 128000000000000
    → scaled ≡ to_z w64 (of_z w64 reached) *ℤ w → to_z w128 (of_z w128 scaled) ≡ reached *ℤ w
n_is scaled reached w hs hr e =
    kept scaled 8796025913472000000000000 hs (omega arith) ∙ e ∙ ap (λ (z : ℤ). z *ℤ w) (restored reached hr)

pub returns-clause-value : goal.returns-clause-value
returns-clause-value c =
    let before = kept c.turn_from-before.result 33760000000000000000000000 c.turn_from-before.ensures.within (omega arith) in
    let after = kept c.turn_from-after.result 33760000000000000000000000 c.turn_from-after.ensures.within (omega arith) in
    let before_is = cross_eq _ _ _ _ _ c.turn_from-before.ensures.value refl c.between-start.ensures in
    let after_is = cross_eq _ _ _ _ _ c.turn_from-after.ensures.value refl c.between.ensures in
    let reached_is = cross_eq _ _ _ _ _ c.cross-reached.ensures.value c.between-start.ensures c.between-2.ensures in
    let over_is = n_is c.scaled.result c.cross-reached.result c.args.dir.w c.scaled.ensures.within c.cross-reached.ensures.within c.scaled.ensures.value in
    let under_is = difference_kept c.turn_from-after.result c.turn_from-before.result c.turn_from-after.ensures.within c.turn_from-before.ensures.within in
    ap (λ (z : ℤ). Some (record { place = c.fraction.result; to_left = int_lt (pos 0) z })) after
    ∙ sym
    (passage-some c.args.side c.args.from c.args.dir _ _ _ c.fraction.result (record { before_is = before_is; after_is = after_is }) reached_is
    (rw (before, after) at c.if-before-to_left.false) (c.fraction.ensures ∙ over_eq _ _ _ _ over_is under_is))

pub returns-clause-fits : goal.returns-clause-fits
returns-clause-fits c =
    let over_is = kept c.scaled.result 8796025913472000000000000 c.scaled.ensures.within (omega arith) in
    let before_is = cross_eq _ _ _ _ _ c.turn_from-before.ensures.value refl c.between-start.ensures in
    let after_is = cross_eq _ _ _ _ _ c.turn_from-after.ensures.value refl c.between.ensures in
    let under_is = difference_kept c.turn_from-after.result c.turn_from-before.result c.turn_from-after.ensures.within c.turn_from-before.ensures.within in
    place-fits c.fraction.result _ _ _ _ c.fraction.ensures over_is under_is c.scaled.ensures.within
    (divisor-within c.args.side c.args.from c.args.dir _ _ c.requires (record { before_is = before_is; after_is = after_is }))
