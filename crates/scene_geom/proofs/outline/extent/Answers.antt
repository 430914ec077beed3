use Rattle.std.proofs.Common.{arith, ◌∙◌}
use Rattle.std.specs.Int.{int_max, int_min}
use Rattle.scene_geom.specs.Point.{orient_of}
use Rattle.scene_geom.proofs.Whole.{restored, restored_min, restored_max, restored_spread}
use Rattle.scene_geom.proofs.OutlineLemmas.{map-step, fold-step, fold-end, spread-cons}
use Rattle.scene_geom.proofs.outline.extent.Goals as goal
use mir.Syntax.{w64}
use mir.Val.{to_z}

pub loop-c-preserved : goal.loop-c-preserved
loop-c-preserved c =
    let before = c.loop-c.invariant in
    let height = c.turn-height.ensures in
    let left = map-step (orient_of c.args.p c.args.q) c.c-item.result c.in-Some.rest.now c.loop-c.c-index c.c-item.is (omega arith) in
    let least = restored_min _ _ _ _ before.least_within height.within c.min-least.ensures.value height.value in
    let greatest = restored_max _ _ _ _ before.greatest_within height.within c.max-greatest.ensures.value height.value in
    record {
      least_within = rw (restored _ least.0) least.0;
      greatest_within = rw (restored _ greatest.0) greatest.0;
      least = fold-step int_min _ _ _ _ _ _ left least.1 before.least;
      greatest = fold-step int_max _ _ _ _ _ _ left greatest.1 before.greatest;
    }

pub returns-clause-value : goal.returns-clause-value
returns-clause-value c =
    let last = c.loop-c.invariant in
    let first = restored c.turn-least.result c.turn-least.ensures.within ∙ c.turn-least.ensures.value in
    let least = fold-end int_min (orient_of c.args.p c.args.q) _ _ c.in-Some.rest.now c.loop-c.c-index c.loop-c-test.false last.least in
    let greatest = fold-end int_max (orient_of c.args.p c.args.q) _ _ c.in-Some.rest.now c.loop-c.c-index c.loop-c-test.false last.greatest in
    restored_spread _ (to_z w64 c.loop-c.greatest-bits) (to_z w64 c.loop-c.least-bits) last.greatest_within last.least_within c.from.ensures
    ∙ spread-cons c.args.points.now c.in-Some.first.now c.in-Some.rest.now c.args.p c.args.q _ _ _ c.in-Some.ensures.cases.0 first greatest least
