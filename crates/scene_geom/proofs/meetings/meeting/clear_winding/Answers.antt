use Rattle.std.proofs.Common.{◌≡◌, arith, ap, ◌∙◌, sym}
use Rattle.std.proofs.lemmas.Int.{ints}
use Rattle.std.specs.Prelude.{◌+ℤ◌}
use Rattle.scene_geom.specs.Outline.{ring}
use Rattle.scene_geom.specs.inner.ClearWinding.{clear_winding_of}
use Rattle.scene_geom.specs.declared.plan.Pt.{Pt}
use Rattle.scene_geom.proofs.OutlineLemmas.{sides-step, sides-last}
use Rattle.scene_geom.proofs.Windings.{add_turns-zero, winding-next, winding-last}
use Rattle.scene_geom.proofs.meetings.meeting.clear_winding.Goals as goal
use mir.Syntax.{w128}
use mir.Val.{to_z, of_z}
use Rattle.std.specs.Prelude.{List}

pub loop-next-init : goal.loop-next-init
loop-next-init c = record {
  within = omega arith;
  left = add_turns-zero _ ∙ ap (λ (outline : List Pt). clear_winding_of (ring outline) c.args.from c.args.dir c.args.end) (sym c.in-Some.ensures.cases.0);
}

pub loop-next-preserved : goal.loop-next-preserved
loop-next-preserved c =
    let step = sides-step c.in-Some.first.now c.loop-next.corner c.next-item.result c.in-Some.rest.now c.loop-next.next-index c.next-item.is (omega arith) in
    let sum : to_z w128 (of_z w128 (to_z w128 c.loop-next.winding-bits +ℤ to_z w128 (of_z w128 c.in_ok-winding.field-0))) ≡ to_z w128 c.loop-next.winding-bits +ℤ c.in_ok-winding.field-0 = omega (arith, ints, c.loop-next.invariant.within, c.in_ok-winding.ensures.within) in
    record {
      within = omega (arith, ints, c.loop-next.invariant.within, c.in_ok-winding.ensures.within);
      left = winding-next _ _ _ _ _ _ c.args.from c.args.dir c.args.end _ step c.in_ok-winding.ensures.value sum c.loop-next.invariant.left;
    }

pub returns : goal.returns
returns c =
    let last = sides-last c.in-Some.first.now c.loop-next.corner c.in-Some.rest.now c.loop-next.next-index c.loop-next-test.false in
    let sum : to_z w128 (of_z w128 (to_z w128 c.loop-next.winding-bits +ℤ to_z w128 (of_z w128 c.in_ok-clear_turn.field-0))) ≡ to_z w128 c.loop-next.winding-bits +ℤ c.in_ok-clear_turn.field-0 = omega (arith, ints, c.loop-next.invariant.within, c.in_ok-clear_turn.ensures.within) in
    winding-last _ _ _ _ _ c.args.from c.args.dir c.args.end _ last c.in_ok-clear_turn.ensures.value sum c.loop-next.invariant.left
