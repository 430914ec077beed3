use Rattle.std.proofs.Common.{◌∙◌, sym, ap, arith}
use Rattle.serde_json.specs.View.{view}
use Rattle.command_lines.specs.Values.{point_of, points_of}
use Rattle.command_lines.proofs.ItemLemmas.{after-step, after-stop}
use Rattle.command_lines.proofs.values.points.points_in.Goals as goal

pub loop-item-preserved : goal.loop-item-preserved
loop-item-preserved c = rw c.in_ok-push.ensures.items
    (c.loop-item.invariant
    ∙ after-step point_of c.loop-item.points.items c.in-Some.items.now c.loop-item.item-index c.item-item.result c.in-Some-point_in.point (omega arith)
    (sym c.in-Some-point_in.is ∙ c.point_in.ensures ∙ ap (λ v. point_of (view v)) c.item-item.is))

pub returns-in_default-point_in : goal.returns-in_default-point_in
unfolding points_of
returns-in_default-point_in c = rw (← c.in-Some.ensures) (sym
    (c.loop-item.invariant
    ∙ after-stop point_of c.loop-item.points.items c.in-Some.items.now c.loop-item.item-index c.item-item.result (omega arith)
    (sym c.in_default-point_in.is ∙ c.point_in.ensures ∙ ap (λ v. point_of (view v)) c.item-item.is)))
