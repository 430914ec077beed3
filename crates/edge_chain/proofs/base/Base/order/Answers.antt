use Rattle.std.proofs.Common.{arith, ◌∙◌}
use Rattle.scene_geom.proofs.Whole.{kept}
use Rattle.edge_chain.proofs.Bearings.{order-from}
use Rattle.edge_chain.proofs.base.Base.order.Goals as goal

pub returns : goal.returns
returns c =
    order-from _ _ _ _ _ _ _ _ _ c.then.ensures c.cmp.ensures c.cmp-2.ensures
    (kept c.turn-turn.result 128000000000000 c.turn-turn.ensures.within (omega arith) ∙ c.turn-turn.ensures.value)
    (kept c.off-off_b.result 128000000000000 c.off-off_b.ensures.within (omega arith) ∙ c.off-off_b.ensures.value)
    (kept c.off-off_a.result 128000000000000 c.off-off_a.ensures.within (omega arith) ∙ c.off-off_a.ensures.value)
