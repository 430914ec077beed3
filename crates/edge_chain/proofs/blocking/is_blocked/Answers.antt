use Rattle.std.proofs.Common.{◌∙◌, sym, refl}
use Rattle.edge_chain.proofs.Blocked.{next-blocked, next-passed, any-last}
use Rattle.edge_chain.proofs.blocking.is_blocked.Goals as goal

pub loop-point-init : goal.loop-point-init
loop-point-init c = refl

pub returns-then-blocks : goal.returns-then-blocks
returns-then-blocks c =
    next-blocked c.args.side c.loop-point.from c.args.r c.point-item.result c.args.chain.now c.loop-point.point-index _ _ c.loop-point.invariant
    c.point-item.is c.loop-point-test.true c.blocks-in-loop-point.ensures c.if-blocks.true

pub loop-point-preserved : goal.loop-point-preserved
loop-point-preserved c =
    next-passed c.args.side c.loop-point.from c.args.r c.point-item.result c.args.chain.now c.loop-point.point-index _ _ c.loop-point.invariant
    c.point-item.is c.loop-point-test.true c.blocks-in-loop-point.ensures c.if-blocks.false

pub returns : goal.returns
returns c =
    c.blocks-2.ensures ∙ sym (any-last c.args.side c.loop-point.from c.args.r c.args.chain.now c.loop-point.point-index c.loop-point-test.false)
    ∙ c.loop-point.invariant
