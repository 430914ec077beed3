use Rattle.edge_chain.specs.Chain.{blocks_chain}
use Rattle.scene_parts.specs.Parts.{sides_of}
use Rattle.path_calc.proofs.Stretching.{side-crosses, side-passed}
use Rattle.path_calc.proofs.lateral.blocked.obstructs.Goals as goal

pub returns-then-is_blocked : goal.returns-then-is_blocked
returns-then-is_blocked c =
    side-crosses (blocks_chain c.args.corners.now c.args.ends.s c.args.ends.r) (sides_of c.args.obstacle.now) c.loop-i.i c.side_of.result _
    c.side_of.ensures c.is_blocked.ensures c.if-is_blocked.true

pub loop-i-preserved : goal.loop-i-preserved
loop-i-preserved c =
    side-passed (blocks_chain c.args.corners.now c.args.ends.s c.args.ends.r) (sides_of c.args.obstacle.now) c.loop-i.i c.side_of.result _
    c.side_of.ensures c.is_blocked.ensures c.if-is_blocked.false c.loop-i.invariant
