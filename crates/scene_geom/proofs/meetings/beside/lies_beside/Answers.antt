use Rattle.std.proofs.Common.{sym, ◌∙◌}
use Rattle.scene_geom.proofs.Uncrossed.{beside}
use Rattle.scene_geom.proofs.meetings.beside.lies_beside.Goals as goal

pub returns : goal.returns
returns c = λ all.
    beside c.args.outline.now c.args.from c.args.dir _ c.leaves_left-left.result c.in-Some-split_first.first.now c.in-Some-split_first.rest.now
    c.in-Some-split_first.ensures.cases.0 c.in-Some.ensures c.leaves_left-left.ensures (sym c.are_on_hand.ensures ∙ all)
