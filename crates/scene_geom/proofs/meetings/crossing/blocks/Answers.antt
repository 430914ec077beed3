use Rattle.std.proofs.Common.{◌∙◌}
use Rattle.scene_geom.proofs.Whole.{restored}
use Rattle.scene_geom.proofs.Crossings.{opposite_eq, both_opposite, not_opposite}
use Rattle.scene_geom.proofs.meetings.crossing.blocks.Goals as goal

pub returns-then-opposite : goal.returns-then-opposite
returns-then-opposite c =
    let from = restored c.turn.result c.turn.ensures.within ∙ c.turn.ensures.value in
    let to = restored c.turn-2.result c.turn-2.ensures.within ∙ c.turn-2.ensures.value in
    let p = restored c.turn-then-opposite.result c.turn-then-opposite.ensures.within ∙ c.turn-then-opposite.ensures.value in
    let q = restored c.turn-then-opposite-2.result c.turn-then-opposite-2.ensures.within ∙ c.turn-then-opposite-2.ensures.value in
    both_opposite _ _ _ (opposite_eq _ _ _ _ _ from to c.if-opposite.ensures) (opposite_eq _ _ _ _ _ p q c.opposite-then-opposite.ensures)

pub returns-else-opposite : goal.returns-else-opposite
returns-else-opposite c =
    let from = restored c.turn.result c.turn.ensures.within ∙ c.turn.ensures.value in
    let to = restored c.turn-2.result c.turn-2.ensures.within ∙ c.turn-2.ensures.value in
    not_opposite _ _ _ c.if-opposite.false (opposite_eq _ _ _ _ _ from to c.opposite.ensures)
