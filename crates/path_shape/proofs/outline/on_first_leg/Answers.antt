use Rattle.std.proofs.Common.{refl, sym, ◌∙◌}
use Rattle.path_shape.proofs.Walking.{on-leg}
use Rattle.path_shape.proofs.outline.on_first_leg.Goals as goal

pub returns-then-meets : goal.returns-then-meets
returns-then-meets c =
    on-leg _ c.args.outline.now c.args.from c.args.dir _ _ c.up_to.result c.length_inside.result (sym c.if-meets.true ∙ c.meets.ensures) c.length_inside.ensures c.up_to.ensures.from
    (rw (c.up_to.ensures.to, c.place.ensures) refl)
