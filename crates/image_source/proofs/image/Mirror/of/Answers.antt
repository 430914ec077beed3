use Rattle.image_source.proofs.Walls.{mirror-kept}
use Rattle.image_source.proofs.image.Mirror.of.Goals as goal

pub invariant_of-result : goal.invariant_of-result
invariant_of-result c = rw (← c.unfold-plan.ensures.value) at (mirror-kept c.args.side c.args.s c.args.r c.requires)
