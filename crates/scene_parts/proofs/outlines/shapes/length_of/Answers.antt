use Rattle.scene_parts.proofs.RootLemmas.{floor_root-is}
use Rattle.scene_parts.proofs.outlines.shapes.length_of.Goals as goal

pub returns : goal.returns
returns c = rw (← c.squared.ensures.value) (floor_root-is c.squared.result c.isqrt.result c.isqrt.ensures.square_le c.isqrt.ensures.next_square_gt)
