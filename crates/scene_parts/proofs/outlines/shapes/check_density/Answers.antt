use Rattle.std.proofs.Common.{rules}
use Rattle.scene_parts.proofs.outlines.shapes.check_density.Goals as goal

pub returns : goal.returns
returns c = search rules
