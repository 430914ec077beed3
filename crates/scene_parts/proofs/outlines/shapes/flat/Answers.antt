use Rattle.std.proofs.Common.{rules}
use Rattle.scene_parts.proofs.outlines.shapes.flat.Goals as goal

pub returns-in-Building : goal.returns-in-Building
returns-in-Building c = search rules
