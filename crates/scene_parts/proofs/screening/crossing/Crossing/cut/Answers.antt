use Rattle.std.proofs.Common.{rules}
use Rattle.scene_parts.proofs.screening.crossing.Crossing.cut.Goals as goal

pub returns : goal.returns
returns c = search rules
