use Rattle.std.proofs.Common.{rules}
use Rattle.scene_parts.proofs.screening.size_test.Breadth.exceeds_wavelength.Goals as goal

pub returns : goal.returns
returns c = search rules
