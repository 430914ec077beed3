use Rattle.std.proofs.Common.{◌∙◌, refl}
use Rattle.site_maker.proofs.lines.zone_line.Goals as goal

pub returns : goal.returns
returns c = c.in_ok-format.ensures.ok ∙ rw c.in_ok-points.ensures refl
