use Rattle.std.proofs.Common.{refl}
use Rattle.site_maker.specs.Parts.{building}
use Rattle.site_maker.proofs.DrawnLemmas.{line_drawn}
use Rattle.site_maker.proofs.parts.building.Goals as goal

pub returns : goal.returns
returns c = line_drawn (building c.args.number) _ _ _ _ c.building_line.ensures (rw (c.rho_of-rho.ensures, c.draw.ensures.value, c.draw_from-h.ensures.value, c.draw_from-h.ensures.state, c.rectangle-base.ensures.value, c.rectangle-base.ensures.state) refl) cc
