use Rattle.std.proofs.Common.{refl}
use Rattle.site_maker.specs.Parts.{zone}
use Rattle.site_maker.proofs.DrawnLemmas.{line_drawn}
use Rattle.site_maker.proofs.parts.zone.Goals as goal

pub returns : goal.returns
returns c = line_drawn (zone c.args.number) _ _ _ _ c.zone_line.ensures (rw (c.draw-g.ensures.value, c.rectangle-outline.ensures.value, c.rectangle-outline.ensures.state) refl) cc
