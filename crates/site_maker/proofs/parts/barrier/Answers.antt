use Rattle.std.proofs.Common.{refl}
use Rattle.site_maker.specs.Parts.{barrier}
use Rattle.site_maker.proofs.DrawnLemmas.{line_drawn}
use Rattle.site_maker.proofs.parts.barrier.Goals as goal

pub returns : goal.returns
returns c = line_drawn (barrier c.args.number) _ _ _ _ c.barrier_line.ensures (rw (c.draw_from-h.ensures.value, c.rectangle-along.ensures.value, c.rectangle-along.ensures.state) refl) cc
