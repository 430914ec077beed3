-- The parts of the numbers below this one have been added.
use Rattle.site_maker.specs.inner.Making.{Adds}
use Rattle.site_maker.specs.Parts.{part}
use Rattle.site_maker.specs.Site.{each_below}
use Rattle.site_maker.proofs.maker.Maker.parts.Given as goal

abbrev pub invariant-loop-number : goal.invariant-loop-number
invariant-loop-number l = Adds (each_below l.number (part l.kind)) l.initial.self l.self
