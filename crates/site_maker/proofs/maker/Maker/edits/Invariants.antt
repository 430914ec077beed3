-- So many edits have been added.
use Rattle.site_maker.specs.inner.Making.{Adds}
use Rattle.site_maker.specs.Site.{edit, each_below}
use Rattle.site_maker.proofs.maker.Maker.edits.Given as goal

abbrev pub invariant-loop : goal.invariant-loop
invariant-loop l = Adds (each_below l.counter (λ _. edit)) l.initial.self l.self
