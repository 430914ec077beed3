use Rattle.std.proofs.Common.{◌∙◌, sym}
use Rattle.term_barrier.proofs.pair.DoubleDiffraction.attenuation_of.Goals as goal

pub returns-in-Some : goal.returns-in-Some
returns-in-Some c = c.attenuation.ensures ∙ c.in-Some.ensures.bends c.args.band

pub returns-in-None : goal.returns-in-None
returns-in-None c = c.exact.ensures ∙ sym (c.in-None.ensures.never c.args.band)
