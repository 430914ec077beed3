use Rattle.std.proofs.Common.{◌∙◌, sym}
use Rattle.term_barrier.proofs.pair.DoubleDiffraction.attenuation.Goals as goal

pub returns : goal.returns
returns c = c.double_attenuation.ensures ∙ sym c.argument.ensures
