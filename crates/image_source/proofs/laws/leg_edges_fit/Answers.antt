use Rattle.image_source.proofs.Fitting.{leg-edges-fit}
use Rattle.image_source.proofs.laws.leg_edges_fit.Goals as goal

pub returns : goal.returns
returns c = leg-edges-fit
