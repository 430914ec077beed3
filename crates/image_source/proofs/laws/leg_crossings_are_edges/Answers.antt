use Rattle.image_source.proofs.Edges.{leg-crossings-are-edges}
use Rattle.image_source.proofs.laws.leg_crossings_are_edges.Goals as goal

pub returns : goal.returns
returns c = leg-crossings-are-edges
