use Rattle.path_shape.proofs.Lengths.{paths-have_lengths}
use Rattle.path_shape.proofs.laws.paths_have_lengths.Goals as goal

pub returns : goal.returns
returns c = paths-have_lengths
