use Rattle.std.proofs.Common.{rules}
use Rattle.image_source.specs.Dimensions.{least_dimension}
use Rattle.image_source.proofs.dimension.least_dimension.Goals as goal

pub returns : goal.returns
unfolding least_dimension
returns c = search rules steps 100000000
