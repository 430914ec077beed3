use Rattle.std.proofs.Common.{rules}
use Rattle.image_source.specs.Dimensions.{incidence}
use Rattle.image_source.proofs.dimension.incidence.Goals as goal

pub returns : goal.returns
unfolding incidence
returns c = search rules steps 100000000
