use Rattle.part_grid.proofs.Crossed.{unmet-are-apart}
use Rattle.part_grid.proofs.laws.unmet_are_apart.Goals as goal

pub returns : goal.returns
returns c = unmet-are-apart
