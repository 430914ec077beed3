use Rattle.part_grid.proofs.Among.{lines-are-floors}
use Rattle.part_grid.proofs.laws.lines_are_floors.Goals as goal

pub returns : goal.returns
returns c = lines-are-floors
