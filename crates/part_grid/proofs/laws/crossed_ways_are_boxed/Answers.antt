use Rattle.part_grid.proofs.Boxed.{crossed-ways-are-boxed}
use Rattle.part_grid.proofs.laws.crossed_ways_are_boxed.Goals as goal

pub returns : goal.returns
returns c = crossed-ways-are-boxed
