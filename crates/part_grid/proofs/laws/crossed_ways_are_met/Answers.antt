use Rattle.part_grid.proofs.Ways.{crossed-ways-are-met}
use Rattle.part_grid.proofs.laws.crossed_ways_are_met.Goals as goal

pub returns : goal.returns
returns c = crossed-ways-are-met
