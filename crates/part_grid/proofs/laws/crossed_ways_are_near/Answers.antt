use Rattle.part_grid.proofs.Among.{crossed-ways-are-near}
use Rattle.part_grid.proofs.laws.crossed_ways_are_near.Goals as goal

pub returns : goal.returns
returns c = crossed-ways-are-near
