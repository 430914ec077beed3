use Rattle.part_grid.proofs.Among.{crossed-are-near, blocking-are-near}
use Rattle.part_grid.proofs.laws.crossed_are_near.Goals as goal

pub returns-clause-crossing : goal.returns-clause-crossing
returns-clause-crossing c = crossed-are-near

pub returns-clause-blocking : goal.returns-clause-blocking
returns-clause-blocking c = blocking-are-near
