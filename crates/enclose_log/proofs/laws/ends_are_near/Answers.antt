use Rattle.enclose_log.proofs.NearEnds.{lg_low-near, lg_high-near}
use Rattle.enclose_log.proofs.laws.ends_are_near.Goals as goal

pub returns-clause-low : goal.returns-clause-low
returns-clause-low c = lg_low-near

pub returns-clause-high : goal.returns-clause-high
returns-clause-high c = lg_high-near
