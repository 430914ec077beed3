use Rattle.enclose_log.proofs.Monotone.{lg_low-mono, lg_high-mono}
use Rattle.enclose_log.proofs.laws.logarithm_keeps_order.Goals as goal

pub returns-clause-low : goal.returns-clause-low
returns-clause-low c = lg_low-mono

pub returns-clause-high : goal.returns-clause-high
returns-clause-high c = lg_high-mono
