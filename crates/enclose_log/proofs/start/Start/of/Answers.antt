use Rattle.std.proofs.Common.{sym}
use Rattle.enclose_log.proofs.DecadeLemmas.{decade_of-is, mantissa_low-within, mantissa_high-within}
use Rattle.enclose_log.proofs.start.Start.of.Goals as goal

pub returns-clause-decade : goal.returns-clause-decade
returns-clause-decade c = sym (decade_of-is c.args.end c.decade-decade.result c.decade-decade.ensures)

pub returns-clause-low : goal.returns-clause-low
returns-clause-low c = rw (decade_of-is c.args.end c.decade-decade.result c.decade-decade.ensures) c.mantissas-low.ensures.low

pub returns-clause-high : goal.returns-clause-high
returns-clause-high c = rw (decade_of-is c.args.end c.decade-decade.result c.decade-decade.ensures) c.mantissas-low.ensures.high

pub returns-clause-low_least : goal.returns-clause-low_least
returns-clause-low_least c =
    rw c.mantissas-low.ensures.low (mantissa_low-within c.args.end c.decade-decade.result c.decade-decade.ensures).0

pub returns-clause-low_below : goal.returns-clause-low_below
returns-clause-low_below c =
    rw c.mantissas-low.ensures.low (mantissa_low-within c.args.end c.decade-decade.result c.decade-decade.ensures).1

pub returns-clause-high_least : goal.returns-clause-high_least
returns-clause-high_least c =
    rw c.mantissas-low.ensures.high (mantissa_high-within c.args.end c.decade-decade.result c.decade-decade.ensures).0

pub returns-clause-high_most : goal.returns-clause-high_most
returns-clause-high_most c =
    rw c.mantissas-low.ensures.high (mantissa_high-within c.args.end c.decade-decade.result c.decade-decade.ensures).1
