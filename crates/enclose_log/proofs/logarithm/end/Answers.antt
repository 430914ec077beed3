use Rattle.std.proofs.Common.{Some, ap, arith}
use Rattle.std.proofs.lemmas.Int.{ints}
use Rattle.fix_interval.specs.Units.{unit-is}
use Rattle.enclose_log.proofs.logarithm.end.Goals as goal

pub returns : goal.returns
returns c = rw unit-is (ap Some (omega (arith, ints, c.from.ensures, c.from-2.ensures)))
