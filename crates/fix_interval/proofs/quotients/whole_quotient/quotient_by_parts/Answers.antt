use Rattle.std.proofs.Common.{◌^◌, arith}
use Rattle.fix_interval.proofs.Rounding.{div-parts}
use Rattle.fix_interval.proofs.quotients.whole_quotient.quotient_by_parts.Goals as goal

pub returns : goal.returns
returns c = rw (c.from.ensures, c.from-2.ensures) (div-parts c.args.n c.args.d (2 ^ 32) c.requires.positive (omega arith))
