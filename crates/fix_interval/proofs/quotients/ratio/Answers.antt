use Rattle.std.proofs.Common.{sym, arith}
use Rattle.std.specs.Prelude.{unsigned_abs}
use Rattle.std.proofs.lemmas.Int.{ints}
use Rattle.fix_interval.proofs.Ratios.{ratio_of-large}
use Rattle.fix_interval.proofs.quotients.ratio.Goals as goal

pub returns-else-unsigned_abs-lt-DIVIDEND_LIMIT : goal.returns-else-unsigned_abs-lt-DIVIDEND_LIMIT
returns-else-unsigned_abs-lt-DIVIDEND_LIMIT c =
    sym (ratio_of-large c.args.p (unsigned_abs c.args.q) (omega (arith, ints)))
