use Rattle.std.proofs.Common.{refl, sym}
use Rattle.term_ground.specs.inner.Extents.{by_ends}
use Rattle.term_ground.proofs.ShortEnds.{sum-kept, ends-interval}
use Rattle.term_ground.proofs.coverage.share.with_term.Goals as goal

pub returns-then-divides : goal.returns-then-divides
returns-then-divides c =
    let sum = c.args.sum in
    rw (c.if-is_nothing.ensures, c.if-divides.ensures refl c.args.difference)
    (sym (sum-kept (by_ends sum) (ends-interval sum.lo sum.hi sum.low_end sum.high_end sum.ordered)))
