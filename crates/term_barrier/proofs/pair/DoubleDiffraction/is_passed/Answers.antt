use Rattle.term_barrier.specs.inner.Reaching.{IsReach}
use Rattle.term_barrier.proofs.Passing.{passes}
use Rattle.term_barrier.proofs.pair.DoubleDiffraction.is_passed.Goals as goal

pub returns-in-Some : goal.returns-in-Some
returns-in-Some c = λ below band e.
    let pair = c.args.self.now in
    let reached : IsReach pair.spacing pair.z pair.k c.in-Some.factors = rw c.in-Some.is at pair.reached in
    passes c.args.best band pair c.in-Some.factors reached (rw e at c.stays_below.ensures below)
