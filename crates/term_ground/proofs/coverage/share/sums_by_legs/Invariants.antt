use Rattle.std.proofs.Common.{◌≡◌, drop}
use Rattle.term_ground.specs.inner.Walks.{advanced, summed, same, stretches_of}
use Rattle.term_ground.proofs.coverage.share.sums_by_legs.Given as goal

abbrev pub invariant-loop-zone : goal.invariant-loop-zone
invariant-loop-zone l =
    advanced (summed (drop l.zone-index l.zones) l.outside l.path) l.total (stretches_of l.path)
    ≡ advanced (summed l.zones l.outside l.path) (same l.outside) (stretches_of l.path)
