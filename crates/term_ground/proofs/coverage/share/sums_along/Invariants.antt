use Rattle.std.proofs.Common.{◌≡◌, drop}
use Rattle.path_shape.specs.declared.path.Path.{Path}
use Rattle.term_ground.specs.inner.Extents.{by_ends, regional_of}
use Rattle.term_ground.specs.inner.Lines.{IsLine}
use Rattle.term_ground.specs.inner.Walks.{advanced, summed, same, stretches_of}
use Rattle.term_ground.proofs.coverage.share.sums_along.Given as goal

abbrev pub invariant-loop-zone : goal.invariant-loop-zone
invariant-loop-zone l = (path : Path) → IsLine l.line path
    → advanced (summed (drop l.zone-index l.zones) (by_ends l.outside) path) (regional_of l.total) (stretches_of path)
    ≡ advanced (summed l.zones (by_ends l.outside) path) (same (by_ends l.outside)) (stretches_of path)
