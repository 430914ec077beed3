use Rattle.std.proofs.Common.{◌≡◌, drop, map}
use Rattle.std.specs.Prelude.{None}
use Rattle.fix_interval.specs.Tree.{enc}
use Rattle.term_foliage.specs.Foliage.{lengths_in}
use Rattle.term_foliage.specs.inner.Distances.{with_lengths}
use Rattle.term_foliage.proofs.distance.length_in_all.Given as goal

abbrev pub invariant-loop-one : goal.invariant-loop-one
invariant-loop-one l =
    with_lengths l.total (map enc (lengths_in l.path (drop l.one-index l.foliage))) ≡ with_lengths None (map enc (lengths_in l.path l.foliage))
