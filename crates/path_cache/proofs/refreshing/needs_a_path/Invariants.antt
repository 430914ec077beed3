-- None of the sources so far needs a path.
use Rattle.std.proofs.Common.{◌≡◌, drop}
use Rattle.std.specs.List.{list_any}
use Rattle.path_cache.specs.inner.OfOneSource.{needs_path}
use Rattle.path_cache.proofs.refreshing.needs_a_path.Given as goal

abbrev pub invariant-loop-source : goal.invariant-loop-source
invariant-loop-source l =
    list_any (needs_path l.scene l.receiver l.kept l.marks) l.scene.sources
    ≡ list_any (needs_path l.scene l.receiver l.kept l.marks) (drop l.source-index l.scene.sources)
