-- The sources so far are prepared.
use Rattle.std.proofs.Common.{◌≡◌, map, take}
use Rattle.path_calc.specs.Prepared.{prepared_of}
use Rattle.path_cache.proofs.preparing.prepare.Given as goal

abbrev pub invariant-loop-source : goal.invariant-loop-source
invariant-loop-source l = l.prepared.items ≡ map prepared_of (take l.source-index l.sources)
