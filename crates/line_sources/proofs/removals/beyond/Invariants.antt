use Rattle.std.proofs.Common.{◌≡◌, take}
use Rattle.line_sources.specs.Pieces.{beyond}
use Rattle.line_sources.proofs.removals.beyond.Given as goal

abbrev pub invariant-loop-source : goal.invariant-loop-source
invariant-loop-source l = l.names.items ≡ beyond l.name l.news (take l.source-index l.sources)
