use Rattle.std.proofs.Common.{◌≡◌, ◌≤◌, ◌++◌, ◌∷◌, length, take, drop}
use Rattle.line_sources.specs.Legs.{legs_of}
use Rattle.line_sources.specs.Pieces.{sources_along, sources_of}
use Rattle.line_sources.proofs.sources.first_sources.Given as goal

abbrev pub invariant-loop-to : goal.invariant-loop-to
invariant-loop-to l = record {
  so_far : take 129 (l.sources.items ++ sources_along l.line (length l.sources.items) (legs_of (l.from ∷ drop l.to-index l.rest))) ≡ take 129 (sources_of l.line);
  few : length l.sources.items ≤ 129;
}
