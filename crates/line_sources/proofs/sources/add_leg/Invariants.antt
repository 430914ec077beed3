use Rattle.std.proofs.Common.{◌≡◌, ◌+◌, ◌++◌, length}
use Rattle.std.specs.Prelude.{map}
use Rattle.std.specs.List.{range_with_len}
use Rattle.line_sources.specs.Pieces.{source_at}
use Rattle.line_sources.proofs.sources.add_leg.Given as goal

abbrev pub invariant-loop-i : goal.invariant-loop-i
invariant-loop-i l = l.sources.items ≡ l.initial.sources.items ++ map (λ i. source_at l.line l.leg (length l.initial.sources.items + i) i) (range_with_len 0 l.i)
