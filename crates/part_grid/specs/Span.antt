-- Neighbouring columns or rows of cells.
use Rattle.std.specs.Prelude.{ℕ, suc, ◌-◌, min, max, Bool, ◌&&◌, nat_le, List}
use Rattle.std.specs.List.{range_with_len}
use Rattle.part_grid.specs.declared.cells.span.Span.{Span}

-- from one line to another, in either order
abbrev pub between : ℕ → ℕ → Span
between a b = record { low = min a b; high = max a b }

-- a line is one of the span
abbrev pub has : Span → ℕ → Bool
has span n = nat_le span.low n && nat_le n span.high

-- two spans share a line
abbrev pub overlap : Span → Span → Bool
overlap a b = nat_le a.low b.high && nat_le b.low a.high

-- the lines of both spans
abbrev pub common : Span → Span → Span
common a b = record { low = max a.low b.low; high = min a.high b.high }

-- the number of lines
abbrev pub width : Span → ℕ
width span = suc span.high - span.low

-- the lines of a span, from its lowest
abbrev pub lines : Span → List ℕ
lines span = range_with_len span.low (width span)
