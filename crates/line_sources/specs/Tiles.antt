-- What the pieces of a leg are: together they are as long as the leg, and as loud, but for the rounding of a level.
use Rattle.std.specs.Prelude.{ℕ, suc, ◌+◌, ◌*◌, ◌^◌, ◌<◌, ◌≤◌, ℤ, pos, negsuc, ◌+ℤ◌, ◌-ℤ◌, ◌*ℤ◌, ◌≤ℤ◌, ◌<ℤ◌}
use Rattle.scene_geom.specs.declared.plan.Side.{Side}
use Rattle.scene_parts.specs.Sides.{squared_length}
use Rattle.command_lines.specs.Views.{LineSource}
use Rattle.line_sources.specs.Legs.{count_of, place_of}
use Rattle.line_sources.specs.Gains.{gain_of}

-- 10^t x is at most y; a negative power of ten stands on the other side
abbrev pub IsTenAtMost : ℤ → ℕ → ℕ → Type 0
IsTenAtMost (pos t) x y = 10 ^ t * x ≤ y
IsTenAtMost (negsuc t) x y = x ≤ 10 ^ suc t * y

-- 10^t x is above y
abbrev pub IsTenAbove : ℤ → ℕ → ℕ → Type 0
IsTenAbove (pos t) x y = y < 10 ^ t * x
IsTenAbove (negsuc t) x y = 10 ^ suc t * y < x

-- A piece has the squared length n / q, in m², where q = 10^6 count^2. A gain of t, in 0.01 dB, is a factor of
-- 10^(t/1000), so it is at most the length of a piece where 10^t q^500 <= n^500, and less than 0.02 dB below it where
-- n^500 < 10^(t+2) q^500
pub record IsGain (n count : ℕ) (t : ℤ) : Type 0 where
  pub not_above : IsTenAtMost t ((1000000 * (count * count)) ^ 500) (n ^ 500)
  pub near : IsTenAbove (t +ℤ pos 2) ((1000000 * (count * count)) ^ 500) (n ^ 500)

-- count pieces, each of the count-th part of the leg, are the fewest that are short enough
pub record AreFewest (n piece count : ℕ) : Type 0 where
  pub some : 1 ≤ count
  pub short : n ≤ count * count * (piece * piece)
  pub least : (k : ℕ) → 1 ≤ k → n ≤ k * k * (piece * piece) → count ≤ k

-- Part i of count equal parts of the way from one coordinate to another leads from i/count to (i + 1)/count of it, so
-- its middle lies at (2 i + 1)/(2 count). The coordinate z is that middle, rounded down
pub record IsMiddle (from to : ℤ) (i count : ℕ) (z : ℤ) : Type 0 where
  pub not_above : ((z -ℤ from) *ℤ pos (2 * count)) ≤ℤ (pos (2 * i + 1) *ℤ (to -ℤ from))
  pub near : (pos (2 * i + 1) *ℤ (to -ℤ from)) <ℤ (((z +ℤ pos 1) -ℤ from) *ℤ pos (2 * count))

-- the source of each piece stands there
pub record AreMiddles (leg : Side) (count : ℕ) : Type 0 where
  pub across : (i : ℕ) → i < count → IsMiddle leg.from.x leg.to.x i count (place_of leg i count).x
  pub up : (i : ℕ) → i < count → IsMiddle leg.from.y leg.to.y i count (place_of leg i count).y

-- what holds of the pieces of a leg of a line: they are equal parts of it, as few as are short enough, and as loud
pub record IsTiled (line : LineSource) (leg : Side) : Type 0 where
  pub pieces : AreFewest (squared_length leg) line.piece (count_of (squared_length leg) line.piece)
  pub middles : AreMiddles leg (count_of (squared_length leg) line.piece)
  pub powers : IsGain (squared_length leg) (count_of (squared_length leg) line.piece)
      (gain_of (squared_length leg) (count_of (squared_length leg) line.piece))
