-- The legs of a line, and into how many pieces each is cut.
use Rattle.std.specs.Prelude.{ℕ, suc, ◌+◌, ◌*◌, ℤ, pos, ◌+ℤ◌, ◌-ℤ◌, ◌*ℤ◌, List, Bool, not, nat_lt, filter}
use Rattle.fix_interval.specs.Lg.{greatest}
use Rattle.fix_interval.specs.Round.{floor_of}
use Rattle.scene_geom.specs.declared.plan.Pt.{Pt}
use Rattle.scene_geom.specs.declared.plan.Side.{Side}
use Rattle.scene_geom.specs.Point.{point_at}
use Rattle.scene_geom.specs.Outline.{sides_along}
use Rattle.scene_parts.specs.Parts.{is_same}

-- a side between two points that differ
abbrev pub is_leg : Side → Bool
is_leg side = not (is_same side.from side.to)

-- the legs of a line of points: from each point to the next, where these differ
abbrev pub legs_of : List Pt → List Side
legs_of points = filter is_leg (sides_along points)

-- so many pieces of a leg, whose squared length is n mm², are each longer than a piece may be
abbrev pub is_too_few : ℕ → ℕ → ℕ → Bool
is_too_few n piece count = nat_lt (count * count * (piece * piece)) n

-- the least number of pieces, from 1 on, that aren't too long: one more than the greatest that is too few
unfoldable pub count_of : ℕ → ℕ → ℕ
count_of n piece = suc (greatest (is_too_few n piece) n)

-- the middle of a piece of so many, from one coordinate to another, rounded down to a whole millimetre; pieces are
-- numbered from 0
abbrev pub middle_of : ℤ → ℤ → ℕ → ℕ → ℤ
middle_of from to i count = from +ℤ floor_of (pos (2 * i + 1) *ℤ (to -ℤ from)) (2 * count)

-- the place of the source of a piece
abbrev pub place_of : Side → ℕ → ℕ → Pt
place_of side i count = point_at (middle_of side.from.x side.to.x i count) (middle_of side.from.y side.to.y i count)
