-- How a side of an obstacle meets a line of sight, for screening (ISO 9613-2, 7.4), for the legs of
-- reflections (7.5) and for zones of ground (7.3.1).
use Rattle.std.specs.Prelude.{ℤ, pos, ◌*ℤ◌, Bool, true, false, not, ◌&&◌, ◌||◌, int_lt, Option}
use Rattle.std.specs.Bool.{then_some}
use Rattle.std.specs.Option.{option_map, option_and_then}
use Rattle.scene_geom.specs.declared.plan.Pt.{Pt}
use Rattle.scene_geom.specs.declared.plan.Side.{Side}
use Rattle.scene_geom.specs.declared.fractions.fraction.Frac.{Frac}
use Rattle.scene_geom.specs.declared.directions.direction.Dir.{Dir}
use Rattle.scene_geom.specs.declared.meetings.crossing.Passage.{Passage}
use Rattle.scene_geom.specs.Vector.{Vector, cross}
use Rattle.scene_geom.specs.Point.{from_to, along, orient_of}
use Rattle.scene_geom.specs.Fraction.{over, inner}
use Rattle.scene_geom.specs.Direction.{way, direct}

-- whether a point is strictly left of the line from a point along a vector
abbrev pub is_left : Pt → Vector → Pt → Bool
is_left from v c = int_lt (pos 0) (cross v (from_to from c))

-- one of two tests holds and the other doesn't
abbrev pub differ : Bool → Bool → Bool
differ true b = not b
differ false b = b

-- whether one end of the side is strictly left of the line and the other isn't. So a side along the
-- line isn't split, and a corner on the line counts as right of it
abbrev pub is_split : Side → Pt → Vector → Bool
is_split side from v = differ (is_left from v side.from) (is_left from v side.to)

-- where the side crosses the whole line from a point along a direction, in units of the direction,
-- with any sign
abbrev pub hits_of : Side → Pt → Dir → Option Frac
hits_of side from dir =
    then_some
    (is_split side from (way dir))
    (over (cross (from_to from side.from) (along side) *ℤ dir.w) (cross (way dir) (along side)))

-- the hit with the hand to which the side leads
abbrev pub passage_of : Side → Pt → Dir → Option Passage
passage_of side from dir =
    option_map (λ place. record { place = place; to_left = is_left from (way dir) side.to }) (hits_of side from dir)

-- where the side crosses strictly between p and q, as a fraction of the way from p to q
abbrev pub crosses_of : Side → Pt → Pt → Option Frac
crosses_of side p q = option_and_then inner (hits_of side p (direct p q))

-- one number is above 0 and the other below
abbrev pub are_opposite : ℤ → ℤ → Bool
are_opposite a b = int_lt a (pos 0) && int_lt (pos 0) b || int_lt b (pos 0) && int_lt (pos 0) a

-- the proper crossing: the ends of the side are strictly on different sides of the line from p to q,
-- and p and q strictly on different sides of the side's line. A side that meets the way from p to q
-- only in a corner doesn't block it
abbrev pub blocks_of : Side → Pt → Pt → Bool
blocks_of side p q =
    are_opposite (orient_of p q side.from) (orient_of p q side.to)
    && are_opposite (orient_of side.from side.to p) (orient_of side.from side.to q)
