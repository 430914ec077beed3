-- Outlines: lists of corners, closed by the side from the last corner back to the first.
use Rattle.std.specs.Prelude.{ℤ, pos, ◌+ℤ◌, ◌-ℤ◌, neg_ℤ, List, [], ◌∷◌, ◌++◌, map, Bool, ◌||◌, not, if◌then◌else◌}
use Rattle.std.specs.List.{fold, filter_map, list_any}
use Rattle.std.specs.Int.{int_max, int_min}
use Rattle.std.specs.Ordering.{int_eq}
use Rattle.scene_geom.specs.declared.plan.Pt.{Pt}
use Rattle.scene_geom.specs.declared.plan.Side.{Side}
use Rattle.scene_geom.specs.declared.fractions.fraction.Frac.{Frac}
use Rattle.scene_geom.specs.declared.directions.direction.Dir.{Dir}
use Rattle.scene_geom.specs.declared.meetings.crossing.Passage.{Passage}
use Rattle.scene_geom.specs.Vector.{cross}
use Rattle.scene_geom.specs.Point.{at, orient_of}
use Rattle.scene_geom.specs.Fraction.{is_ahead, is_inside}
use Rattle.scene_geom.specs.Crossing.{passage_of}

-- the sides of an open line of points: from each point to the next
abbrev pub sides_along : List Pt → List Side
sides_along [] = []
sides_along (a ∷ []) = []
sides_along (a ∷ b ∷ rest) = record { from = a; to = b } ∷ sides_along (b ∷ rest)

-- the sides of an outline: those of the line through its corners and back to its first
abbrev pub ring : List Pt → List Side
ring [] = []
ring (first ∷ rest) = sides_along ((first ∷ rest) ++ first ∷ [])

-- what the sides add to twice the area on the left of them, seen from the origin
abbrev pub swept : List Side → ℤ
swept [] = pos 0
swept (side ∷ sides) = cross (at side.from) (at side.to) +ℤ swept sides

-- twice the signed area of an outline: positive where its corners go round to the left
abbrev pub area2_of : List Pt → ℤ
area2_of outline = swept (ring outline)

-- where the sides cross the whole line from a point along a direction, in the order of the sides
abbrev pub passages_of : List Side → Pt → Dir → List Passage
passages_of sides from dir = filter_map (λ side. passage_of side from dir) sides

-- a passage to the left counts 1, to the right -1, and what lies behind the start counts 0
abbrev pub turn_of : Passage → ℤ
turn_of passage = if is_ahead passage.place then (if passage.to_left then pos 1 else neg_ℤ (pos 1)) else pos 0

-- how often the sides wind round the start of the line, counted at the places ahead of it
abbrev pub winding_of : List Passage → ℤ
winding_of [] = pos 0
winding_of (passage ∷ passages) = turn_of passage +ℤ winding_of passages

-- whether an outline, as a zone of ground (ISO 9613-2, 7.3.1), meets the way from a point along a
-- direction up to an end: some side crosses strictly between, or the outline winds round the start
abbrev pub meets_of : List Pt → Pt → Dir → Frac → Bool
meets_of outline from dir end =
    list_any (λ passage. is_inside passage.place end) (passages_of (ring outline) from dir)
    || not (int_eq (winding_of (passages_of (ring outline) from dir)) (pos 0))

-- the greatest of some numbers less the least of them, 0 for none
abbrev pub spread : List ℤ → ℤ
spread [] = pos 0
spread (z ∷ zs) = fold int_max z zs -ℤ fold int_min z zs

-- the dimension of an object normal to the line from source to receiver (ISO 9613-2, 7.4), times the
-- length of that line: the extent of its points across the line from p to q
abbrev pub extent_of : List Pt → Pt → Pt → ℤ
extent_of points p q = spread (map (orient_of p q) points)
