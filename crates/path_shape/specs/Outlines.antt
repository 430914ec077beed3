-- Outlines that a path meets: how much of the path they hold. Places on a path are fractions of its plan length.
use Rattle.std.specs.Prelude.{pos, unsigned_abs, int_lt, Bool, true, false, ◌||◌, List, map, if◌then◌else◌}
use Rattle.std.specs.List.{filter}
use Rattle.fix_interval.specs.Tree.{Tree, Const, Add, Sub, Neg, Max, Min}
use Rattle.scene_geom.specs.declared.plan.Pt.{Pt}
use Rattle.scene_geom.specs.declared.fractions.fraction.Frac.{Frac}
use Rattle.scene_geom.specs.declared.directions.direction.Dir.{Dir}
use Rattle.scene_geom.specs.declared.meetings.crossing.Passage.{Passage}
use Rattle.scene_geom.specs.Fraction.{over, rest_of}
use Rattle.scene_geom.specs.Outline.{ring, area2_of, passages_of, meets_of}
use Rattle.path_shape.specs.declared.legs.Legs.{Legs}
use Rattle.path_shape.specs.declared.legs.Legs.TheVariants.{One, Two}
use Rattle.path_shape.specs.declared.path.Path.{Path}
use Rattle.path_shape.specs.Forms.{zero_form, one_form, plus_all}

-- ---- a line and an outline

-- a place as a formula
abbrev pub place_form : Frac → Tree
place_form place = Const place.n (unsigned_abs place.d)

-- how much of the stretch from a to b lies before a place
abbrev pub before : Frac → Tree → Tree → Tree
before place a b = Max zero_form (Sub (Min (place_form place) b) a)

-- what a side adds that leads to the left of the line, and takes off that leads to the right
abbrev pub signed : Bool → Tree → Tree
signed true part = part
signed false part = Neg part

abbrev pub counted : Tree → Tree → Passage → Tree
counted a b passage = signed passage.to_left (before passage.place a b)

-- the sum over the sides that cross the whole line, at places of any sign
abbrev pub left_of_sides : List Passage → Tree → Tree → Tree
left_of_sides passages a b = plus_all zero_form (map (counted a b) passages)

-- how much of the stretch from a to b, along a direction from a point, an outline holds. One whose corners go round to
-- the right, so that its area is negative, counts with the other sign
abbrev pub length_inside : List Pt → Pt → Dir → Tree → Tree → Tree
length_inside outline from dir a b =
    if int_lt (area2_of outline) (pos 0)
    then Neg (left_of_sides (passages_of (ring outline) from dir) a b)
    else left_of_sides (passages_of (ring outline) from dir) a b

-- ---- a path and an outline

-- the place 1
abbrev pub whole : Frac
whole = over (pos 1) (pos 1)

-- whether an outline meets a path: its direct line, or a leg
abbrev pub meets_legs : Legs → Pt → Pt → List Pt → Bool
meets_legs (One dir) s r outline = meets_of outline s dir whole
meets_legs (Two first second p) s r outline =
    meets_of outline s first p || meets_of outline r second (rest_of p)

-- those of some things with outlines that count on a path: the ones whose outline meets it
abbrev pub met : {A : Type 0} → (A → List Pt) → Path → List A → List A
met outline_of path things = filter (λ thing. meets_legs path.legs path.s path.r (outline_of thing)) things

-- how much of a stretch of a leg an outline holds: nothing where it doesn't meet the leg
abbrev pub length_on_leg : List Pt → Pt → Dir → Frac → Tree → Tree → Tree
length_on_leg outline from dir end a b =
    if meets_of outline from dir end then length_inside outline from dir a b else zero_form

-- How much of the stretch from u0 to u1 of a path an outline holds that meets the path. The second leg of a path by way
-- of a wall leads from the receiver, so that its places count from there
abbrev pub length_on_legs : Legs → Pt → Pt → List Pt → Tree → Tree → Tree
length_on_legs (One dir) s r outline u0 u1 = length_inside outline s dir u0 u1
length_on_legs (Two first second p) s r outline u0 u1 =
    Add
    (length_on_leg outline s first p u0 (Min u1 (place_form p)))
    (length_on_leg outline r second (rest_of p) (Sub one_form u1) (Min (Sub one_form u0) (place_form (rest_of p))))
