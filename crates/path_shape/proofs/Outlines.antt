-- What an outline holds of a path: by what its interval is known, and where its formula is sound.
use Rattle.std.proofs.Common.{◌≡◌, arith, refl, Bool, true, false, List}
use Rattle.std.specs.Prelude.{if◌then◌else◌, pos, int_lt}
use Rattle.std.proofs.lemmas.Int.{ints}
use Rattle.fix_interval.specs.Tree.{Tree, Sub, Neg, Min, IsSound, enc}
use Rattle.scene_geom.specs.declared.plan.Pt.{Pt}
use Rattle.scene_geom.specs.declared.fractions.fraction.Frac.{Frac}
use Rattle.scene_geom.specs.declared.directions.direction.Dir.{Dir}
use Rattle.scene_geom.specs.declared.meetings.crossing.Passage.{Passage}
use Rattle.scene_geom.specs.Fraction.{rest_of}
use Rattle.scene_geom.specs.Outline.{passages_of, ring, area2_of, meets_of}
use Rattle.path_shape.specs.declared.legs.Legs.{Legs}
use Rattle.path_shape.specs.declared.legs.Legs.TheVariants.{One, Two}
use Rattle.path_shape.specs.Forms.{zero_form, one_form}
use Rattle.path_shape.specs.Outlines.{before, signed, counted, left_of_sides, length_inside, length_on_leg, length_on_legs, place_form}
use Rattle.path_shape.proofs.Sums.{same-plus_all, sound-sum}

-- ---- the same intervals

same-before : (place : Frac) (a a' b b' : Tree) → enc a ≡ enc a' → enc b ≡ enc b' → enc (before place a b) ≡ enc (before place a' b')
same-before place a a' b b' e f = rw (e, f)

same-signed : (to_left : Bool) (part part' : Tree) → enc part ≡ enc part' → enc (signed to_left part) ≡ enc (signed to_left part')
same-signed true part part' e = e
same-signed false part part' e = rw e

same-left_of_sides : (passages : List Passage) (a a' b b' : Tree) → enc a ≡ enc a' → enc b ≡ enc b' → enc (left_of_sides passages a b) ≡ enc (left_of_sides passages a' b')
same-left_of_sides passages a a' b b' e f =
    same-plus_all zero_form zero_form (counted a b) (counted a' b') refl
    (λ passage. same-signed passage.to_left (before passage.place a b) (before passage.place a' b') (same-before passage.place a a' b b' e f)) passages

same-turned : (negative : Bool) (t t' : Tree) → enc t ≡ enc t' → enc (if negative then Neg t else t) ≡ enc (if negative then Neg t' else t')
same-turned true t t' e = rw e
same-turned false t t' e = e

pub same-length_inside : (outline : List Pt) (from : Pt) (dir : Dir) (a a' b b' : Tree) → enc a ≡ enc a' → enc b ≡ enc b'
    → enc (length_inside outline from dir a b) ≡ enc (length_inside outline from dir a' b')
same-length_inside outline from dir a a' b b' e f =
    same-turned (int_lt (area2_of outline) (pos 0)) (left_of_sides (passages_of (ring outline) from dir) a b) (left_of_sides (passages_of (ring outline) from dir) a' b')
    (same-left_of_sides (passages_of (ring outline) from dir) a a' b b' e f)

same-on_leg : (met : Bool) (t t' : Tree) → enc t ≡ enc t' → enc (if met then t else zero_form) ≡ enc (if met then t' else zero_form)
same-on_leg true t t' e = e
same-on_leg false t t' e = refl

same-length_on_leg : (outline : List Pt) (from : Pt) (dir : Dir) (end : Frac) (a a' b b' : Tree) → enc a ≡ enc a' → enc b ≡ enc b'
    → enc (length_on_leg outline from dir end a b) ≡ enc (length_on_leg outline from dir end a' b')
same-length_on_leg outline from dir end a a' b b' e f =
    same-on_leg (meets_of outline from dir end) (length_inside outline from dir a b) (length_inside outline from dir a' b') (same-length_inside outline from dir a a' b b' e f)

pub same-length_on_legs : (legs : Legs) (s r : Pt) (outline : List Pt) (a a' b b' : Tree) → enc a ≡ enc a' → enc b ≡ enc b'
    → enc (length_on_legs legs s r outline a b) ≡ enc (length_on_legs legs s r outline a' b')
same-length_on_legs (One dir) s r outline a a' b b' e f = same-length_inside outline s dir a a' b b' e f
same-length_on_legs (Two first second p) s r outline a a' b b' e f =
    rw (
      same-length_on_leg outline s first p a a' (Min b (place_form p)) (Min b' (place_form p)) e (rw f),
      same-length_on_leg outline r second (rest_of p) (Sub one_form b) (Sub one_form b') (Min (Sub one_form a) (place_form (rest_of p))) (Min (Sub one_form a') (place_form (rest_of p))) (rw f) (rw e),
    )

-- ---- sound formulas

pub sound-place : (place : Frac) → IsSound (place_form place)
sound-place place = omega (arith, ints, place.positive)

sound-before : (place : Frac) (a b : Tree) → IsSound a → IsSound b → IsSound (before place a b)
sound-before place a b h k = (omega arith, ((sound-place place, k), h))

sound-signed : (to_left : Bool) (part : Tree) → IsSound part → IsSound (signed to_left part)
sound-signed true part h = h
sound-signed false part h = h

sound-left_of_sides : (passages : List Passage) (a b : Tree) → IsSound a → IsSound b → IsSound (left_of_sides passages a b)
sound-left_of_sides passages a b h k =
    sound-sum (counted a b) (λ passage. sound-signed passage.to_left (before passage.place a b) (sound-before passage.place a b h k)) zero_form (omega arith) passages

sound-turned : (negative : Bool) (t : Tree) → IsSound t → IsSound (if negative then Neg t else t)
sound-turned true t h = h
sound-turned false t h = h

sound-length_inside : (outline : List Pt) (from : Pt) (dir : Dir) (a b : Tree) → IsSound a → IsSound b → IsSound (length_inside outline from dir a b)
sound-length_inside outline from dir a b h k =
    sound-turned (int_lt (area2_of outline) (pos 0)) (left_of_sides (passages_of (ring outline) from dir) a b) (sound-left_of_sides (passages_of (ring outline) from dir) a b h k)

sound-met : (met : Bool) (t : Tree) → IsSound t → IsSound (if met then t else zero_form)
sound-met true t h = h
sound-met false t h = omega arith

sound-length_on_leg : (outline : List Pt) (from : Pt) (dir : Dir) (end : Frac) (a b : Tree) → IsSound a → IsSound b → IsSound (length_on_leg outline from dir end a b)
sound-length_on_leg outline from dir end a b h k = sound-met (meets_of outline from dir end) (length_inside outline from dir a b) (sound-length_inside outline from dir a b h k)

pub sound-length_on_legs : (legs : Legs) (s r : Pt) (outline : List Pt) (a b : Tree) → IsSound a → IsSound b → IsSound (length_on_legs legs s r outline a b)
sound-length_on_legs (One dir) s r outline a b h k = sound-length_inside outline s dir a b h k
sound-length_on_legs (Two first second p) s r outline a b h k = (
  sound-length_on_leg outline s first p a (Min b (place_form p)) h (k, sound-place p),
  sound-length_on_leg outline r second (rest_of p) (Sub one_form b) (Min (Sub one_form a) (place_form (rest_of p))) (omega arith, k) ((omega arith, h), sound-place (rest_of p)),
)
