-- The crossings among the sides near a leg.
use Rattle.std.proofs.Common.{◌≡◌, ℕ, suc, ◌+◌, ◌<◌, Bool, true, false, List, [], ◌∷◌, ◌++◌, length, take, map, filter, flat_map, ap, sym, ◌∙◌, refl, arith, get_or, append_assoc}
use Rattle.std.specs.Prelude.{Option, Some, None, slice_get}
use Rattle.std.specs.Bool.{then_some}
use Rattle.std.specs.Option.{option_map, option_and_then}
use Rattle.std.specs.List.{filter_map, enumerate_from, cons_option}
use Rattle.std.proofs.lemmas.Bool.{both_ways}
use Rattle.scene_geom.specs.declared.plan.Pt.{Pt}
use Rattle.scene_geom.specs.declared.plan.Side.{Side}
use Rattle.scene_geom.specs.declared.fractions.fraction.Frac.{Frac}
use Rattle.scene_geom.specs.declared.directions.direction.Dir.{Dir}
use Rattle.scene_geom.specs.declared.reflection.Reflection.{Reflection}
use Rattle.scene_geom.specs.Fraction.{is_inside, rest_of}
use Rattle.scene_geom.specs.Crossing.{hits_of}
use Rattle.scene_parts.specs.Parts.{Obstacle, sides_of}
use Rattle.scene_parts.specs.declared.screening.ends.Ends.{Ends}
use Rattle.scene_parts.specs.declared.screening.crossing.Crossing.{Crossing}
use Rattle.part_grid.specs.declared.owned.Owned.{Owned}
use Rattle.part_grid.specs.Ways.{cells_meet_way}
use Rattle.part_grid.specs.Numbered.{numbered}
use Rattle.part_grid.proofs.Ways.{crossed-ways-are-met}
use Rattle.part_grid.proofs.Numbered.{IsFoundAt, found-at, found-more, looked_up, filter_map-near, found-by-obstacles}
use Rattle.image_source.specs.declared.leg.Leg.{Leg}
use Rattle.image_source.specs.declared.leg.Leg.TheVariants.{First, Second}
use Rattle.image_source.specs.LegCuts.{place_up_to, place_on, crossing_on, before_all, crossings_along, crossings_from}
use Rattle.image_source.specs.inner.Near.{is_near}

-- ---- crossings as what is found of numbered sides
before-is : (first : Option (Leg × Crossing)) (others : List (Leg × Crossing)) → cons_option first others ≡ before_all first others
before-is None others = refl
before-is (Some x) others = refl

along-is : (leg : Leg) (path : Reflection) (ends : Ends) (i k : ℕ) (o : Obstacle) (sides : List Side)
    → filter_map (λ side. crossing_on leg path ends i side.0 o side.1) (enumerate_from k sides) ≡ crossings_along leg path ends i k o sides
along-is leg path ends i k o [] = refl
along-is leg path ends i k o (side ∷ sides) =
    let next : k + 1 ≡ suc k = omega arith in
    ap (cons_option (crossing_on leg path ends i k o side)) (along-is leg path ends i (k + 1) o sides ∙ ap (λ n. crossings_along leg path ends i n o sides) next)
    ∙ before-is (crossing_on leg path ends i k o side) (crossings_along leg path ends i (suc k) o sides)

from-is : (leg : Leg) (path : Reflection) (ends : Ends) (i : ℕ) (obstacles : List Obstacle)
    → flat_map (λ o. filter_map (λ side. crossing_on leg path ends o.0 side.0 o.1 side.1) (enumerate_from 0 (sides_of o.1))) (enumerate_from i obstacles) ≡ crossings_from leg path ends i obstacles
from-is leg path ends i [] = refl
from-is leg path ends i (o ∷ obstacles) =
    let next : i + 1 ≡ suc i = omega arith in
    ap (λ xs. xs ++ flat_map (λ o. filter_map (λ side. crossing_on leg path ends o.0 side.0 o.1 side.1) (enumerate_from 0 (sides_of o.1))) (enumerate_from (i + 1) obstacles)) (along-is leg path ends i 0 o (sides_of o))
    ∙ ap (λ xs. crossings_along leg path ends i 0 o (sides_of o) ++ xs) (from-is leg path ends (i + 1) obstacles ∙ ap (λ n. crossings_from leg path ends n obstacles) next)

-- ---- the sides near a leg
abbrev pub near_sides : Leg → Reflection → Ends → List Obstacle → List Owned
near_sides leg path ends obstacles = filter (is_near leg path ends) (numbered (map sides_of obstacles))

-- what such a side gives
abbrev pub near_crossing : Leg → Reflection → Ends → List Obstacle → Owned → Option (Leg × Crossing)
near_crossing leg path ends obstacles owned = looked_up (crossing_on leg path ends) obstacles owned

-- a side whose cells don't meet a way doesn't cross it
unmet-place : (end : Frac) (side : Side) (from : Pt) (dir : Dir) → cells_meet_way side from dir end ≡ false → place_up_to end side from dir ≡ None
unmet-place end side from dir unmet = by_hit (hits_of side from dir) refl where
  by_test : (place : Frac) → hits_of side from dir ≡ Some place → (b : Bool) → is_inside place end ≡ b → then_some b place ≡ None
  by_test place hit true inside = absurd (both_ways (cells_meet_way side from dir end) unmet (crossed-ways-are-met side from dir end place hit inside))
  by_test place hit false inside = refl

  by_hit : (hit : Option Frac) → hits_of side from dir ≡ hit → option_and_then (λ place. then_some (is_inside place end) place) hit ≡ None
  by_hit None e = refl
  by_hit (Some place) e = by_test place e (is_inside place end) refl

unmet-leg : (leg : Leg) (path : Reflection) (ends : Ends) (owned : Owned) → is_near leg path ends owned ≡ false → place_on leg path ends owned.side ≡ None
unmet-leg First path ends owned unmet = unmet-place path.p owned.side ends.s path.first unmet
unmet-leg Second path ends owned unmet = ap (option_map rest_of) (unmet-place (rest_of path.p) owned.side ends.r path.second unmet)

-- so it gives nothing
unmet-none : (leg : Leg) (path : Reflection) (ends : Ends) (obstacles : List Obstacle) (owned : Owned) → is_near leg path ends owned ≡ false → near_crossing leg path ends obstacles owned ≡ None
unmet-none leg path ends obstacles owned unmet = by_obstacle (slice_get obstacles owned.obstacle) where
  none : (o : Obstacle) → crossing_on leg path ends owned.obstacle owned.index o owned.side ≡ None
  none o = rw (unmet-leg leg path ends owned unmet) refl

  by_obstacle : (found : Option Obstacle) → option_and_then (λ o. crossing_on leg path ends owned.obstacle owned.index o owned.side) found ≡ None
  by_obstacle None = refl
  by_obstacle (Some o) = none o

-- and those that are near give all crossings of the leg
pub near-are-all : (leg : Leg) (path : Reflection) (ends : Ends) (obstacles : List Obstacle)
    → filter_map (near_crossing leg path ends obstacles) (near_sides leg path ends obstacles) ≡ crossings_from leg path ends 0 obstacles
near-are-all leg path ends obstacles =
    filter_map-near (is_near leg path ends) (near_crossing leg path ends obstacles) (numbered (map sides_of obstacles)) (unmet-none leg path ends obstacles)
    ∙ found-by-obstacles sides_of (crossing_on leg path ends) obstacles ∙ from-is leg path ends 0 obstacles

-- what the sides so far give, and one more
pub near-at : (leg : Leg) (path : Reflection) (ends : Ends) (obstacles : List Obstacle) (found : List Owned) (i : ℕ) (owned : Owned) → found ≡ near_sides leg path ends obstacles → i < length found → owned ≡ get_or found i owned
    → IsFoundAt sides_of obstacles (near_sides leg path ends obstacles) i owned
near-at leg path ends obstacles found i owned are below is = found-at sides_of obstacles (is_near leg path ends) found i owned are below is

pub side-added : (leg : Leg) (path : Reflection) (ends : Ends) (obstacles : List Obstacle) (found : List Owned) (i : ℕ) (owned : Owned) (o : Obstacle) (start crossings new : List (Leg × Crossing))
    → found ≡ near_sides leg path ends obstacles → i < length found → owned ≡ get_or found i owned → o ≡ get_or obstacles owned.obstacle o
    → new ≡ crossings ++ before_all (crossing_on leg path ends owned.obstacle owned.index o owned.side) []
    → crossings ≡ start ++ filter_map (near_crossing leg path ends obstacles) (take i (near_sides leg path ends obstacles))
    → new ≡ start ++ filter_map (near_crossing leg path ends obstacles) (take (i + 1) (near_sides leg path ends obstacles))
side-added leg path ends obstacles found i owned o start crossings new are below is o-is added so-far =
    let before = filter_map (near_crossing leg path ends obstacles) (take i (near_sides leg path ends obstacles)) in
    let one = crossing_on leg path ends owned.obstacle owned.index o owned.side in
    added ∙ ap (λ xs. xs ++ before_all one []) so-far ∙ append_assoc start before (before_all one [])
    ∙ ap (λ xs. start ++ (before ++ xs)) (sym (before-is one []))
    ∙ ap (λ xs. start ++ xs) (sym (found-more sides_of (crossing_on leg path ends) obstacles (near_sides leg path ends obstacles) i owned o (near-at leg path ends obstacles found i owned are below is) o-is))
