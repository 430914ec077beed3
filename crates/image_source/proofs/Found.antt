-- Crossings with legs that are found one after another.
use Rattle.std.proofs.Common.{◌≡◌, ℕ, ◌+◌, ◌<◌, List, [], ◌∷◌, ◌++◌, length, drop, map, ap, sym, ◌∙◌, refl, add-one, append_assoc, append-nil, get_or}
use Rattle.std.specs.Prelude.{Option, Some, None, Bool, slice_get}
use Rattle.std.proofs.lemmas.List.{drop_more}
use Rattle.std.proofs.lemmas.Option.{slice_get_within, get_or_from_slice_get}
use Rattle.scene_geom.specs.declared.plan.Side.{Side}
use Rattle.scene_geom.specs.declared.reflection.Reflection.{Reflection}
use Rattle.scene_geom.specs.Bands.{all_bands}
use Rattle.scene_parts.specs.Parts.{Obstacle, sides_of}
use Rattle.scene_parts.specs.declared.screening.edge.Edge.{Edge}
use Rattle.scene_parts.specs.declared.screening.ends.Ends.{Ends}
use Rattle.scene_parts.specs.declared.screening.crossing.Crossing.{Crossing}
use Rattle.scene_parts.specs.Crossings.{counts_in}
use Rattle.image_source.specs.declared.leg.Leg.{Leg}
use Rattle.image_source.specs.LegCuts.{edge_on, crossing_on, before_all, crossings_along, crossings_from}

-- a crossing before others
before-others : (first : Option (Leg × Crossing)) (others : List (Leg × Crossing)) → before_all first others ≡ before_all first [] ++ others
before-others None others = refl
before-others (Some x) others = refl

-- a side that doesn't cross adds nothing, one that crosses its crossing
pub none-added : (leg : Leg) (path : Reflection) (ends : Ends) (n k : ℕ) (o : Obstacle) (side : Side) (found : List (Leg × Crossing)) → edge_on leg path ends o.h side ≡ None
    → found ≡ found ++ before_all (crossing_on leg path ends n k o side) []
none-added leg path ends n k o side found e = rw e (sym (append-nil found))

pub some-added : (leg : Leg) (path : Reflection) (ends : Ends) (n k : ℕ) (o : Obstacle) (side : Side) (edge : Edge) (bands : List Bool) (found : List (Leg × Crossing))
    → edge_on leg path ends o.h side ≡ Some edge → bands ≡ map (λ band. counts_in band ends o) all_bands
    → found ++ (leg, record { obstacle = n; side = k; edge = edge; bands = bands }) ∷ [] ≡ found ++ before_all (crossing_on leg path ends n k o side) []
some-added leg path ends n k o side edge bands found e is = rw (e, is) refl

-- what is found, and what the sides behind give, is the same after a side
pub side-added : (leg : Leg) (path : Reflection) (ends : Ends) (n : ℕ) (o : Obstacle) (sides : List Side) (i : ℕ) (side : Side) (found new total : List (Leg × Crossing))
    → slice_get sides i ≡ Some side → new ≡ found ++ before_all (crossing_on leg path ends n i o side) []
    → found ++ crossings_along leg path ends n i o (drop i sides) ≡ total
    → new ++ crossings_along leg path ends n (i + 1) o (drop (i + 1) sides) ≡ total
side-added leg path ends n o sides i side found new total e added h =
    let rest = crossings_along leg path ends n (i + 1) o (drop (i + 1) sides) in
    let here : drop i sides ≡ side ∷ drop (i + 1) sides =
    drop_more sides i side (slice_get_within sides i side e) ∙ ap (λ x. x ∷ drop (i + 1) sides) (get_or_from_slice_get sides i side side e) in
    let next : crossings_along leg path ends n i o (drop i sides) ≡ before_all (crossing_on leg path ends n i o side) rest =
    ap (crossings_along leg path ends n i o) here ∙ rw add-one refl in
    ap (λ xs. xs ++ rest) added ∙ append_assoc found (before_all (crossing_on leg path ends n i o side) []) rest
    ∙ ap (λ xs. found ++ xs) (sym (before-others (crossing_on leg path ends n i o side) rest) ∙ sym next) ∙ h

-- and after an obstacle
pub obstacle-added : (leg : Leg) (path : Reflection) (ends : Ends) (obstacles : List Obstacle) (i : ℕ) (o : Obstacle) (found new total : List (Leg × Crossing))
    → i < length obstacles → o ≡ get_or obstacles i o
    → new ≡ found ++ crossings_along leg path ends i 0 o (sides_of o) → found ++ crossings_from leg path ends i (drop i obstacles) ≡ total
    → new ++ crossings_from leg path ends (i + 1) (drop (i + 1) obstacles) ≡ total
obstacle-added leg path ends obstacles i o found new total below is added h =
    let rest = crossings_from leg path ends (i + 1) (drop (i + 1) obstacles) in
    let here : drop i obstacles ≡ o ∷ drop (i + 1) obstacles = drop_more obstacles i o below ∙ ap (λ x. x ∷ drop (i + 1) obstacles) (sym is) in
    let next : crossings_from leg path ends i (drop i obstacles) ≡ crossings_along leg path ends i 0 o (sides_of o) ++ rest = ap (crossings_from leg path ends i) here ∙ rw add-one refl in
    ap (λ xs. xs ++ rest) added ∙ append_assoc found (crossings_along leg path ends i 0 o (sides_of o)) rest ∙ ap (λ xs. found ++ xs) (sym next) ∙ h
