-- Crossings that are found one after another.
use Rattle.std.proofs.Common.{◌≡◌, ℕ, ◌+◌, ◌*◌, ◌<◌, ◌≤◌, ℤ, pos, negsuc, ◌+ℤ◌, ◌-ℤ◌, ◌*ℤ◌, ◌<ℤ◌, unsigned_abs, List, [], ◌∷◌, ◌++◌, length, drop, map, ap, sym, ◌∙◌, refl, arith, add-one, mul_comm, append_assoc, append-nil, get_or}
use Rattle.std.specs.Prelude.{Option, Some, None, slice_get, Bool, int_lt, nat_lt}
use Rattle.std.proofs.lemmas.Int.{ints}
use Rattle.std.proofs.lemmas.List.{drop_more}
use Rattle.std.proofs.lemmas.Option.{slice_get_within, get_or_from_slice_get}
use Rattle.scene_geom.specs.declared.plan.Side.{Side}
use Rattle.scene_geom.specs.Bands.{all_bands}
use Rattle.scene_geom.proofs.Whole.{mul_sub}
use Rattle.scene_parts.specs.Parts.{Obstacle, sides_of}
use Rattle.scene_parts.specs.declared.screening.edge.Edge.{Edge}
use Rattle.scene_parts.specs.declared.screening.ends.Ends.{Ends}
use Rattle.scene_parts.specs.declared.screening.crossing.Crossing.{Crossing}
use Rattle.scene_parts.specs.Crossings.{counts_in}
use Rattle.sight_cut.specs.Cuts.{edge_of, crossing_of, before_all, crossings_along, crossings_from}

-- a crossing before others
before-others : (first : Option Crossing) (others : List Crossing) → before_all first others ≡ before_all first [] ++ others
before-others None others = refl
before-others (Some x) others = refl

-- a side that doesn't cross adds nothing, one that crosses its crossing
pub none-added : (ends : Ends) (n k : ℕ) (o : Obstacle) (side : Side) (found : List Crossing) → edge_of ends o.h side ≡ None
    → found ≡ found ++ before_all (crossing_of ends n k o side) []
none-added ends n k o side found e = rw e (sym (append-nil found))

pub some-added : (ends : Ends) (n k : ℕ) (o : Obstacle) (side : Side) (edge : Edge) (bands : List Bool) (found : List Crossing) → edge_of ends o.h side ≡ Some edge
    → bands ≡ map (λ band. counts_in band ends o) all_bands
    → found ++ record { obstacle = n; side = k; edge = edge; bands = bands } ∷ [] ≡ found ++ before_all (crossing_of ends n k o side) []
some-added ends n k o side edge bands found e is = rw (e, is) refl

-- what is found, and what the sides behind give, is the same after a side
pub side-added : (ends : Ends) (n : ℕ) (o : Obstacle) (sides : List Side) (i : ℕ) (side : Side) (found new total : List Crossing) → slice_get sides i ≡ Some side
    → new ≡ found ++ before_all (crossing_of ends n i o side) [] → found ++ crossings_along ends n i o (drop i sides) ≡ total
    → new ++ crossings_along ends n (i + 1) o (drop (i + 1) sides) ≡ total
side-added ends n o sides i side found new total e added h =
    let rest = crossings_along ends n (i + 1) o (drop (i + 1) sides) in
    let here : drop i sides ≡ side ∷ drop (i + 1) sides =
    drop_more sides i side (slice_get_within sides i side e) ∙ ap (λ x. x ∷ drop (i + 1) sides) (get_or_from_slice_get sides i side side e) in
    let next : crossings_along ends n i o (drop i sides) ≡ before_all (crossing_of ends n i o side) rest = ap (crossings_along ends n i o) here ∙ rw add-one refl in
    ap (λ xs. xs ++ rest) added ∙ append_assoc found (before_all (crossing_of ends n i o side) []) rest
    ∙ ap (λ xs. found ++ xs) (sym (before-others (crossing_of ends n i o side) rest) ∙ sym next) ∙ h

-- and after an obstacle
pub obstacle-added : (ends : Ends) (obstacles : List Obstacle) (i : ℕ) (o : Obstacle) (found new total : List Crossing) → i < length obstacles → o ≡ get_or obstacles i o
    → new ≡ found ++ crossings_along ends i 0 o (sides_of o) → found ++ crossings_from ends i (drop i obstacles) ≡ total
    → new ++ crossings_from ends (i + 1) (drop (i + 1) obstacles) ≡ total
obstacle-added ends obstacles i o found new total below is added h =
    let rest = crossings_from ends (i + 1) (drop (i + 1) obstacles) in
    let here : drop i obstacles ≡ o ∷ drop (i + 1) obstacles = drop_more obstacles i o below ∙ ap (λ x. x ∷ drop (i + 1) obstacles) (sym is) in
    let next : crossings_from ends i (drop i obstacles) ≡ crossings_along ends i 0 o (sides_of o) ++ rest = ap (crossings_from ends i) here ∙ rw add-one refl in
    ap (λ xs. xs ++ rest) added ∙ append_assoc found (crossings_along ends i 0 o (sides_of o)) rest ∙ ap (λ xs. found ++ xs) (sym next) ∙ h

pub abs-below : (n d : ℤ) (most : ℕ) → pos 0 <ℤ n → n <ℤ d → unsigned_abs d ≤ most → unsigned_abs n ≤ most
abs-below (pos n) (pos d) most positive below h = omega (arith, ints)
abs-below (negsuc n) d most positive below h = absurd (omega (arith, ints))
abs-below (pos n) (negsuc d) most positive below h = absurd (omega (arith, ints))

-- the line of sight at a place and the edge there, both times the divisor, with nothing taken off
compared : (a b c d : ℕ) → nat_lt (a + b) (c + d) ≡ int_lt (pos a +ℤ (pos b -ℤ pos d)) (pos c)
compared a b c d = grind (arith, ints)

pub rises-is : (hs hr h : ℕ) (n d : ℤ) → pos 0 <ℤ n → n <ℤ d
    → nat_lt (hs * unsigned_abs d + hr * unsigned_abs n) (h * unsigned_abs d + hs * unsigned_abs n) ≡ int_lt (pos hs *ℤ d +ℤ n *ℤ (pos hr -ℤ pos hs)) (pos h *ℤ d)
rises-is hs hr h (pos n) (pos d) positive below =
    rw (mul_sub (pos hr) (pos hs) (pos n), mul_comm n hr, mul_comm n hs) (compared (hs * d) (hr * n) (h * d) (hs * n))
rises-is hs hr h (negsuc n) d positive below = absurd (omega (arith, ints))
rises-is hs hr h (pos n) (negsuc d) positive below = absurd (omega (arith, ints))
