-- Steps have places of their own, so there are no more of them than places.
use Rattle.std.proofs.Common.{◌≡◌, ℕ, zero, suc, ◌+◌, ◌*◌, ◌/◌, ◌%◌, ◌<◌, ◌≤◌, Bool, true, false, ◌||◌, eqb, List, [], ◌∷◌, length, map, arith, refl, sym, ap, ◌∙◌, ◌⊎◌, inl, inr}
use Rattle.std.specs.List.{IsDistinct, AllByRecursion, list_any}
use Rattle.std.proofs.lemmas.Bool.{false≢true, or_cases, or_parts, or_left, or_right, eqb-true, ne_eqb}
use Rattle.std.proofs.lemmas.Bool.Decides.{nat_tests}
use Rattle.std.proofs.lemmas.Nat.{mul-add-lt, div-mul-add, mod-mul-add}
use Rattle.std.proofs.lemmas.List.{length-map}
use Rattle.std.proofs.lemmas.Map.Steps.{length-le_from_distinct_below}
use Rattle.cell_loops.specs.declared.corners.Corner.{Corner}
use Rattle.cell_loops.specs.declared.corners.Edge.{Edge}
use Rattle.cell_loops.specs.declared.corners.Way.{Way}
use Rattle.cell_loops.specs.declared.corners.Way.TheVariants.{East, North, West, South}
use Rattle.cell_loops.specs.Turning.{way_number}
use Rattle.cell_loops.specs.Plane.{Plane}
use Rattle.cell_loops.specs.Boundary.{bounds, same, step_count, run_of}
use Rattle.cell_loops.specs.inner.Steps.{IsOn, place_of, is_listed}
use Rattle.cell_loops.proofs.Edges.{same_is, same_at, bounds-on}
use Rattle.cell_loops.proofs.Runs.{Apart, length-run, bounds-listed}

way-below : (w : Way) → way_number w < 4
way-below East = omega arith
way-below North = omega arith
way-below West = omega arith
way-below South = omega arith

parts-same : (e f : Edge) → e.from.y ≡ f.from.y → e.from.x ≡ f.from.x → way_number e.way ≡ way_number f.way → e ≡ f
unfolding same
parts-same e f ys xs ways = same_is e f (grind (arith, nat_tests))

corner-below : (s : Plane) (c : Corner) → IsOn s c → c.y * (s.columns + 1) + c.x < (s.columns + 1) * (s.rows + 1)
corner-below s c on =
    let x : c.x < s.columns + 1 = omega (arith, on.x) in
    let y : c.y < s.rows + 1 = omega (arith, on.y) in
    mul-add-lt c.y (s.columns + 1) c.x (s.rows + 1) y x

pub place-below : (s : Plane) (e : Edge) → IsOn s e.from → place_of s e < step_count s
place-below s e on =
    let c = corner-below s e.from on in
    let w = way-below e.way in
    omega (arith, c, w)

-- steps at one place are one
pub place-is : (s : Plane) (e f : Edge) → IsOn s e.from → IsOn s f.from → place_of s e ≡ place_of s f → e ≡ f
place-is s e f on_e on_f h =
    let v = way-below e.way in
    let w = way-below f.way in
    let corners : e.from.y * (s.columns + 1) + e.from.x ≡ f.from.y * (s.columns + 1) + f.from.x = omega (arith, h, v, w) in
    let ways : way_number e.way ≡ way_number f.way = omega (arith, h, v, w) in
    let ex : e.from.x < s.columns + 1 = omega (arith, on_e.x) in
    let fx : f.from.x < s.columns + 1 = omega (arith, on_f.x) in
    let ys : e.from.y ≡ f.from.y =
    sym (div-mul-add e.from.y (s.columns + 1) e.from.x ex) ∙ ap (λ n. n / (s.columns + 1)) corners ∙ div-mul-add f.from.y (s.columns + 1) f.from.x fx in
    let xs : e.from.x ≡ f.from.x =
    sym (mod-mul-add e.from.y (s.columns + 1) e.from.x ex) ∙ ap (λ n. n % (s.columns + 1)) corners ∙ mod-mul-add f.from.y (s.columns + 1) f.from.x fx in
    parts-same e f ys xs ways

pub place-same : (s : Plane) (e f : Edge) → IsOn s e.from → IsOn s f.from → same e f ≡ false → eqb (place_of s e) (place_of s f) ≡ false
place-same s e f on_e on_f other =
    ne_eqb _ _ (λ h. false≢true (sym other ∙ same_at e f (place-is s e f on_e on_f h)))

-- ---- how many edges a list without an edge twice has

apart-places : (s : Plane) (e : Edge) (es : List Edge) → IsOn s e.from → ((f : Edge) → is_listed f es ≡ true → IsOn s f.from) → is_listed e es ≡ false
    → AllByRecursion (λ q. eqb (place_of s e) q ≡ false) (map (place_of s) es)
apart-places s e [] on each apart = tt
apart-places s e (f ∷ es) on each apart =
    let parts = or_parts _ _ apart in (
      place-same s e f on (each f (or_left _ _ (same_at f f refl))) parts.0,
      apart-places s e es on (λ g h. each g (or_right _ _ h)) parts.1,
    )

distinct-places : (s : Plane) (es : List Edge) → ((f : Edge) → is_listed f es ≡ true → IsOn s f.from) → Apart es → IsDistinct eqb (map (place_of s) es)
unfolding IsDistinct
distinct-places s [] each apart = tt
distinct-places s (e ∷ es) each apart = (
  apart-places s e es (each e (or_left _ _ (same_at e e refl))) (λ g h. each g (or_right _ _ h)) apart.0,
  distinct-places s es (λ g h. each g (or_right _ _ h)) apart.1,
)

below-places : (s : Plane) (es : List Edge) → ((f : Edge) → is_listed f es ≡ true → IsOn s f.from)
    → (q : ℕ) → list_any (eqb q) (map (place_of s) es) ≡ true → q < step_count s
below-places s [] each q h = absurd (false≢true h)
below-places s (e ∷ es) each q h =
    elim (or_cases _ _ h) [
      | inl here ↦ (let is : q ≡ place_of s e = eqb-true q (place_of s e) here in let below = place-below s e (each e (or_left _ _ (same_at e e refl))) in omega (arith, is, below))
      | inr later ↦ below-places s es (λ g h. each g (or_right _ _ h)) q later
    ]

pub few-apart : (s : Plane) (es : List Edge) → ((f : Edge) → is_listed f es ≡ true → IsOn s f.from) → Apart es → length es ≤ step_count s
few-apart s es each apart =
    let few = length-le_from_distinct_below (map (place_of s) es) (step_count s) (distinct-places s es each apart) (below-places s es each) in
    rw length-map at few
