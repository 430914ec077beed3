-- Loops begin with their least edges, at a turn, and stand in the order of these.
use Rattle.std.proofs.Common.{◌≡◌, ℕ, zero, suc, ◌+◌, ◌-◌, ◌<◌, ◌≤◌, Bool, true, false, not, ◌||◌, List, [], ◌∷◌, length, get_or, map, arith, refl, sym, ap, ◌∙◌, ◌⊎◌, inl, inr}
use Rattle.std.specs.List.{All, AllPairs}
use Rattle.std.proofs.lemmas.Bool.{false≢true, or_left, or_right, or_parts, and_parts, not_from_false}
use Rattle.std.proofs.lemmas.Bool.Decides.{nat_tests}
use Rattle.std.proofs.lemmas.List.Elements.{All-nil, All-cons}
use Rattle.cell_loops.specs.declared.corners.Corner.{Corner}
use Rattle.cell_loops.specs.declared.corners.Edge.{Edge}
use Rattle.cell_loops.specs.declared.corners.Way.{Way}
use Rattle.cell_loops.specs.declared.corners.Way.TheVariants.{East, North, West, South}
use Rattle.cell_loops.specs.Turning.{same_way, way_number}
use Rattle.cell_loops.specs.Plane.{Plane, holds, around}
use Rattle.cell_loops.specs.Boundary.{step_of, bounds, same, precedes, next_of, until, run_of, step_count, loop_from, loops_of, begins, came_by, turns_at}
use Rattle.cell_loops.specs.inner.Steps.{is_listed}
use Rattle.cell_loops.specs.Separation.{BeginsLeast, Before, IsOrdered}
use Rattle.cell_loops.proofs.Edges.{IsWithin, holds-within, same_is, same_at, same_refl, came_by-next}
use Rattle.cell_loops.proofs.Runs.{after, after-next, bounds-after, Apart}
use Rattle.cell_loops.proofs.Cycles.{Cycle, cycle-from, in_loop, loop-self, loop-next, loop-listed, bounds-loop}
use Rattle.cell_loops.proofs.Order.{precedes_all, precedes-total, Ascends, ascends-apart}
use Rattle.cell_loops.proofs.Least.{beginnings, ascends-beginnings, bounds-beginnings, begins-beginnings, begins-least}
use Rattle.cell_loops.proofs.Once.{all-loops, apart-loop}

-- ---- the least edge turns

-- no loop that begins with an edge to the west or the south
next-before : (s : Plane) (c : Corner) (w : Way) (v : Way) → bounds s (record { from = c; way = w }) ≡ true → 1 < way_number w
    → precedes (record { from = step_of c w; way = v }) (record { from = c; way = w }) ≡ true
unfolding bounds around precedes
next-before s c East v h low = absurd (omega arith)
next-before s c North v h low = absurd (omega arith)
next-before s c West v h low = let i = holds-within s c.x c.y (and_parts _ _ h).0 in let x = i.west in grind (arith, nat_tests)
next-before s c South v h low = let i = holds-within s (c.x + 1) c.y (and_parts _ _ h).0 in let y = i.south in grind (arith, nat_tests)

-- where a loop goes straight on to the east or the north, the edge before is less
straight-before : (c : Corner) (w : Way) → way_number w ≤ 1 → precedes (record { from = c; way = w }) (record { from = step_of c w; way = w }) ≡ true
unfolding precedes
straight-before c East low = grind (arith, nat_tests)
straight-before c North low = grind (arith, nat_tests)
straight-before c West low = absurd (omega arith)
straight-before c South low = absurd (omega arith)

least-low : (s : Plane) (b : Edge) → bounds s b ≡ true → begins s b ≡ true → way_number b.way ≤ 1
unfolding next_of
least-low s b h begun = by_cases (cases (way_number b.way)) where
  cases : (n : ℕ) → (n ≤ 1) ⊎ (1 < n)
  cases n = grind arith

  by_cases : (way_number b.way ≤ 1) ⊎ (1 < way_number b.way) → way_number b.way ≤ 1
  by_cases (inl low) = low
  by_cases (inr high) =
      let listed = loop-next s b b h (loop-self s b) in
      absurd (false≢true (sym (begins-least s b (next_of s b) begun listed) ∙ next-before s b.from b.way (next_of s b).way h high))

same_way-is : (v w : Way) → same_way v w ≡ true → v ≡ w
same_way-is v w h = grind (arith, nat_tests)

-- the last edge of a loop
last-edge : (s : Plane) (b : Edge) → Cycle s b → Edge
last-edge s b c = after c.more s b

last-next : (s : Plane) (b : Edge) (c : Cycle s b) → next_of s (last-edge s b c) ≡ b
unfolding last-edge
last-next s b c = sym (after-next c.more s b) ∙ c.back

straight : (s : Plane) (b p : Edge) → next_of s p ≡ b → p.way ≡ b.way → way_number b.way ≤ 1 → precedes p b ≡ true
unfolding next_of
straight s b p next way low =
    let from : b.from ≡ step_of p.from p.way = ap (λ (e : Edge). e.from) (sym next) in
    let low_p : way_number p.way ≤ 1 = rw (← way) at low in
    let is : b ≡ record { from = step_of p.from p.way; way = p.way } = parts b.from (step_of p.from p.way) b.way p.way from (sym way) in
    ap (precedes p) is ∙ straight-before p.from p.way low_p
  where
    parts : (c d : Corner) (v w : Way) → c ≡ d → v ≡ w → ◌≡◌ {A = Edge} (record { from = c; way = v }) (record { from = d; way = w })
    parts c d v w from way = rw (from, way) refl

turns-first : (s : Plane) (b : Edge) → bounds s b ≡ true → begins s b ≡ true → turns_at s b ≡ true
unfolding last-edge
turns-first s b h begun = not_from_false _ (by_test (same_way (came_by s b) b.way) refl) where
  by_test : (t : Bool) → same_way (came_by s b) b.way ≡ t → same_way (came_by s b) b.way ≡ false
  by_test false is = is
  by_test true is =
      let c = cycle-from s b h in
      let p = after c.more s b in
      let bounds_p = bounds-after c.more s b h in
      let next : next_of s p ≡ b = last-next s b c in
      let way : p.way ≡ b.way = sym (came_by-next s p bounds_p) ∙ ap (came_by s) next ∙ same_way-is (came_by s b) b.way is in
      let listed : in_loop s b p ≡ true = loop-listed s b c c.more (omega arith) in
      absurd (false≢true (sym (begins-least s b p begun listed) ∙ straight s b p next way (least-low s b h begun)))

-- ---- and precedes all others

precedes-other : (b f : Edge) → precedes f b ≡ false → same b f ≡ false → precedes b f ≡ true
precedes-other b f after_it other = by_test (precedes b f) refl where
  by_test : (t : Bool) → precedes b f ≡ t → precedes b f ≡ true
  by_test true is = is
  by_test false is = absurd (false≢true (sym other ∙ precedes-total b f is after_it))

precedes-behind : (b : Edge) (es : List Edge) → Apart (b ∷ es) → ((f : Edge) → is_listed f es ≡ true → precedes f b ≡ false) → All (λ f. precedes b f ≡ true) es
precedes-behind b [] apart least = All-nil (λ f. precedes b f ≡ true)
precedes-behind b (f ∷ es) apart least =
    let parts = or_parts (same b f) (is_listed b es) apart.0 in
    All-cons (λ g. precedes b g ≡ true) f es
    (precedes-other b f (least f (or_left (same f f) (is_listed f es) (same_refl f))) parts.0)
    (precedes-behind b es (parts.1, apart.1.1) (λ g listed. least g (or_right (same g f) (is_listed g es) listed)))

begins-first : (s : Plane) (b : Edge) → bounds s b ≡ true → begins s b ≡ true → BeginsLeast s (loop_from s b)
unfolding loop_from
begins-first s b h begun =
    let rest = until b (run_of (step_count s) s (next_of s b)) in
    let apart : Apart (b ∷ rest) = apart-loop s b h in
    (precedes-behind b rest apart (λ f listed. begins-least s b f begun (or_right (same f b) (is_listed f rest) listed)), turns-first s b h begun)

-- ---- the order of loops

before-each : (s : Plane) (e : Edge) (es : List Edge) (j : ℕ) (d : List Edge) → precedes_all e es ≡ true → j < length (map (loop_from s) es)
    → Before (loop_from s e) (get_or (map (loop_from s) es) j d)
unfolding loop_from
before-each s e [] j d all below = absurd (omega arith)
before-each s e (f ∷ es) zero d all below = (and_parts _ _ all).0
before-each s e (f ∷ es) (suc j) d all below = before-each s e es j d (and_parts _ _ all).1 (omega arith)

ascending : (s : Plane) (es : List Edge) → Ascends es → AllPairs Before (map (loop_from s) es)
ascending s [] h i j d before below = absurd (omega arith)
ascending s (e ∷ es) h zero zero d before below = absurd (omega arith)
ascending s (e ∷ es) h zero (suc j) d before below = before-each s e es j d h.0 (omega arith)
ascending s (e ∷ es) h (suc i) zero d before below = absurd (omega arith)
ascending s (e ∷ es) h (suc i) (suc j) d before below = ascending s es h.1 i j d (omega arith) (omega arith)

ascending-loops : (s : Plane) → AllPairs Before (loops_of s)
unfolding loops_of
ascending-loops s = ascending s (beginnings s) (ascends-beginnings s)

pub ordered : (s : Plane) → IsOrdered s
ordered s = record {
  least = all-loops s (BeginsLeast s) (λ b listed. begins-first s b (bounds-beginnings s b listed) (begins-beginnings s b listed));
  ascending = ascending-loops s;
}
