-- Each edge of the boundary stands in one loop, once.
use Rattle.std.proofs.Common.{◌≡◌, ℕ, zero, suc, ◌<◌, Bool, true, false, cond, List, [], ◌∷◌, map, arith, refl, sym, ap, ◌∙◌, ◌⊎◌, inl, inr}
use Rattle.std.specs.Prelude.{if◌then◌else◌}
use Rattle.std.specs.List.{All, count_by, sum_by}
use Rattle.std.proofs.lemmas.Bool.{false≢true, or_left, or_right, and_parts, and_from, not_from_false}
use Rattle.std.proofs.lemmas.List.Elements.{All-nil, All-cons}
use Rattle.cell_loops.specs.declared.corners.Edge.{Edge}
use Rattle.cell_loops.specs.declared.corners.Way.{Way}
use Rattle.cell_loops.specs.declared.corners.Way.TheVariants.{East, North, West, South}
use Rattle.cell_loops.specs.Plane.{Plane, holds, around}
use Rattle.cell_loops.specs.Boundary.{bounds, same, next_of, run_of, loop_from, loops_of}
use Rattle.cell_loops.specs.inner.Steps.{is_listed}
use Rattle.cell_loops.specs.Separation.{times, Follow, IsClosed, has_cell, has_neighbour, side_of, Separates}
use Rattle.cell_loops.proofs.Edges.{same_is, same_refl, came_by-next}
use Rattle.cell_loops.proofs.Runs.{after, Apart}
use Rattle.cell_loops.proofs.Cycles.{Cycle, cycle-from, in_loop, bounds-loop}
use Rattle.cell_loops.proofs.Order.{ascends-apart}
use Rattle.cell_loops.proofs.Counts.{count-none, count-one, sum-none, sum-one, sum-map}
use Rattle.cell_loops.proofs.Least.{beginnings, ascends-beginnings, bounds-beginnings, Beginning, beginning-of, one-beginning}

pub apart-loop : (s : Plane) (e : Edge) → bounds s e ≡ true → Apart (loop_from s e)
apart-loop s e h = let c = cycle-from s e h in rw c.edges c.apart

-- what holds of the loop from each beginning holds of all loops
pub all-loops : (s : Plane) (P : List Edge → Type 0) → ((b : Edge) → is_listed b (beginnings s) ≡ true → P (loop_from s b)) → All P (loops_of s)
unfolding loops_of
all-loops s P h = from (beginnings s) h where
  from : (es : List Edge) → ((b : Edge) → is_listed b es ≡ true → P (loop_from s b)) → All P (map (loop_from s) es)
  from [] h = All-nil P
  from (e ∷ es) h =
      All-cons P (loop_from s e) (map (loop_from s) es) (h e (or_left (same e e) (is_listed e es) (same_refl e)))
      (from es (λ b listed. h b (or_right (same b e) (is_listed b es) listed)))

-- ---- once

count-in : (s : Plane) (e : Edge) (m : Beginning s e) (b : Edge) → is_listed b (beginnings s) ≡ true → count_by (same e) (loop_from s b) ≡ cond (same m.edge b) 1 0
count-in s e m b listed = by_tests (same m.edge b) refl (in_loop s b e) refl where
  by_tests : (t : Bool) → same m.edge b ≡ t → (u : Bool) → in_loop s b e ≡ u → count_by (same e) (loop_from s b) ≡ cond (same m.edge b) 1 0
  by_tests true is u is_u =
      rw is (count-one e (loop_from s b) (apart-loop s b (bounds-beginnings s b listed)) (ap (λ x. in_loop s x e) (sym (same_is m.edge b is)) ∙ m.on))
  by_tests false is true is_u = absurd (false≢true (sym is ∙ one-beginning s e m b listed is_u))
  by_tests false is false is_u = rw is (count-none e (loop_from s b) is_u)

pub once : (s : Plane) (e : Edge) → times e (loops_of s) ≡ (if bounds s e then 1 else 0)
unfolding loops_of
once s e = sum-map (count_by (same e)) (loop_from s) (beginnings s) ∙ by_test (bounds s e) refl where
  by_test : (t : Bool) → bounds s e ≡ t → sum_by (λ b. count_by (same e) (loop_from s b)) (beginnings s) ≡ (if bounds s e then 1 else 0)
  by_test true is =
      let m = beginning-of s e is in
      rw is (sum-one (λ b. count_by (same e) (loop_from s b)) (beginnings s) m.edge (ascends-apart (beginnings s) (ascends-beginnings s)) m.listed (count-in s e m))
  by_test false is = rw is (sum-none (λ b. count_by (same e) (loop_from s b)) (beginnings s) none) where
    none : (b : Edge) → is_listed b (beginnings s) ≡ true → count_by (same e) (loop_from s b) ≡ 0
    none b listed = count-none e (loop_from s b) (outside (in_loop s b e) refl) where
      outside : (t : Bool) → in_loop s b e ≡ t → in_loop s b e ≡ false
      outside false not_so = not_so
      outside true so = absurd (false≢true (sym is ∙ bounds-loop s b e (bounds-beginnings s b listed) so))

-- ---- closed

follow-run : (n : ℕ) (s : Plane) (first e : Edge) → after (suc n) s e ≡ first → Follow s first (run_of (suc n) s e)
follow-run zero s first e h = h
follow-run (suc n) s first e h = (refl, follow-run n s first (next_of s e) h)

closed-loop : (s : Plane) (b : Edge) → bounds s b ≡ true → IsClosed s (loop_from s b)
closed-loop s b h = let c = cycle-from s b h in rw c.edges (follow-run c.more s b b c.back)

-- ---- crossed

side-bounds : (s : Plane) (c r : ℕ) (side : Way) → has_cell s c r ≡ true → has_neighbour s c r side ≡ false → bounds s (side_of c r side) ≡ true
unfolding bounds around
side-bounds s c r East h k = and_from _ _ h (not_from_false _ k)
side-bounds s c r North h k = and_from _ _ h (not_from_false _ k)
side-bounds s c r West h k = and_from _ _ h (not_from_false _ k)
side-bounds s c r South h k = and_from _ _ h (not_from_false _ k)

pub separates : (s : Plane) → Separates s
separates s = record {
  once = once s;
  closed = all-loops s (IsClosed s) (λ b listed. closed-loop s b (bounds-beginnings s b listed));
  came = came_by-next s;
  crossed = λ c r side h k. once s (side_of c r side) ∙ rw (side-bounds s c r side h k) refl;
}
