-- The walk along a loop: what is marked, and where it ends.
use Rattle.std.proofs.Common.{◌≡◌, ℕ, zero, suc, ◌+◌, ◌-◌, ◌<◌, ◌≤◌, Bool, true, false, not, cond, ◌||◌, List, [], ◌∷◌, ◌++◌, length, get_or, set, map, filter, arith, refl, sym, ap, ◌∙◌, ◌⊎◌, inl, inr, append-nil}
use Rattle.std.specs.List.{count_by, list_any}
use Rattle.std.proofs.lemmas.Bool.{false≢true, or_left, or_right, or_from, or_parts}
use Rattle.std.proofs.lemmas.List.{get_or-set_same, get_or-set_other, map-append, length-set}
use Rattle.std.proofs.lemmas.List.Elements.{filter-append}
use Rattle.std.proofs.lemmas.List.Folds.{list_any-append}
use Rattle.std.proofs.lemmas.List.Sums.{sum_by-set}
use Rattle.cell_loops.specs.declared.corners.Corner.{Corner}
use Rattle.cell_loops.specs.declared.corners.Edge.{Edge}
use Rattle.cell_loops.specs.Plane.{Plane}
use Rattle.cell_loops.specs.Boundary.{bounds, same, next_of, run_of, step_count, loop_from, turns_at, points_of}
use Rattle.cell_loops.specs.inner.Steps.{IsOn, place_of, is_marked, is_listed, IsUnwalked, IsWalked}
use Rattle.cell_loops.proofs.Edges.{bounds-on, bounds-next, same_is, same_at, same_refl}
use Rattle.cell_loops.proofs.Runs.{after, after-next, bounds-after, listed-after, Apart}
use Rattle.cell_loops.proofs.Places.{place-below, place-is}
use Rattle.cell_loops.proofs.Cycles.{Cycle, cycle-from, in_loop, loop-self, loop-listed}

-- ---- runs, one edge longer

run-push : (k : ℕ) (s : Plane) (e : Edge) → run_of (suc k) s e ≡ run_of k s e ++ after k s e ∷ []
run-push zero s e = refl
run-push (suc k) s e = ap (λ es. e ∷ es) (run-push k s (next_of s e))

-- no edge of a run without an edge twice stands before itself
apart-fresh : (n k : ℕ) (s : Plane) (e : Edge) → Apart (run_of n s e) → k < n → is_listed (after k s e) (run_of k s e) ≡ false
apart-fresh zero k s e apart h = absurd (omega arith)
apart-fresh (suc n) zero s e apart h = refl
apart-fresh (suc n) (suc k) s e apart h =
    or_from _ _ (other (same (after k s (next_of s e)) e) refl) (apart-fresh n k s (next_of s e) apart.1 (omega arith))
  where
    other : (t : Bool) → same (after k s (next_of s e)) e ≡ t → same (after k s (next_of s e)) e ≡ false
    other false is = is
    other true is =
        absurd (false≢true (sym apart.0 ∙ ap (λ f. is_listed f (run_of n s (next_of s e))) (sym (same_is _ _ is)) ∙ listed-after k n s (next_of s e) (omega arith)))

points-append : (s : Plane) (es fs : List Edge) → points_of s (es ++ fs) ≡ points_of s es ++ points_of s fs
points-append s es fs =
    ap (map (λ (e : Edge). e.from)) (filter-append (turns_at s) es fs) ∙ map-append (λ (e : Edge). e.from) (filter (turns_at s) es) (filter (turns_at s) fs)

-- ---- marks

or_nothing : (a b : Bool) → b ≡ false → a ≡ (a || b)
or_nothing true b h = refl
or_nothing false b h = sym h

mark-step : (s : Plane) (marks : List Bool) (e f : Edge) → length marks ≡ step_count s → IsOn s e.from → IsOn s f.from
    → is_marked s (set marks (place_of s e) true) f ≡ (is_marked s marks f || same f e)
mark-step s marks e f whole on_e on_f = by_test (same f e) refl where
  by_test : (t : Bool) → same f e ≡ t → is_marked s (set marks (place_of s e) true) f ≡ (is_marked s marks f || same f e)
  by_test true is =
      let below = place-below s e on_e in
      let inside : place_of s e < length marks = omega (arith, below, whole) in
      ap (is_marked s (set marks (place_of s e) true)) (same_is f e is) ∙ get_or-set_same marks (place_of s e) true false inside
      ∙ sym (or_right (is_marked s marks f) _ is)
  by_test false is =
      get_or-set_other marks (place_of s e) (place_of s f) true false (λ h. false≢true (sym is ∙ same_at f e (place-is s f e on_f on_e h)))
      ∙ or_nothing (is_marked s marks f) (same f e) is

-- ---- the walk

-- after so many edges of a loop
pub record Walks (s : Plane) (begin : Edge) (before now : List Bool) (points : List Corner) (edge : Edge) : Type 0 where
  pub cycle : Cycle s begin
  pub count : ℕ
  pub going : count < suc cycle.more
  pub here : after count s begin ≡ edge
  pub turns : points ≡ points_of s (run_of count s begin)
  pub marks : (f : Edge) → IsOn s f.from → is_marked s now f ≡ (is_marked s before f || is_listed f (run_of count s begin))
  pub whole : length now ≡ step_count s

or_false : (a : Bool) → a ≡ (a || false)
or_false true = refl
or_false false = refl

or_assoc : (a b c : Bool) → ((a || b) || c) ≡ (a || (b || c))
or_assoc true b c = refl
or_assoc false b c = refl

pub walk-starts : (s : Plane) (begin : Edge) (marks : List Bool) → bounds s begin ≡ true → length marks ≡ step_count s → Walks s begin marks marks [] begin
walk-starts s begin marks h whole = record {
  cycle = cycle-from s begin h;
  count = 0;
  going = omega arith;
  here = refl;
  turns = refl;
  marks = λ f on. or_false (is_marked s marks f);
  whole = whole;
}

-- the edge of a walk bounds the set
pub walk-bounds : {s : Plane} {begin : Edge} {before now : List Bool} {points : List Corner} {edge : Edge} → bounds s begin ≡ true
    → Walks s begin before now points edge → bounds s edge ≡ true
walk-bounds {s} {begin} h w = ap (bounds s) (sym w.here) ∙ bounds-after w.count s begin h

-- and isn't marked
unmarked : {s : Plane} {begin : Edge} {before now : List Bool} {points : List Corner} {edge : Edge} → bounds s begin ≡ true → IsUnwalked s before begin
    → Walks s begin before now points edge → is_marked s now edge ≡ false
unmarked {s} {begin} {before} {now} {points} {edge} h unwalked w =
    let inside : in_loop s begin edge ≡ true = ap (in_loop s begin) (sym w.here) ∙ loop-listed s begin w.cycle w.count w.going in
    let fresh : is_listed edge (run_of w.count s begin) ≡ false =
    ap (λ f. is_listed f (run_of w.count s begin)) (sym w.here) ∙ apart-fresh (suc w.cycle.more) w.count s begin w.cycle.apart w.going in
    w.marks edge (bounds-on s edge (walk-bounds h w)) ∙ or_from _ _ (unwalked edge inside) fresh

-- so with each mark there are fewer without
pub walk-smaller : {s : Plane} {begin : Edge} {before now : List Bool} {points : List Corner} {edge : Edge} → bounds s begin ≡ true → IsUnwalked s before begin
    → Walks s begin before now points edge → count_by not (set now (place_of s edge) true) < count_by not now
walk-smaller {s} {begin} {before} {now} {points} {edge} h unwalked w =
    let place = place_of s edge in
    let below = place-below s edge (bounds-on s edge (walk-bounds h w)) in
    let inside : place < length now = omega (arith, below, w.whole) in
    let sums = sum_by-set (λ b. cond (not b) 1 0) now place true false inside in
    let one : ◌≡◌ {A = ℕ} (cond (not (get_or now place false)) 1 0) 1 = ap (λ b. cond (not b) 1 0) (unmarked h unwalked w) in
    omega (arith, sums, one)

-- the walk with its edge marked
record Marked (s : Plane) (begin : Edge) (before : List Bool) (edge : Edge) (count : ℕ) (now : List Bool) (points : List Corner) : Type 0 where
  turns : points ≡ points_of s (run_of (suc count) s begin)
  marks : (f : Edge) → IsOn s f.from → is_marked s now f ≡ (is_marked s before f || is_listed f (run_of (suc count) s begin))

walk-marks : {s : Plane} {begin : Edge} {before now : List Bool} {points : List Corner} {edge : Edge} → bounds s begin ≡ true → (w : Walks s begin before now points edge)
    → Marked s begin before edge w.count (set now (place_of s edge) true) (points ++ points_of s (edge ∷ []))
walk-marks {s} {begin} {before} {now} {points} {edge} h w =
    let longer : run_of (suc w.count) s begin ≡ run_of w.count s begin ++ edge ∷ [] =
    run-push w.count s begin ∙ ap (λ f. run_of w.count s begin ++ f ∷ []) w.here in
    record {
      turns = ap (λ ps. ps ++ points_of s (edge ∷ [])) w.turns ∙ sym (points-append s (run_of w.count s begin) (edge ∷ [])) ∙ ap (points_of s) (sym longer);
      marks = λ f on.
          mark-step s now edge f w.whole (bounds-on s edge (walk-bounds h w)) on
          ∙ ap (λ b. b || same f edge) (w.marks f on)
          ∙ or_assoc (is_marked s before f) (is_listed f (run_of w.count s begin)) (same f edge)
          ∙ ap (λ b. is_marked s before f || b)
          (ap (λ b. is_listed f (run_of w.count s begin) || b) (or_false (same f edge))
          ∙ sym (list_any-append (same f) (run_of w.count s begin) (edge ∷ [])) ∙ ap (is_listed f) (sym longer));
    }

near : (k n : ℕ) → k < suc n → (suc k < suc n) ⊎ (k ≡ n)
near k n h = grind arith

next-here : {s : Plane} {begin : Edge} {before now : List Bool} {points : List Corner} {edge : Edge} → (w : Walks s begin before now points edge)
    → after (suc w.count) s begin ≡ next_of s edge
next-here {s} {begin} w = after-next w.count s begin ∙ ap (next_of s) w.here

-- it goes on where the next edge isn't marked
pub walk-on : {s : Plane} {begin : Edge} {before now : List Bool} {points : List Corner} {edge : Edge} → bounds s begin ≡ true
    → Walks s begin before now points edge → is_marked s (set now (place_of s edge) true) (next_of s edge) ≡ false
    → Walks s begin before (set now (place_of s edge) true) (points ++ points_of s (edge ∷ [])) (next_of s edge)
walk-on {s} {begin} {before} {now} {points} {edge} h w free =
    let marked = walk-marks h w in
    let next = next-here w in
    let on = bounds-on s begin h in
    record {
      cycle = w.cycle;
      count = suc w.count;
      going = elim (near w.count w.cycle.more w.going) [
        | inl before ↦ before
        | inr last ↦ (let back : next_of s edge ≡ begin = sym next ∙ ap (λ n. after (suc n) s begin) last ∙ w.cycle.back in
            absurd (false≢true (sym free ∙ ap (is_marked s (set now (place_of s edge) true)) back ∙ marked.marks begin on ∙ or_right _ _ (or_left _ _ (same_refl begin)))))
      ];
      here = next;
      turns = marked.turns;
      marks = marked.marks;
      whole = length-set now (place_of s edge) true ∙ w.whole;
    }

-- and where it is, the loop is whole
pub record IsRound (s : Plane) (begin : Edge) (before now : List Bool) (points : List Corner) : Type 0 where
  pub turns : points ≡ points_of s (loop_from s begin)
  pub walked : IsWalked s begin before now

pub walk-ends : {s : Plane} {begin : Edge} {before now : List Bool} {points : List Corner} {edge : Edge} → bounds s begin ≡ true → IsUnwalked s before begin
    → Walks s begin before now points edge → is_marked s (set now (place_of s edge) true) (next_of s edge) ≡ true
    → IsRound s begin before (set now (place_of s edge) true) (points ++ points_of s (edge ∷ []))
walk-ends {s} {begin} {before} {now} {points} {edge} h unwalked w marked_next =
    let marked = walk-marks h w in
    let next = next-here w in
    elim (near w.count w.cycle.more w.going) [
      | inl more ↦ (let inside : in_loop s begin (next_of s edge) ≡ true = ap (in_loop s begin) (sym next) ∙ loop-listed s begin w.cycle (suc w.count) more in
          let fresh : is_listed (next_of s edge) (run_of (suc w.count) s begin) ≡ false =
          ap (λ f. is_listed f (run_of (suc w.count) s begin)) (sym next) ∙ apart-fresh (suc w.cycle.more) (suc w.count) s begin w.cycle.apart more in
          absurd (false≢true (sym (marked.marks (next_of s edge) (bounds-on s (next_of s edge) (bounds-next s edge (walk-bounds h w))) ∙ or_from _ _ (unwalked (next_of s edge) inside) fresh) ∙ marked_next)))
      | inr last ↦ (let all : run_of (suc w.count) s begin ≡ loop_from s begin = ap (λ n. run_of (suc n) s begin) last ∙ sym w.cycle.edges in
          record {
            turns = marked.turns ∙ ap (points_of s) all;
            walked = λ f on. marked.marks f on ∙ ap (λ es. is_marked s before f || is_listed f es) all;
          })
    ]

-- ---- as the code says it

pub walk-ends_at : {s : Plane} {begin : Edge} {before now : List Bool} {points : List Corner} {edge : Edge} (p q : ℕ) (next : Edge) (ps : List Corner)
    → bounds s begin ≡ true → IsUnwalked s before begin → Walks s begin before now points edge
    → p ≡ place_of s edge → next ≡ next_of s edge → q ≡ place_of s next → ps ≡ points ++ points_of s (edge ∷ [])
    → get_or (set now p true) q false ≡ true → IsRound s begin before (set now p true) ps
walk-ends_at {s} {begin} {before} {now} {points} {edge} p q next ps h unwalked w is_p is_next is_q is_ps test =
    rw (is_p, is_ps) (walk-ends h unwalked w
    (ap (λ n. get_or (set now n true) (place_of s (next_of s edge)) false) (sym is_p)
    ∙ ap (λ n. get_or (set now p true) n false) (sym (is_q ∙ ap (place_of s) is_next)) ∙ test))

pub walk-on_at : {s : Plane} {begin : Edge} {before now : List Bool} {points : List Corner} {edge : Edge} (p q : ℕ) (next : Edge) (ps : List Corner)
    → bounds s begin ≡ true → Walks s begin before now points edge
    → p ≡ place_of s edge → next ≡ next_of s edge → q ≡ place_of s next → ps ≡ points ++ points_of s (edge ∷ [])
    → get_or (set now p true) q false ≡ false → Walks s begin before (set now p true) ps next
walk-on_at {s} {begin} {before} {now} {points} {edge} p q next ps h w is_p is_next is_q is_ps test =
    rw (is_p, is_ps, is_next) (walk-on h w
    (ap (λ n. get_or (set now n true) (place_of s (next_of s edge)) false) (sym is_p)
    ∙ ap (λ n. get_or (set now p true) n false) (sym (is_q ∙ ap (place_of s) is_next)) ∙ test))

pub walk-smaller_at : {s : Plane} {begin : Edge} {before now : List Bool} {points : List Corner} {edge : Edge} (p : ℕ) → bounds s begin ≡ true → IsUnwalked s before begin
    → Walks s begin before now points edge → p ≡ place_of s edge → count_by not (set now p true) < count_by not now
walk-smaller_at p h unwalked w is = rw is (walk-smaller h unwalked w)

-- the place of the walk's edge, and of the next, among the marks
pub walk-inside : {s : Plane} {begin : Edge} {before now : List Bool} {points : List Corner} {edge : Edge} (p : ℕ) → bounds s begin ≡ true
    → Walks s begin before now points edge → p ≡ place_of s edge → p < length now
walk-inside {s} {begin} {before} {now} {points} {edge} p h w is =
    let below = place-below s edge (bounds-on s edge (walk-bounds h w)) in omega (arith, below, is, w.whole)

pub walk-next_inside : {s : Plane} {begin : Edge} {before now : List Bool} {points : List Corner} {edge : Edge} (p q : ℕ) (next : Edge) → bounds s begin ≡ true
    → Walks s begin before now points edge → next ≡ next_of s edge → q ≡ place_of s next → q < length (set now p true)
walk-next_inside {s} {begin} {before} {now} {points} {edge} p q next h w is_next is_q =
    let below = place-below s (next_of s edge) (bounds-on s (next_of s edge) (bounds-next s edge (walk-bounds h w))) in
    let at : q ≡ place_of s (next_of s edge) = is_q ∙ ap (place_of s) is_next in
    let long = length-set now p true in
    omega (arith, below, at, w.whole, long)
