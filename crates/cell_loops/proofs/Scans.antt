-- The boundary is gone through in its order: what is marked then, and with which edges loops begin.
use Rattle.std.proofs.Common.{◌≡◌, ℕ, zero, suc, ◌+◌, ◌<◌, ◌≤◌, Bool, true, false, not, ◌||◌, List, [], ◌∷◌, ◌++◌, length, get_or, take, drop, map, filter, arith, refl, sym, ap, ◌∙◌, ◌⊎◌, inl, inr, cond, append-nil, replicate}
use Rattle.std.specs.List.{list_any, list_all}
use Rattle.std.proofs.lemmas.Bool.{false≢true, true≢false, or_cases, or_left, or_right, or_from, and_parts, and_from, not-true, not_from_false}
use Rattle.std.proofs.lemmas.List.{take_more, take_all, take_at, take-append-drop, drop_more, get_or_default, get_or_read, map-append, get_or-replicate, length-replicate}
use Rattle.std.proofs.lemmas.List.Elements.{filter-append}
use Rattle.std.proofs.lemmas.List.Folds.{list_any-append}
use Rattle.cell_loops.specs.declared.corners.Corner.{Corner}
use Rattle.cell_loops.specs.declared.corners.Edge.{Edge}
use Rattle.cell_loops.specs.Plane.{Plane}
use Rattle.cell_loops.specs.Boundary.{bounds, same, precedes, boundary_of, step_count, loop_from, begins, loops_of, points_of}
use Rattle.cell_loops.specs.inner.Steps.{IsOn, place_of, is_marked, is_listed, IsUnwalked, IsWalked}
use Rattle.cell_loops.proofs.Edges.{bounds-on, same_is, same_refl}
use Rattle.cell_loops.proofs.Places.{place-below}
use Rattle.cell_loops.proofs.Cycles.{in_loop, loop-self, bounds-loop, loop-sym, loop-trans}
use Rattle.cell_loops.proofs.Order.{Ascends, ascends-boundary, boundary-lists, bounds-boundary, before-precedes, precedes-before}

-- whether an edge is in the loop of one of some edges
abbrev pub is_passed : Plane → Edge → List Edge → Bool
is_passed s f es = list_any (λ b. in_loop s b f) es

pub record Passes (s : Plane) (f : Edge) (es : List Edge) : Type 0 where
  pub by : Edge
  pub listed : is_listed by es ≡ true
  pub passes : in_loop s by f ≡ true

pub passes-from : (s : Plane) (f : Edge) (es : List Edge) → is_passed s f es ≡ true → Passes s f es
passes-from s f [] h = absurd (false≢true h)
passes-from s f (e ∷ es) h =
    elim (or_cases (in_loop s e f) (is_passed s f es) h) [
      | inl here ↦ record { by = e; listed = or_left (same e e) (is_listed e es) (same_refl e); passes = here }
      | inr later ↦ (let p = passes-from s f es later in
          record { by = p.by; listed = or_right (same p.by e) (is_listed p.by es) p.listed; passes = p.passes })
    ]

pub passes-to : (s : Plane) (f : Edge) (es : List Edge) → Passes s f es → is_passed s f es ≡ true
passes-to s f [] p = absurd (false≢true p.listed)
passes-to s f (e ∷ es) p =
    elim (or_cases (same p.by e) (is_listed p.by es) p.listed) [
      | inl here ↦ or_left (in_loop s e f) (is_passed s f es) (ap (λ b. in_loop s b f) (sym (same_is p.by e here)) ∙ p.passes)
      | inr later ↦ or_right (in_loop s e f) (is_passed s f es) (passes-to s f es (record { by = p.by; listed = later; passes = p.passes }))
    ]

-- ---- with which edges loops begin

pub all_from : (p : Edge → Bool) (es : List Edge) → ((f : Edge) → is_listed f es ≡ true → p f ≡ true) → list_all p es ≡ true
all_from p [] h = refl
all_from p (e ∷ es) h = and_from _ _ (h e (or_left _ _ (same_refl e))) (all_from p es (λ f listed. h f (or_right _ _ listed)))

pub all_at : (p : Edge → Bool) (es : List Edge) (f : Edge) → list_all p es ≡ true → is_listed f es ≡ true → p f ≡ true
all_at p [] f h listed = absurd (false≢true listed)
all_at p (e ∷ es) f h listed =
    let parts = and_parts _ _ h in
    elim (or_cases (same f e) (is_listed f es) listed) [
      | inl here ↦ ap p (same_is f e here) ∙ parts.0
      | inr later ↦ all_at p es f parts.1 later
    ]

-- an edge of a boundary, among those before it and those behind
pub record StandsIn (s : Plane) (es : List Edge) (e : Edge) : Type 0 where
  pub behind : List Edge
  pub whole : boundary_of s ≡ es ++ e ∷ behind

ascends-in : {s : Plane} {es : List Edge} {e : Edge} (at : StandsIn s es e) → Ascends (es ++ e ∷ at.behind)
ascends-in {s} at = rw at.whole at (ascends-boundary s)

pub bounds-in : {s : Plane} {es : List Edge} {e : Edge} → StandsIn s es e → bounds s e ≡ true
bounds-in {s} {es} {e} at =
    bounds-boundary s e (ap (is_listed e) at.whole ∙ list_any-append (same e) es (e ∷ at.behind) ∙ or_right _ _ (or_left _ _ (same_refl e)))

bounds-before : {s : Plane} {es : List Edge} {e : Edge} → StandsIn s es e → (b : Edge) → is_listed b es ≡ true → bounds s b ≡ true
bounds-before {s} {es} {e} at b listed =
    bounds-boundary s b (ap (is_listed b) at.whole ∙ list_any-append (same b) es (e ∷ at.behind) ∙ or_left _ _ listed)

-- an edge that is in no loop of those before it begins its own
pub begins-new : {s : Plane} {es : List Edge} {e : Edge} → StandsIn s es e → is_passed s e es ≡ false → begins s e ≡ true
unfolding begins
begins-new {s} {es} {e} at new = all_from (λ f. not (precedes f e)) (loop_from s e) (λ f listed. not_from_false _ (later f listed (precedes f e) refl)) where
  later : (f : Edge) → in_loop s e f ≡ true → (t : Bool) → precedes f e ≡ t → precedes f e ≡ false
  later f listed false is = is
  later f listed true is =
      let h = bounds-in at in
      let bounding = bounds-loop s e f h listed in
      let before = precedes-before es e at.behind f (ascends-in at) (ap (is_listed f) (sym at.whole) ∙ boundary-lists s f bounding) is in
      absurd (false≢true (sym new ∙ passes-to s e es (record { by = f; listed = before; passes = loop-sym s e f h listed })))

-- and one that is doesn't
pub begins-passed : {s : Plane} {es : List Edge} {e : Edge} → StandsIn s es e → is_passed s e es ≡ true → begins s e ≡ false
unfolding begins
begins-passed {s} {es} {e} at passed = by_test (begins s e) refl where
  by_test : (t : Bool) → begins s e ≡ t → begins s e ≡ false
  by_test false is = is
  by_test true is =
      let p = passes-from s e es passed in
      let first = before-precedes es e at.behind p.by (ascends-in at) p.listed in
      let listed = loop-sym s p.by e (bounds-before at p.by p.listed) p.passes in
      let not_first = not-true (precedes p.by e) (all_at (λ f. not (precedes f e)) (loop_from s e) p.by is listed) in
      absurd (false≢true (sym not_first ∙ first))

-- ---- the scan

-- after so many edges of the boundary
pub record Scans (s : Plane) (i : ℕ) (walked : List Bool) (found : List (List Corner)) : Type 0 where
  pub loops : found ≡ map (points_of s) (map (loop_from s) (filter (begins s) (take i (boundary_of s))))
  pub marks : (f : Edge) → IsOn s f.from → is_marked s walked f ≡ is_passed s f (take i (boundary_of s))
  pub whole : length walked ≡ step_count s

pub scan-starts : (s : Plane) → Scans s 0 (replicate (step_count s) false) []
scan-starts s = record {
  loops = refl;
  marks = λ f on. get_or-replicate (step_count s) (place_of s f) false false (place-below s f on);
  whole = length-replicate (step_count s) false;
}

-- the edge with this number
pub record IsNext (s : Plane) (i : ℕ) (e : Edge) : Type 0 where
  pub below : i < length (boundary_of s)
  pub is : e ≡ get_or (boundary_of s) i e

pub next-at : (s : Plane) (items : List Edge) (i : ℕ) (d : Edge) → items ≡ boundary_of s → i < length items → IsNext s i (get_or items i d)
next-at s items i d all below =
    let inside : i < length (boundary_of s) = rw all at below in
    record {
      below = inside;
      is = ap (λ es. get_or es i d) all ∙ get_or_default (boundary_of s) i d (get_or items i d) inside;
    }

next-stands : {s : Plane} {i : ℕ} {e : Edge} → IsNext s i e → StandsIn s (take i (boundary_of s)) e
next-stands {s} {i} {e} n = record {
  behind = drop (i + 1) (boundary_of s);
  whole = sym (take-append-drop i (boundary_of s)) ∙ ap (λ es. take i (boundary_of s) ++ es) (drop_more (boundary_of s) i e n.below ∙ ap (λ x. x ∷ drop (i + 1) (boundary_of s)) (sym n.is));
}

pub next-bounds : {s : Plane} {i : ℕ} {e : Edge} → IsNext s i e → bounds s e ≡ true
next-bounds n = bounds-in (next-stands n)

longer : {s : Plane} {i : ℕ} {e : Edge} → IsNext s i e → take (i + 1) (boundary_of s) ≡ take i (boundary_of s) ++ e ∷ []
longer {s} {i} {e} n = take_more (boundary_of s) i e n.below ∙ ap (λ x. take i (boundary_of s) ++ x ∷ []) (sym n.is)

passed-longer : {s : Plane} {i : ℕ} {e : Edge} → IsNext s i e → (f : Edge) → is_passed s f (take (i + 1) (boundary_of s)) ≡ (is_passed s f (take i (boundary_of s)) || in_loop s e f)
passed-longer {s} {i} {e} n f =
    ap (is_passed s f) (longer n) ∙ list_any-append (λ b. in_loop s b f) (take i (boundary_of s)) (e ∷ []) ∙ ap (λ b. is_passed s f (take i (boundary_of s)) || b) (last (in_loop s e f))
  where
    last : (b : Bool) → (b || false) ≡ b
    last true = refl
    last false = refl

points_and_loops : Plane → List Edge → List (List Corner)
points_and_loops s es = map (points_of s) (map (loop_from s) (filter (begins s) es))

found-append : (s : Plane) (es fs : List Edge) → points_and_loops s (es ++ fs) ≡ points_and_loops s es ++ points_and_loops s fs
unfolding points_and_loops
found-append s es fs =
    ap (λ l. map (points_of s) (map (loop_from s) l)) (filter-append (begins s) es fs)
    ∙ ap (map (points_of s)) (map-append (loop_from s) (filter (begins s) es) (filter (begins s) fs))
    ∙ map-append (points_of s) (map (loop_from s) (filter (begins s) es)) (map (loop_from s) (filter (begins s) fs))

found-one : (s : Plane) (e : Edge) → begins s e ≡ true → points_and_loops s (e ∷ []) ≡ points_of s (loop_from s e) ∷ []
unfolding points_and_loops
found-one s e h = rw h refl

found-none : (s : Plane) (e : Edge) → begins s e ≡ false → points_and_loops s (e ∷ []) ≡ []
unfolding points_and_loops
found-none s e h = rw h refl

no_more : (b : Bool) → b ≡ (b || false)
no_more true = refl
no_more false = refl

-- a marked edge adds nothing
pub scan-passes : {s : Plane} {i : ℕ} {e : Edge} {walked : List Bool} {found : List (List Corner)} → IsNext s i e → Scans s i walked found → is_marked s walked e ≡ true
    → Scans s (i + 1) walked found
unfolding points_and_loops
scan-passes {s} {i} {e} {walked} {found} n c marked =
    let h = next-bounds n in
    let passed : is_passed s e (take i (boundary_of s)) ≡ true = sym (c.marks e (bounds-on s e h)) ∙ marked in
    record {
      loops = c.loops ∙ sym (append-nil (points_and_loops s (take i (boundary_of s))))
          ∙ ap (λ l. points_and_loops s (take i (boundary_of s)) ++ l) (sym (found-none s e (begins-passed (next-stands n) passed)))
          ∙ sym (found-append s (take i (boundary_of s)) (e ∷ [])) ∙ ap (points_and_loops s) (sym (longer n));
      marks = λ f on. c.marks f on ∙ same_passed f passed (is_passed s f (take i (boundary_of s))) refl (in_loop s e f) refl ∙ sym (passed-longer n f);
      whole = c.whole;
    }
  where
    same_passed : (f : Edge) → is_passed s e (take i (boundary_of s)) ≡ true → (a : Bool) → is_passed s f (take i (boundary_of s)) ≡ a → (b : Bool) → in_loop s e f ≡ b
        → is_passed s f (take i (boundary_of s)) ≡ (is_passed s f (take i (boundary_of s)) || in_loop s e f)
    same_passed f passed a is_a false is_b = rw is_b (no_more (is_passed s f (take i (boundary_of s))))
    same_passed f passed a is_a true is_b =
        let p = passes-from s e (take i (boundary_of s)) passed in
        let all = passes-to s f (take i (boundary_of s)) (record { by = p.by; listed = p.listed; passes = loop-trans s p.by e f (bounds-before (next-stands n) p.by p.listed) p.passes is_b }) in
        rw all refl

-- an edge without a mark begins a loop, none of which is marked
pub scan-free : {s : Plane} {i : ℕ} {e : Edge} {walked : List Bool} {found : List (List Corner)} → IsNext s i e → Scans s i walked found → is_marked s walked e ≡ false
    → IsUnwalked s walked e
scan-free {s} {i} {e} {walked} {found} n c free f listed = c.marks f (bounds-on s f (bounds-loop s e f (next-bounds n) listed)) ∙ by_test (is_passed s f (take i (boundary_of s))) refl where
  by_test : (t : Bool) → is_passed s f (take i (boundary_of s)) ≡ t → is_passed s f (take i (boundary_of s)) ≡ false
  by_test false is = is
  by_test true is =
      let h = next-bounds n in
      let p = passes-from s f (take i (boundary_of s)) is in
      let back = loop-sym s e f h listed in
      let passed = passes-to s e (take i (boundary_of s)) (record { by = p.by; listed = p.listed; passes = loop-trans s p.by f e (bounds-before (next-stands n) p.by p.listed) p.passes back }) in
      absurd (false≢true (sym free ∙ c.marks e (bounds-on s e h) ∙ passed))

pub scan-adds : {s : Plane} {i : ℕ} {e : Edge} {walked : List Bool} {found : List (List Corner)} (now : List Bool) (line : List Corner) → IsNext s i e → Scans s i walked found
    → is_marked s walked e ≡ false → line ≡ points_of s (loop_from s e) → IsWalked s e walked now → length now ≡ length walked
    → Scans s (i + 1) now (found ++ line ∷ [])
unfolding points_and_loops
scan-adds {s} {i} {e} {walked} {found} now line n c free is_line is_walked same_length =
    let new : is_passed s e (take i (boundary_of s)) ≡ false = sym (c.marks e (bounds-on s e (next-bounds n))) ∙ free in
    record {
      loops = ap (λ l. l ++ line ∷ []) c.loops
          ∙ ap (λ l. points_and_loops s (take i (boundary_of s)) ++ l) (ap (λ l. l ∷ []) is_line ∙ sym (found-one s e (begins-new (next-stands n) new)))
          ∙ sym (found-append s (take i (boundary_of s)) (e ∷ [])) ∙ ap (points_and_loops s) (sym (longer n));
      marks = λ f on. is_walked f on ∙ ap (λ b. b || in_loop s e f) (c.marks f on) ∙ sym (passed-longer n f);
      whole = same_length ∙ c.whole;
    }

pub scan-ends : {s : Plane} {i : ℕ} {walked : List Bool} {found : List (List Corner)} → length (boundary_of s) ≤ i → Scans s i walked found → found ≡ map (points_of s) (loops_of s)
unfolding loops_of
scan-ends {s} {i} past c = c.loops ∙ ap (λ es. map (points_of s) (map (loop_from s) (filter (begins s) es))) (take_all i (boundary_of s) past)

-- ---- as the code says it

pub next-on : {s : Plane} {i : ℕ} {e : Edge} → IsNext s i e → IsOn s e.from
next-on {s} {i} {e} n = bounds-on s e (next-bounds n)

pub next-inside : {s : Plane} {i : ℕ} {e : Edge} {walked : List Bool} {found : List (List Corner)} (p : ℕ) → IsNext s i e → Scans s i walked found → p ≡ place_of s e
    → p < length walked
next-inside {s} {i} {e} p n c is = let below = place-below s e (next-on n) in omega (arith, below, is, c.whole)

-- what is read at the place of an edge
pub mark-read : {s : Plane} {i : ℕ} {e : Edge} {walked : List Bool} {found : List (List Corner)} (p : ℕ) (r : Bool) → IsNext s i e → Scans s i walked found → p ≡ place_of s e
    → r ≡ get_or walked p r → is_marked s walked e ≡ r
mark-read {s} {i} {e} {walked} p r n c is read =
    ap (λ q. get_or walked q false) (sym is) ∙ sym (get_or_read walked p r (next-inside p n c is) read false)

-- the marks as they are written back
pub written-back : (new old : List Bool) (len : ℕ) → length new ≡ len → take len (new ++ drop (length new) old) ≡ new
written-back new old len h = take_at new (drop (length new) old) len h
