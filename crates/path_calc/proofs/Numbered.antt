-- The obstacles that screen in a band, found by the crossings of the line of sight.
use Rattle.std.proofs.Common.{◌≡◌, ℕ, zero, suc, ◌+◌, ◌<◌, ◌≤◌, Bool, true, false, List, [], ◌∷◌, ◌++◌, length, get_or, drop, map, filter, Option, refl, sym, ap, ◌∙◌, arith, append_assoc}
use Rattle.std.specs.Prelude.{Some, None, not, ◌&&◌, ◌||◌, slice_get, if◌then◌else◌}
use Rattle.std.specs.List.{list_any, filter_map, flat_map}
use Rattle.std.proofs.lemmas.List.{drop_more, drop_all, append-nil}
use Rattle.scene_geom.specs.declared.plan.Pt.{Pt}
use Rattle.scene_geom.specs.declared.plan.Side.{Side}
use Rattle.scene_geom.specs.declared.band.Band.{Band}
use Rattle.scene_geom.specs.Bands.{all_bands}
use Rattle.scene_parts.specs.Parts.{Obstacle, sides_of}
use Rattle.scene_parts.specs.declared.screening.edge.Edge.{Edge}
use Rattle.scene_parts.specs.declared.screening.ends.Ends.{Ends}
use Rattle.scene_parts.specs.declared.screening.crossing.Crossing.{Crossing}
use Rattle.scene_parts.specs.Crossings.{counts_in}
use Rattle.sight_cut.specs.Cuts.{edge_of, screens_in, crossing_of, before_all, crossings_along, crossings_from, crossings_of}
use Rattle.path_calc.specs.LateralPaths.{screening_corners}
use Rattle.path_calc.specs.inner.Strings.{rises_in, is_number, numbers_after, numbers_in, corners_at}
use Rattle.path_calc.proofs.Eight.{at-place}

-- ---- numbers, one after another
pub next-crossing : (band : Band) (before : Option ℕ) (crossings : List Crossing) (i : ℕ) (c : Crossing) (test : Bool) → i < length crossings → c ≡ get_or crossings i c
    → (rises_in band c && not (is_number c.obstacle before)) ≡ test
    → numbers_after band before (drop i crossings)
    ≡ (if test then c.obstacle ∷ numbers_after band (Some c.obstacle) (drop (i + 1) crossings) else numbers_after band before (drop (i + 1) crossings))
next-crossing band before crossings i c test below is e =
    ap (numbers_after band before) (drop_more crossings i c below ∙ ap (λ (x : Crossing). x ∷ drop (i + 1) crossings) (sym is)) ∙ rw e refl

pub number-found : (band : Band) (before : Option ℕ) (crossings : List Crossing) (i : ℕ) (c : Crossing) (found new total : List ℕ) → i < length crossings → c ≡ get_or crossings i c
    → (rises_in band c && not (is_number c.obstacle before)) ≡ true → new ≡ found ++ c.obstacle ∷ [] → found ++ numbers_after band before (drop i crossings) ≡ total
    → new ++ numbers_after band (Some c.obstacle) (drop (i + 1) crossings) ≡ total
number-found band before crossings i c found new total below is e added h =
    let rest = numbers_after band (Some c.obstacle) (drop (i + 1) crossings) in
    ap (λ (ns : List ℕ). ns ++ rest) added ∙ append_assoc found (c.obstacle ∷ []) rest
    ∙ ap (λ (ns : List ℕ). found ++ ns) (sym (next-crossing band before crossings i c true below is e)) ∙ h

pub number-passed : (band : Band) (before : Option ℕ) (crossings : List Crossing) (i : ℕ) (c : Crossing) (found total : List ℕ) → i < length crossings → c ≡ get_or crossings i c
    → (rises_in band c && not (is_number c.obstacle before)) ≡ false → found ++ numbers_after band before (drop i crossings) ≡ total
    → found ++ numbers_after band before (drop (i + 1) crossings) ≡ total
number-passed band before crossings i c found total below is e h =
    ap (λ (ns : List ℕ). found ++ ns) (sym (next-crossing band before crossings i c false below is e)) ∙ h

-- behind the last crossing all numbers are found
pub numbers-found : (band : Band) (crossings : List Crossing) (i : ℕ) (before : Option ℕ) (found all : List ℕ) → length crossings ≤ i
    → found ++ numbers_after band before (drop i crossings) ≡ all → found ≡ all
numbers-found band crossings i before found all end so_far =
    sym (append-nil found) ∙ ap (λ (cs : List Crossing). found ++ numbers_after band before cs) (sym (drop_all i crossings end)) ∙ so_far

-- ---- those of the obstacles that screen
-- the numbers of those obstacles that screen, the first of them numbered i
abbrev pub screening_from : Band → Ends → ℕ → List Obstacle → List ℕ
screening_from band ends i [] = []
screening_from band ends i (o ∷ obstacles) =
    if screens_in band ends o then i ∷ screening_from band ends (suc i) obstacles else screening_from band ends (suc i) obstacles

abbrev made : Ends → ℕ → ℕ → Obstacle → Side → Edge → Crossing
made ends i k o side edge = record { obstacle = i; side = k; edge = edge; bands = map (λ band. counts_in band ends o) all_bands }

made-rises : (band : Band) (ends : Ends) (i k : ℕ) (o : Obstacle) (side : Side) (edge : Edge) → rises_in band (made ends i k o side edge) ≡ (counts_in band ends o && edge.above)
made-rises band ends i k o side edge =
    ap (λ (test : Bool). test && edge.above) (at-place (λ band. counts_in band ends o) false band)

same-number : (i : ℕ) → is_number i (Some i) ≡ true
same-number i = grind arith

never : (test : Bool) → (test && not true) ≡ false
never true = refl
never false = refl

-- after its number others of an obstacle give none
same-along : (band : Band) (ends : Ends) (i k : ℕ) (o : Obstacle) (sides : List Side) (rest : List Crossing)
    → numbers_after band (Some i) (crossings_along ends i k o sides ++ rest) ≡ numbers_after band (Some i) rest
same-along band ends i k o [] rest = refl
same-along band ends i k o (side ∷ sides) rest = by_edge (edge_of ends o.h side) refl (same-along band ends i (suc k) o sides rest) where
  by_edge : (edge : Option Edge) → edge_of ends o.h side ≡ edge
      → numbers_after band (Some i) (crossings_along ends i (suc k) o sides ++ rest) ≡ numbers_after band (Some i) rest
      → numbers_after band (Some i) (before_all (crossing_of ends i k o side) (crossings_along ends i (suc k) o sides) ++ rest) ≡ numbers_after band (Some i) rest
  by_edge None e h = rw e h
  by_edge (Some edge) e h =
      let skipped : (rises_in band (made ends i k o side edge) && not (is_number i (Some i))) ≡ false = rw (same-number i) (never (rises_in band (made ends i k o side edge))) in
      rw e (rw skipped h)

-- what an edge makes of the test whether one rises
abbrev any_above : List Edge → Bool
any_above edges = list_any (λ (edge : Edge). edge.above) edges

-- an obstacle gives its number where it screens
first-along : (band : Band) (ends : Ends) (i k : ℕ) (before : Option ℕ) (o : Obstacle) (sides : List Side) (rest : List Crossing) → is_number i before ≡ false
    → numbers_after band before (crossings_along ends i k o sides ++ rest)
    ≡ (if counts_in band ends o && any_above (filter_map (edge_of ends o.h) sides) then i ∷ numbers_after band (Some i) rest else numbers_after band before rest)
first-along band ends i k before o [] rest new = none (counts_in band ends o) where
  none : (test : Bool) → numbers_after band before rest ≡ (if test && false then i ∷ numbers_after band (Some i) rest else numbers_after band before rest)
  none true = refl
  none false = refl
first-along band ends i k before o (side ∷ sides) rest new = by_edge (edge_of ends o.h side) refl (first-along band ends i (suc k) before o sides rest new) where
  by_edge : (edge : Option Edge) → edge_of ends o.h side ≡ edge
      → numbers_after band before (crossings_along ends i (suc k) o sides ++ rest)
      ≡ (if counts_in band ends o && any_above (filter_map (edge_of ends o.h) sides) then i ∷ numbers_after band (Some i) rest else numbers_after band before rest)
      → numbers_after band before (before_all (crossing_of ends i k o side) (crossings_along ends i (suc k) o sides) ++ rest)
      ≡ (if counts_in band ends o && any_above (filter_map (edge_of ends o.h) (side ∷ sides)) then i ∷ numbers_after band (Some i) rest else numbers_after band before rest)
  by_edge None e h = rw e h
  by_edge (Some edge) e h = rw e (by_tests (counts_in band ends o) edge.above refl refl h) where
    by_tests : (test above : Bool) → counts_in band ends o ≡ test → edge.above ≡ above
        → numbers_after band before (crossings_along ends i (suc k) o sides ++ rest)
        ≡ (if counts_in band ends o && any_above (filter_map (edge_of ends o.h) sides) then i ∷ numbers_after band (Some i) rest else numbers_after band before rest)
        → numbers_after band before (made ends i k o side edge ∷ (crossings_along ends i (suc k) o sides ++ rest))
        ≡ (if counts_in band ends o && (edge.above || any_above (filter_map (edge_of ends o.h) sides)) then i ∷ numbers_after band (Some i) rest else numbers_after band before rest)
    by_tests true true counts is h =
        rw (made-rises band ends i k o side edge, counts, is, new) (ap (λ (ns : List ℕ). i ∷ ns) (same-along band ends i (suc k) o sides rest))
    by_tests true false counts is h = rw (made-rises band ends i k o side edge, counts, is) (rw counts at h)
    by_tests false above counts is h = rw (made-rises band ends i k o side edge, counts) (rw counts at h)

-- every number so far is below i
abbrev Below : Option ℕ → ℕ → Type 0
Below None i = Unit {0}
Below (Some n) i = n < i

new-number : (before : Option ℕ) (i : ℕ) → Below before i → is_number i before ≡ false
new-number None i h = refl
new-number (Some n) i h = grind arith

next-below : (before : Option ℕ) (i : ℕ) → Below before i → Below before (suc i)
next-below None i h = tt
next-below (Some n) i h = omega arith

pub numbers-from : (band : Band) (ends : Ends) (i : ℕ) (before : Option ℕ) (obstacles : List Obstacle) → Below before i
    → numbers_after band before (crossings_from ends i obstacles) ≡ screening_from band ends i obstacles
numbers-from band ends i before [] h = refl
numbers-from band ends i before (o ∷ obstacles) h =
    first-along band ends i zero before o (sides_of o) (crossings_from ends (suc i) obstacles) (new-number before i h)
    ∙ either (screens_in band ends o) (numbers_after band (Some i) (crossings_from ends (suc i) obstacles)) _ (numbers_after band before (crossings_from ends (suc i) obstacles))
    (numbers-from band ends (suc i) (Some i) obstacles (omega arith)) (numbers-from band ends (suc i) before obstacles (next-below before i h))
  where
    either : (test : Bool) (taken all passed : List ℕ) → taken ≡ all → passed ≡ all → (if test then i ∷ taken else passed) ≡ (if test then i ∷ all else all)
    either true taken all passed e f = ap (λ (ns : List ℕ). i ∷ ns) e
    either false taken all passed e f = f

-- ---- their corners
middle : {A : Type 0} (xs : List A) (x : A) (ys : List A) → slice_get (xs ++ x ∷ ys) (length xs) ≡ Some x
middle [] x ys = refl
middle (w ∷ xs) x ys = middle xs x ys

corners-from : (band : Band) (ends : Ends) (before obstacles : List Obstacle)
    → corners_at (before ++ obstacles) (screening_from band ends (length before) obstacles) ≡ screening_corners band ends obstacles
corners-from band ends before [] = refl
corners-from band ends before (o ∷ obstacles) =
    let all = before ++ o ∷ obstacles in
    let rest : corners_at all (screening_from band ends (suc (length before)) obstacles) ≡ screening_corners band ends obstacles =
    ap (λ (os : List Obstacle). corners_at os (screening_from band ends (suc (length before)) obstacles)) (sym (append_assoc before (o ∷ []) obstacles))
    ∙ ap (λ (n : ℕ). corners_at ((before ++ o ∷ []) ++ obstacles) (screening_from band ends n obstacles)) (longer before)
    ∙ corners-from band ends (before ++ o ∷ []) obstacles in
    by_test (screens_in band ends o) refl rest
  where
    longer : (xs : List Obstacle) → suc (length xs) ≡ length (xs ++ o ∷ [])
    longer [] = refl
    longer (x ∷ xs) = ap suc (longer xs)

    by_test : (test : Bool) → screens_in band ends o ≡ test
        → corners_at (before ++ o ∷ obstacles) (screening_from band ends (suc (length before)) obstacles) ≡ screening_corners band ends obstacles
        → corners_at (before ++ o ∷ obstacles) (if test then length before ∷ screening_from band ends (suc (length before)) obstacles else screening_from band ends (suc (length before)) obstacles)
        ≡ flat_map (λ (o : Obstacle). o.points) (if test then o ∷ filter (screens_in band ends) obstacles else filter (screens_in band ends) obstacles)
    by_test true e rest = rw (middle before o obstacles) (ap (λ (ps : List Pt). o.points ++ ps) rest)
    by_test false e rest = rest

pub corners-there : (band : Band) (ends : Ends) (obstacles : List Obstacle) → corners_at obstacles (numbers_in band (crossings_of ends obstacles)) ≡ screening_corners band ends obstacles
corners-there band ends obstacles =
    ap (corners_at obstacles) (numbers-from band ends 0 None obstacles tt) ∙ corners-from band ends [] obstacles
