-- The order of edges, and lists in it.
use Rattle.std.proofs.Common.{◌≡◌, ℕ, zero, suc, ◌+◌, ◌<◌, ◌≤◌, Bool, true, false, not, ◌&&◌, ◌||◌, List, [], ◌∷◌, ◌++◌, length, take, drop, get_or, filter, arith, refl, sym, ap, ◌∙◌, ◌⊎◌, inl, inr, cond}
use Rattle.std.specs.List.{list_all, list_any, flat_map, range_with_len}
use Rattle.std.proofs.lemmas.Bool.{false≢true, and_parts, and_from, or_cases, or_left, or_right, cases_Bool}
use Rattle.std.proofs.lemmas.Bool.Decides.{nat_tests}
use Rattle.std.proofs.lemmas.List.Folds.{list_all-append, list_any-append}
use Rattle.cell_loops.specs.declared.corners.Corner.{Corner}
use Rattle.cell_loops.specs.declared.corners.Edge.{Edge}
use Rattle.cell_loops.specs.declared.corners.Way.{Way}
use Rattle.cell_loops.specs.declared.corners.Way.TheVariants.{East, North, West, South}
use Rattle.cell_loops.specs.Turning.{way_number}
use Rattle.cell_loops.specs.Plane.{Plane}
use Rattle.cell_loops.specs.Boundary.{bounds, same, precedes, steps_at, steps_along, steps_of, boundary_of}
use Rattle.cell_loops.specs.inner.Steps.{IsOn, is_listed}
use Rattle.cell_loops.proofs.Edges.{same_is, same_at, same_refl, bounds-on}
use Rattle.cell_loops.proofs.Runs.{Apart}
use Rattle.cell_loops.proofs.Pieces.{listed-pieces}

-- ---- the order

pub precedes-not_itself : (e : Edge) → precedes e e ≡ false
unfolding precedes
precedes-not_itself e = grind (arith, nat_tests)

pub precedes-trans : (e f g : Edge) → precedes e f ≡ true → precedes f g ≡ true → precedes e g ≡ true
unfolding precedes
precedes-trans e f g h k = grind (arith, nat_tests)

pub precedes-one_way : (e f : Edge) → precedes e f ≡ true → precedes f e ≡ false
unfolding precedes
precedes-one_way e f h = grind (arith, nat_tests)

-- of two edges one precedes, or they are one
pub precedes-total : (e f : Edge) → precedes e f ≡ false → precedes f e ≡ false → same e f ≡ true
unfolding precedes same
precedes-total e f h k = grind (arith, nat_tests)

-- ---- lists in order

abbrev pub precedes_all : Edge → List Edge → Bool
precedes_all e es = list_all (precedes e) es

-- each edge precedes those behind it
abbrev pub Ascends : List Edge → Type 0
Ascends [] = Unit {0}
Ascends (e ∷ es) = (precedes_all e es ≡ true) × Ascends es

pub precedes-listed : (e f : Edge) (es : List Edge) → precedes_all e es ≡ true → is_listed f es ≡ true → precedes e f ≡ true
precedes-listed e f [] all listed = absurd (false≢true listed)
precedes-listed e f (g ∷ es) all listed =
    let parts = and_parts _ _ all in
    elim (or_cases _ _ listed) [
      | inl here ↦ ap (precedes e) (same_is f g here) ∙ parts.0
      | inr later ↦ precedes-listed e f es parts.1 later
    ]

-- every listed edge precedes an edge
abbrev AllPrecede : List Edge → Edge → Type 0
AllPrecede es f = (e : Edge) → is_listed e es ≡ true → precedes e f ≡ true

all_precede : (e : Edge) (es : List Edge) → ((f : Edge) → is_listed f es ≡ true → precedes e f ≡ true) → precedes_all e es ≡ true
all_precede e [] h = refl
all_precede e (f ∷ es) h = and_from _ _ (h f (or_left _ _ (same_refl f))) (all_precede e es (λ g listed. h g (or_right _ _ listed)))

-- two lists in order, of which the first precedes the second
pub ascends-append : (es fs : List Edge) → Ascends es → Ascends fs → ((e f : Edge) → is_listed e es ≡ true → is_listed f fs ≡ true → precedes e f ≡ true)
    → Ascends (es ++ fs)
ascends-append [] fs first second between = second
ascends-append (e ∷ es) fs first second between = (
  list_all-append (precedes e) es fs ∙ and_from _ _ first.0 (all_precede e fs (λ f listed. between e f (or_left _ _ (same_refl e)) listed)),
  ascends-append es fs first.1 second (λ g f here there. between g f (or_right _ _ here) there),
)

pub listed-filter : (p : Edge → Bool) (f : Edge) (es : List Edge) → is_listed f (filter p es) ≡ true → is_listed f es ≡ true
listed-filter p f [] h = h
listed-filter p f (e ∷ es) h = by_test (p e) refl (listed-filter p f es) where
  by_test : (t : Bool) → p e ≡ t → (is_listed f (filter p es) ≡ true → is_listed f es ≡ true) → is_listed f (e ∷ es) ≡ true
  by_test true is rest =
      elim (or_cases (same f e) (is_listed f (filter p es)) (sym (ap (λ b. is_listed f (cond b (e ∷ filter p es) (filter p es))) is) ∙ h)) [
        | inl here ↦ or_left (same f e) (is_listed f es) here
        | inr later ↦ or_right (same f e) (is_listed f es) (rest later)
      ]
  by_test false is rest = or_right (same f e) (is_listed f es) (rest (sym (ap (λ b. is_listed f (cond b (e ∷ filter p es) (filter p es))) is) ∙ h))

pub passes-filter : (p : Edge → Bool) (f : Edge) (es : List Edge) → is_listed f (filter p es) ≡ true → p f ≡ true
passes-filter p f [] h = absurd (false≢true h)
passes-filter p f (e ∷ es) h = by_test (p e) refl (passes-filter p f es) where
  by_test : (t : Bool) → p e ≡ t → (is_listed f (filter p es) ≡ true → p f ≡ true) → p f ≡ true
  by_test true is rest =
      elim (or_cases (same f e) (is_listed f (filter p es)) (sym (ap (λ b. is_listed f (cond b (e ∷ filter p es) (filter p es))) is) ∙ h)) [
        | inl here ↦ ap p (same_is f e here) ∙ is
        | inr later ↦ rest later
      ]
  by_test false is rest = rest (sym (ap (λ b. is_listed f (cond b (e ∷ filter p es) (filter p es))) is) ∙ h)

pub kept-filter : (p : Edge → Bool) (f : Edge) (es : List Edge) → p f ≡ true → is_listed f es ≡ true → is_listed f (filter p es) ≡ true
kept-filter p f [] passes h = h
kept-filter p f (e ∷ es) passes h = by_test (p e) refl (kept-filter p f es passes) where
  by_test : (t : Bool) → p e ≡ t → (is_listed f es ≡ true → is_listed f (filter p es) ≡ true) → is_listed f (filter p (e ∷ es)) ≡ true
  by_test true is rest =
      ap (λ b. is_listed f (cond b (e ∷ filter p es) (filter p es))) is
      ∙ elim (or_cases (same f e) (is_listed f es) h) [
        | inl here ↦ or_left (same f e) (is_listed f (filter p es)) here
        | inr later ↦ or_right (same f e) (is_listed f (filter p es)) (rest later)
      ]
  by_test false is rest =
      ap (λ b. is_listed f (cond b (e ∷ filter p es) (filter p es))) is
      ∙ elim (or_cases (same f e) (is_listed f es) h) [
        | inl here ↦ absurd (false≢true (sym is ∙ ap p (sym (same_is f e here)) ∙ passes))
        | inr later ↦ rest later
      ]

pub ascends-filter : (p : Edge → Bool) (es : List Edge) → Ascends es → Ascends (filter p es)
ascends-filter p [] h = tt
ascends-filter p (e ∷ es) h = by_test (p e) refl (ascends-filter p es h.1) where
  by_test : (t : Bool) → p e ≡ t → Ascends (filter p es) → Ascends (filter p (e ∷ es))
  by_test true is rest =
      rw is (all_precede e (filter p es) (λ f listed. precedes-listed e f es h.0 (listed-filter p f es listed)), rest)
  by_test false is rest = rw is rest

-- no edge twice
pub ascends-apart : (es : List Edge) → Ascends es → Apart es
ascends-apart [] h = tt
ascends-apart (e ∷ es) h = (alone (is_listed e es) refl, ascends-apart es h.1) where
  alone : (t : Bool) → is_listed e es ≡ t → is_listed e es ≡ false
  alone false is = is
  alone true is = absurd (false≢true (sym (precedes-not_itself e) ∙ precedes-listed e e es h.0 is))

-- an edge among others in order: those before it precede it, and no others do
pub before-precedes : (es : List Edge) (e : Edge) (fs : List Edge) (f : Edge) → Ascends (es ++ e ∷ fs) → is_listed f es ≡ true → precedes f e ≡ true
before-precedes [] e fs f h listed = absurd (false≢true listed)
before-precedes (g ∷ es) e fs f h listed =
    elim (or_cases _ _ listed) [
      | inl here ↦ ap (λ x. precedes x e) (same_is f g here)
          ∙ precedes-listed g e (es ++ e ∷ fs) h.0 (list_any-append (same e) es (e ∷ fs) ∙ or_right _ _ (or_left _ _ (same_refl e)))
      | inr later ↦ before-precedes es e fs f h.1 later
    ]

pub precedes-before : (es : List Edge) (e : Edge) (fs : List Edge) (f : Edge) → Ascends (es ++ e ∷ fs) → is_listed f (es ++ e ∷ fs) ≡ true
    → precedes f e ≡ true → is_listed f es ≡ true
precedes-before [] e fs f h listed precedes_e =
    elim (or_cases _ _ listed) [
      | inl here ↦ absurd (false≢true (sym (precedes-not_itself e) ∙ ap (λ x. precedes x e) (sym (same_is f e here)) ∙ precedes_e))
      | inr later ↦ absurd (false≢true (sym (precedes-one_way e f (precedes-listed e f fs h.0 later)) ∙ precedes_e))
    ]
precedes-before (g ∷ es) e fs f h listed precedes_e =
    elim (or_cases (same f g) (is_listed f (es ++ e ∷ fs)) listed) [
      | inl here ↦ or_left (same f g) (is_listed f es) here
      | inr later ↦ or_right (same f g) (is_listed f es) (precedes-before es e fs f h.1 later precedes_e)
    ]

-- ---- the steps of the grid

-- edges that begin at one corner, or along one row from a column on
abbrev BeginAt : ℕ → ℕ → List Edge → Type 0
BeginAt y x es = (e : Edge) → is_listed e es ≡ true → (e.from.y ≡ y) × (e.from.x ≡ x)

step-from : (y x : ℕ) (w : Way) (e : Edge) → same e (record { from = record { x = x; y = y }; way = w }) ≡ true → (e.from.y ≡ y) × (e.from.x ≡ x)
step-from y x w e h = let is = same_is e (record { from = record { x = x; y = y }; way = w }) h in (ap (λ f. f.from.y) is, ap (λ f. f.from.x) is)

begin-at : (y x : ℕ) → BeginAt y x (steps_at y x)
begin-at y x e h =
    elim (or_cases _ _ h) [
      | inl here ↦ step-from y x East e here
      | inr h2 ↦ elim (or_cases _ _ h2) [
        | inl here ↦ step-from y x North e here
        | inr h3 ↦ elim (or_cases _ _ h3) [
          | inl here ↦ step-from y x West e here
          | inr h4 ↦ elim (or_cases _ _ h4) [
            | inl here ↦ step-from y x South e here
            | inr none ↦ absurd (false≢true none)
          ]
        ]
      ]
    ]

ascends-at : (y x : ℕ) → Ascends (steps_at y x)
unfolding precedes
ascends-at y x = grind (arith, nat_tests)

-- those of a row of corners from a column on begin there
BeginAlong : ℕ → ℕ → List Edge → Type 0
BeginAlong y x es = (e : Edge) → is_listed e es ≡ true → (e.from.y ≡ y) × (x ≤ e.from.x)

begin-along : (y n x : ℕ) → BeginAlong y x (flat_map (steps_at y) (range_with_len x n))
unfolding BeginAlong
begin-along y zero x e h = absurd (false≢true h)
begin-along y (suc n) x e h =
    let rest = flat_map (steps_at y) (range_with_len (x + 1) n) in
    elim (or_cases (is_listed e (steps_at y x)) (is_listed e rest) (sym (list_any-append (same e) (steps_at y x) rest) ∙ h)) [
      | inl here ↦ (let at = begin-at y x e here in (at.0, omega (arith, at.1)))
      | inr later ↦ (let at = begin-along y n (x + 1) e later in (at.0, omega (arith, at.1)))
    ]

row-precedes : (e f : Edge) → e.from.y ≡ f.from.y → e.from.x < f.from.x → precedes e f ≡ true
unfolding precedes
row-precedes e f y x = grind (arith, nat_tests)

ascends-along : (y n x : ℕ) → Ascends (flat_map (steps_at y) (range_with_len x n))
unfolding BeginAlong
ascends-along y zero x = tt
ascends-along y (suc n) x =
    ascends-append (steps_at y x) (flat_map (steps_at y) (range_with_len (x + 1) n)) (ascends-at y x) (ascends-along y n (x + 1))
    (λ e f here there.
    let at = begin-at y x e here in
    let beyond = begin-along y n (x + 1) f there in
    row-precedes e f (at.0 ∙ sym beyond.0) (omega (arith, at.1, beyond.1)))

begin-rows : (s : Plane) (n y : ℕ) (e : Edge) → is_listed e (flat_map (steps_along s) (range_with_len y n)) ≡ true → y ≤ e.from.y
unfolding BeginAlong
begin-rows s zero y e h = absurd (false≢true h)
begin-rows s (suc n) y e h =
    let rest = flat_map (steps_along s) (range_with_len (y + 1) n) in
    elim (or_cases (is_listed e (steps_along s y)) (is_listed e rest) (sym (list_any-append (same e) (steps_along s y) rest) ∙ h)) [
      | inl here ↦ (let at = begin-along y (s.columns + 1) 0 e here in omega (arith, at.0))
      | inr later ↦ (let at = begin-rows s n (y + 1) e later in omega (arith, at))
    ]

rows-precede : (e f : Edge) → e.from.y < f.from.y → precedes e f ≡ true
unfolding precedes
rows-precede e f y = grind (arith, nat_tests)

ascends-rows : (s : Plane) (n y : ℕ) → Ascends (flat_map (steps_along s) (range_with_len y n))
unfolding BeginAlong
ascends-rows s zero y = tt
ascends-rows s (suc n) y =
    ascends-append (steps_along s y) (flat_map (steps_along s) (range_with_len (y + 1) n)) (ascends-along y (s.columns + 1) 0) (ascends-rows s n (y + 1))
    (λ e f here there.
    let at = begin-along y (s.columns + 1) 0 e here in
    let beyond = begin-rows s n (y + 1) f there in
    rows-precede e f (omega (arith, at.0, beyond)))

-- ---- the boundary

pub ascends-boundary : (s : Plane) → Ascends (boundary_of s)
unfolding boundary_of
ascends-boundary s = ascends-filter (bounds s) (steps_of s) (ascends-rows s (s.rows + 1) 0)

listed_behind : (e a : Edge) (es : List Edge) → is_listed e es ≡ true → is_listed e (a ∷ es) ≡ true
listed_behind e a es h = or_right (same e a) (is_listed e es) h

listed_here : (e : Edge) (es : List Edge) → is_listed e (e ∷ es) ≡ true
listed_here e es = or_left (same e e) (is_listed e es) (same_refl e)

abbrev step : ℕ → ℕ → Way → Edge
step y x w = record { from = record { x = x; y = y }; way = w }

second_listed : (a b c d : Edge) → is_listed b (a ∷ b ∷ c ∷ d ∷ []) ≡ true
second_listed a b c d = listed_behind b a (b ∷ c ∷ d ∷ []) (listed_here b (c ∷ d ∷ []))

third_listed : (a b c d : Edge) → is_listed c (a ∷ b ∷ c ∷ d ∷ []) ≡ true
third_listed a b c d = listed_behind c a (b ∷ c ∷ d ∷ []) (listed_behind c b (c ∷ d ∷ []) (listed_here c (d ∷ [])))

fourth_listed : (a b c d : Edge) → is_listed d (a ∷ b ∷ c ∷ d ∷ []) ≡ true
fourth_listed a b c d =
    listed_behind d a (b ∷ c ∷ d ∷ []) (listed_behind d b (c ∷ d ∷ []) (listed_behind d c (d ∷ []) (listed_here d [])))

listed-at : (y x : ℕ) (w : Way) → is_listed (step y x w) (steps_at y x) ≡ true
listed-at y x East = listed_here (step y x East) (step y x North ∷ step y x West ∷ step y x South ∷ [])
listed-at y x North = second_listed (step y x East) (step y x North) (step y x West) (step y x South)
listed-at y x West = third_listed (step y x East) (step y x North) (step y x West) (step y x South)
listed-at y x South = fourth_listed (step y x East) (step y x North) (step y x West) (step y x South)

-- it lists each edge, and nothing else
pub boundary-lists : (s : Plane) (e : Edge) → bounds s e ≡ true → is_listed e (boundary_of s) ≡ true
unfolding boundary_of
boundary-lists s e h =
    let on = bounds-on s e h in
    kept-filter (bounds s) e (steps_of s) h
    (listed-pieces (steps_along s) e 0 (s.rows + 1) e.from.y (omega arith) (omega (arith, on.y))
    (listed-pieces (steps_at e.from.y) e 0 (s.columns + 1) e.from.x (omega arith) (omega (arith, on.x)) (listed-at e.from.y e.from.x e.way)))

pub bounds-boundary : (s : Plane) (e : Edge) → is_listed e (boundary_of s) ≡ true → bounds s e ≡ true
unfolding boundary_of
bounds-boundary s e h = passes-filter (bounds s) e (steps_of s) h
