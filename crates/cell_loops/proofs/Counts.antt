-- How often an edge stands in lists.
use Rattle.std.proofs.Common.{◌≡◌, ℕ, ◌+◌, Bool, true, false, ◌||◌, cond, List, [], ◌∷◌, map, arith, refl, sym, ap, ◌∙◌, ◌⊎◌, inl, inr}
use Rattle.std.specs.List.{sum_by, count_by}
use Rattle.std.proofs.lemmas.Bool.{false≢true, or_cases, or_left, or_right, or_parts}
use Rattle.std.proofs.lemmas.List.Sums.{sum_by-cons}
use Rattle.cell_loops.specs.declared.corners.Edge.{Edge}
use Rattle.cell_loops.specs.Boundary.{same}
use Rattle.cell_loops.specs.inner.Steps.{is_listed}
use Rattle.cell_loops.proofs.Edges.{same_is, same_at, same_refl}
use Rattle.cell_loops.proofs.Runs.{Apart}

one_if : Bool → ℕ
one_if b = cond b 1 0

count-cons : (e f : Edge) (es : List Edge) → count_by (same e) (f ∷ es) ≡ cond (same e f) 1 0 + count_by (same e) es
count-cons e f es = sum_by-cons (λ x. cond (same e x) 1 0) f es

pub count-none : (e : Edge) (es : List Edge) → is_listed e es ≡ false → count_by (same e) es ≡ 0
count-none e [] h = refl
count-none e (f ∷ es) h =
    let parts = or_parts (same e f) (is_listed e es) h in
    count-cons e f es ∙ rw (parts.0, count-none e es parts.1) (omega arith)

pub count-one : (e : Edge) (es : List Edge) → Apart es → is_listed e es ≡ true → count_by (same e) es ≡ 1
count-one e [] apart h = absurd (false≢true h)
count-one e (f ∷ es) apart h =
    count-cons e f es ∙ by_test (same e f) refl (is_listed e es) refl (count-one e es apart.1)
  where
    by_test : (t : Bool) → same e f ≡ t → (u : Bool) → is_listed e es ≡ u → (is_listed e es ≡ true → count_by (same e) es ≡ 1) → cond (same e f) 1 0 + count_by (same e) es ≡ 1
    by_test true is true later one = absurd (false≢true (sym apart.0 ∙ ap (λ x. is_listed x es) (sym (same_is e f is)) ∙ later))
    by_test true is false never one = rw (is, count-none e es never) (omega arith)
    by_test false is true later one = rw (is, one later) (omega arith)
    by_test false is false never one = absurd (false≢true (sym never ∙ rw is at h))

sum_by-nil : (g : Edge → ℕ) → sum_by g [] ≡ 0
sum_by-nil g = refl

-- the sum of what is 0 for each
pub sum-none : (g : Edge → ℕ) (es : List Edge) → ((f : Edge) → is_listed f es ≡ true → g f ≡ 0) → sum_by g es ≡ 0
sum-none g [] h = refl
sum-none g (e ∷ es) h =
    let here = h e (or_left (same e e) (is_listed e es) (same_refl e)) in
    let rest = sum-none g es (λ f listed. h f (or_right (same f e) (is_listed f es) listed)) in
    let all = sum_by-cons g e es in
    omega (arith, here, rest, all)

sum-agree : (g h : Edge → ℕ) (es : List Edge) → ((f : Edge) → is_listed f es ≡ true → g f ≡ h f) → sum_by g es ≡ sum_by h es
sum-agree g h [] same_at_each = refl
sum-agree g h (e ∷ es) same_at_each =
    let here = same_at_each e (or_left (same e e) (is_listed e es) (same_refl e)) in
    let rest = sum-agree g h es (λ f listed. same_at_each f (or_right (same f e) (is_listed f es) listed)) in
    let all = sum_by-cons g e es in
    let other = sum_by-cons h e es in
    omega (arith, here, rest, all, other)

-- and of what is 1 for one of them
pub sum-one : (g : Edge → ℕ) (es : List Edge) (m : Edge) → Apart es → is_listed m es ≡ true → ((f : Edge) → is_listed f es ≡ true → g f ≡ cond (same m f) 1 0) → sum_by g es ≡ 1
sum-one g es m apart listed each = sum-agree g (λ f. cond (same m f) 1 0) es each ∙ count-one m es apart listed

pub sum-map : {A : Type 0} (g : A → ℕ) (h : Edge → A) (es : List Edge) → sum_by g (map h es) ≡ sum_by (λ e. g (h e)) es
sum-map g h [] = refl
sum-map g h (e ∷ es) =
    let all = sum_by-cons g (h e) (map h es) in
    let other = sum_by-cons (λ x. g (h x)) e es in
    let rest = sum-map g h es in
    omega (arith, all, other, rest)
