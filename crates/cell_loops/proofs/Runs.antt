-- Edges one after another.
use Rattle.std.proofs.Common.{◌≡◌, ℕ, zero, suc, ◌+◌, ◌-◌, ◌<◌, ◌≤◌, Bool, true, false, ◌||◌, List, [], ◌∷◌, length, arith, refl, sym, ap, ◌∙◌, ◌⊎◌, inl, inr, zero-add}
use Rattle.std.specs.Prelude.{if◌then◌else◌}
use Rattle.std.proofs.lemmas.Bool.{false≢true, or_cases, or_parts, or_from, or_left, or_right, cases_Bool}
use Rattle.cell_loops.specs.declared.corners.Edge.{Edge}
use Rattle.cell_loops.specs.Plane.{Plane}
use Rattle.cell_loops.specs.Boundary.{bounds, same, next_of, run_of, until}
use Rattle.cell_loops.specs.inner.Steps.{is_listed}
use Rattle.cell_loops.proofs.Edges.{bounds-next, same_is, same_refl, next-same}

-- the edge n edges after an edge
abbrev pub after : ℕ → Plane → Edge → Edge
after zero s e = e
after (suc n) s e = after n s (next_of s e)

pub after-next : (n : ℕ) (s : Plane) (e : Edge) → after n s (next_of s e) ≡ next_of s (after n s e)
after-next zero s e = refl
after-next (suc n) s e = after-next n s (next_of s e)

pub after-add : (m n : ℕ) (s : Plane) (e : Edge) → after (m + n) s e ≡ after n s (after m s e)
after-add zero n s e = rw zero-add refl
after-add (suc m) n s e =
    let more : suc m + n ≡ suc (m + n) = omega arith in
    rw more (after-add m n s (next_of s e))

pub bounds-after : (n : ℕ) (s : Plane) (e : Edge) → bounds s e ≡ true → bounds s (after n s e) ≡ true
bounds-after zero s e h = h
bounds-after (suc n) s e h = bounds-after n s (next_of s e) (bounds-next s e h)

-- ---- what a run lists

pub length-run : (n : ℕ) (s : Plane) (e : Edge) → length (run_of n s e) ≡ n
length-run zero s e = refl
length-run (suc n) s e = ap suc (length-run n s (next_of s e))

pub listed-after : (k n : ℕ) (s : Plane) (e : Edge) → k < n → is_listed (after k s e) (run_of n s e) ≡ true
listed-after k zero s e h = absurd (omega arith)
listed-after zero (suc n) s e h = or_left _ _ (same_refl e)
listed-after (suc k) (suc n) s e h = or_right _ _ (listed-after k n s (next_of s e) (omega arith))

-- where an edge stands in a run
pub record StandsAt (s : Plane) (n : ℕ) (e f : Edge) : Type 0 where
  pub place : ℕ
  pub below : place < n
  pub is : after place s e ≡ f

pub stands-listed : (n : ℕ) (s : Plane) (e f : Edge) → is_listed f (run_of n s e) ≡ true → StandsAt s n e f
stands-listed zero s e f h = absurd (false≢true h)
stands-listed (suc n) s e f h =
    elim (or_cases _ _ h) [
      | inl here ↦ record { place = 0; below = omega arith; is = sym (same_is f e here) }
      | inr later ↦ (let at = stands-listed n s (next_of s e) f later in
          record { place = suc at.place; below = omega (arith, at.below); is = at.is })
    ]

pub bounds-listed : (n : ℕ) (s : Plane) (e f : Edge) → bounds s e ≡ true → is_listed f (run_of n s e) ≡ true → bounds s f ≡ true
bounds-listed n s e f h listed =
    let at = stands-listed n s e f listed in
    rw (sym at.is) (bounds-after at.place s e h)

shorter : (k : ℕ) (s : Plane) (e f : Edge) → is_listed e (run_of (suc k) s f) ≡ false → is_listed e (run_of k s f) ≡ false
shorter zero s e f h = refl
shorter (suc k) s e f h =
    let parts = or_parts _ _ h in
    or_from _ _ parts.0 (shorter k s e (next_of s f) parts.1)

-- ---- no edge twice

-- no edge stands twice in a list
abbrev pub Apart : List Edge → Type 0
Apart [] = Unit {0}
Apart (e ∷ es) = (is_listed e es ≡ false) × Apart es

shift : (k : ℕ) (s : Plane) (e f : Edge) → bounds s e ≡ true → bounds s f ≡ true
    → is_listed (next_of s e) (run_of k s (next_of s f)) ≡ is_listed e (run_of k s f)
shift zero s e f he hf = refl
shift (suc k) s e f he hf =
    rw (next-same s e f he hf, shift k s e (next_of s f) he (bounds-next s f hf)) refl

-- a run that doesn't come back to its beginning has no edge twice
pub apart-run : (k : ℕ) (s : Plane) (e : Edge) → bounds s e ≡ true → is_listed e (run_of k s (next_of s e)) ≡ false → Apart (run_of (suc k) s e)
apart-run zero s e h fresh = (refl, tt)
apart-run (suc k) s e h fresh = (
  fresh,
  apart-run k s (next_of s e) (bounds-next s e h)
      (shift k s e (next_of s e) h (bounds-next s e h) ∙ shorter k s e (next_of s e) fresh),
)

-- ---- until an edge comes again

pub record Returns (s : Plane) (e f : Edge) (m : ℕ) : Type 0 where
  pub count : ℕ
  pub edges : until e (run_of m s f) ≡ run_of count s f
  pub fresh : is_listed e (run_of count s f) ≡ false
  pub ending : (after count s f ≡ e) ⊎ (count ≡ m)

pub returns-at : (m : ℕ) (s : Plane) (e f : Edge) → Returns s e f m
returns-at zero s e f = record { count = 0; edges = refl; fresh = refl; ending = inr refl }
returns-at (suc m) s e f = by_test (same e f) refl (returns-at m s e (next_of s f)) where
  by_test : (t : Bool) → same e f ≡ t → Returns s e (next_of s f) m → Returns s e f (suc m)
  by_test true is rest = record { count = 0; edges = rw is refl; fresh = refl; ending = inl (sym (same_is e f is)) }
  by_test false is rest =
      record {
        count = suc rest.count;
        edges = rw (is, rest.edges) refl;
        fresh = rw (is, rest.fresh) refl;
        ending = elim rest.ending [ inl back ↦ inl back | inr all ↦ inr (ap suc all) ];
      }
