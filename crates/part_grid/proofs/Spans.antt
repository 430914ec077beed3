-- Tests over the lines of spans.
use Rattle.std.proofs.Common.{◌≡◌, ℕ, zero, suc, ◌+◌, ◌-◌, ◌<◌, ◌≤◌, max, Bool, true, false, refl, sym, arith, inl, inr}
use Rattle.std.specs.Prelude.{◌||◌, ◌&&◌, nat_le}
use Rattle.std.specs.List.{list_any, range_with_len}
use Rattle.std.proofs.lemmas.Bool.{and_parts, and_from, leb-true, le-leb, or_cases, cases_eq, both_ways}
use Rattle.part_grid.specs.declared.cells.span.Span.{Span}
use Rattle.part_grid.specs.Span.{has, overlap, common, width, lines}
use Rattle.part_grid.specs.inner.Index.{IsWithin}

-- two tests that imply one another are one
pub same-test : (x y : Bool) → (x ≡ true → y ≡ true) → (y ≡ true → x ≡ true) → x ≡ y
same-test true y f g = sym (f refl)
same-test false true f g = g refl
same-test false false f g = refl

-- ---- a line of a span
pub has-lines : (span : Span) (n : ℕ) → has span n ≡ true → (span.low ≤ n) × (n ≤ span.high)
has-lines span n h =
    let both = and_parts (nat_le span.low n) (nat_le n span.high) h in
    (leb-true span.low n both.0, leb-true n span.high both.1)

pub has-from : (span : Span) (n : ℕ) → span.low ≤ n → n ≤ span.high → has span n ≡ true
has-from span n h k = and_from (nat_le span.low n) (nat_le n span.high) (le-leb span.low n h) (le-leb n span.high k)

pub overlap-lines : (a b : Span) → overlap a b ≡ true → (a.low ≤ b.high) × (b.low ≤ a.high)
overlap-lines a b h =
    let both = and_parts (nat_le a.low b.high) (nat_le b.low a.high) h in
    (leb-true a.low b.high both.0, leb-true b.low a.high both.1)

pub overlap-from : (a b : Span) → a.low ≤ b.high → b.low ≤ a.high → overlap a b ≡ true
overlap-from a b h k = and_from (nat_le a.low b.high) (nat_le b.low a.high) (le-leb a.low b.high h) (le-leb b.low a.high k)

-- ---- some number of a range
pub record IsFound (f : ℕ → Bool) (low count : ℕ) : Type 0 where
  pub at : ℕ
  pub from : low ≤ at
  pub below : at < low + count
  pub is : f at ≡ true

pub found-in : (f : ℕ → Bool) (low count : ℕ) → list_any f (range_with_len low count) ≡ true → IsFound f low count
found-in f low zero h = absurd (both_ways false refl h)
found-in f low (suc count) h =
    elim (or_cases (f low) (list_any f (range_with_len (low + 1) count)) h) [
      | inl here ↦ record { at = low; from = omega arith; below = omega arith; is = here }
      | inr later ↦ (let rest = found-in f (low + 1) count later in record { at = rest.at; from = omega (arith, rest.from); below = omega (arith, rest.below); is = rest.is })
    ]

pub any-in : (f : ℕ → Bool) (low count n : ℕ) → low ≤ n → n < low + count → f n ≡ true → list_any f (range_with_len low count) ≡ true
any-in f low zero n h k e = absurd (omega arith)
any-in f low (suc count) n h k e =
    elim (cases_eq n low) [
      | inl same ↦ (let here : f low ≡ true = rw same at e in rw here refl)
      | inr other ↦ rw (any-in f (low + 1) count n (omega arith) (omega arith) e) (or-true (f low))
    ]
  where
    or-true : (b : Bool) → (b || true) ≡ true
    or-true true = refl
    or-true false = refl

-- one number more
pub any-more : (f : ℕ → Bool) (low count n : ℕ) → n ≡ low + count → list_any f (range_with_len low (count + 1)) ≡ (list_any f (range_with_len low count) || f n)
any-more f low count n e =
    same-test (list_any f (range_with_len low (count + 1))) (list_any f (range_with_len low count) || f n)
    (λ h.
    let it = found-in f low (count + 1) h in
    elim (cases_eq it.at n) [
      | inl same ↦ (let last : f n ≡ true = rw same at it.is in rw last (or-true (list_any f (range_with_len low count))))
      | inr other ↦ rw (any-in f low count it.at it.from (omega (arith, it.below)) it.is) refl
    ])
    (λ h.
    elim (or_cases (list_any f (range_with_len low count)) (f n) h) [
      | inl before ↦ (let it = found-in f low count before in any-in f low (count + 1) it.at it.from (omega (arith, it.below)) it.is)
      | inr last ↦ any-in f low (count + 1) n (omega arith) (omega arith) last
    ])
  where
    or-true : (b : Bool) → (b || true) ≡ true
    or-true true = refl
    or-true false = refl

-- ---- some line of a span
pub found-line : (f : ℕ → Bool) (span : Span) → list_any f (lines span) ≡ true → (n : ℕ) × (has span n ≡ true) × (f n ≡ true)
found-line f span h =
    let it = found-in f span.low (width span) h in
    (it.at, has-from span it.at it.from (omega (arith, it.from, it.below)), it.is)

pub any-line : (f : ℕ → Bool) (span : Span) (n : ℕ) → has span n ≡ true → f n ≡ true → list_any f (lines span) ≡ true
any-line f span n h e =
    let at = has-lines span n h in
    any-in f span.low (width span) n at.0 (omega (arith, at.0, at.1)) e

-- lines beyond a frame don't matter to a test that holds within it alone
pub any-common : (f : ℕ → Bool) (walk frame : Span) → ((n : ℕ) → f n ≡ true → has frame n ≡ true) → list_any f (lines (common walk frame)) ≡ list_any f (lines walk)
any-common f walk frame inside =
    same-test (list_any f (lines (common walk frame))) (list_any f (lines walk))
    (λ h.
    let it = found-line f (common walk frame) h in
    let at = has-lines (common walk frame) it.0 it.1 in
    any-line f walk it.0 (has-from walk it.0 (omega (arith, at.0, at.1)) (omega (arith, at.0, at.1))) it.2)
    (λ h.
    let it = found-line f walk h in
    let at = has-lines walk it.0 it.1 in
    let there = has-lines frame it.0 (inside it.0 it.2) in
    any-line f (common walk frame) it.0 (has-from (common walk frame) it.0 (omega (arith, at.0, at.1, there.0, there.1)) (omega (arith, at.0, at.1, there.0, there.1))) it.2)

-- two spans share a line where some line of one is of the other
pub any-has : (inner rows frame : Span) (b : Bool) → inner.low ≤ inner.high → rows.low ≤ rows.high → IsWithin inner frame
    → list_any (λ n. b && has inner n) (lines (common rows frame)) ≡ (b && overlap inner rows)
any-has inner rows frame b h k within =
    same-test (list_any (λ n. b && has inner n) (lines (common rows frame))) (b && overlap inner rows)
    (λ e.
    let it = found-line (λ n. b && has inner n) (common rows frame) e in
    let at = has-lines (common rows frame) it.0 it.1 in
    let both = and_parts b (has inner it.0) it.2 in
    let there = has-lines inner it.0 both.1 in
    and_from b (overlap inner rows) both.0 (overlap-from inner rows (omega (arith, at.0, at.1, there.0, there.1)) (omega (arith, at.0, at.1, there.0, there.1))))
    (λ e.
    let both = and_parts b (overlap inner rows) e in
    let at = overlap-lines inner rows both.1 in
    let n = max inner.low rows.low in
    any-line (λ n. b && has inner n) (common rows frame) n
    (has-from (common rows frame) n (omega (arith, at.0, at.1, within.low, within.high)) (omega (arith, at.0, at.1, within.low, within.high)))
    (and_from b (has inner n) both.0 (has-from inner n (omega (arith, at.0)) (omega (arith, at.0, at.1)))))

-- ---- a loop over the lines of a span
pub any-start : (f : ℕ → Bool) (low : ℕ) → list_any f (range_with_len low (low - low)) ≡ false
any-start f low = let none : low - low ≡ 0 = omega arith in rw none refl

pub any-turn : (f : ℕ → Bool) (low n : ℕ) → low ≤ n → list_any f (range_with_len low ((n + 1) - low)) ≡ (list_any f (range_with_len low (n - low)) || f n)
any-turn f low n h =
    let more : (n + 1) - low ≡ (n - low) + 1 = omega arith in
    rw more (any-more f low (n - low) n (omega arith))

pub any-end : (f : ℕ → Bool) (span : Span) (n : ℕ) → span.low ≤ n → n - span.low ≤ (span.high + 1) - span.low → span.high + 1 ≤ n
    → list_any f (range_with_len span.low (n - span.low)) ≡ list_any f (lines span)
any-end f span n h k e = let all : n - span.low ≡ width span = omega arith in rw all refl
