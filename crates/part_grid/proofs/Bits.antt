-- Marks in the bits of words.
use Rattle.std.proofs.Common.{◌≡◌, ℕ, zero, suc, [], ◌+◌, ◌-◌, ◌*◌, ◌/◌, ◌%◌, ◌^◌, ◌<◌, ◌≤◌, min, Bool, true, false, List, ◌∷◌, length, get_or, set, map, replicate, take, ◌++◌, refl, sym, ap, ◌∙◌, inl, inr, arith}
use Rattle.std.specs.Prelude.{◌==◌, bit_or}
use Rattle.std.specs.Int.{bit_at, w64, trailing_zeros}
use Rattle.std.specs.List.{range_with_len, FoldsTo}
use Rattle.std.proofs.lemmas.Nat.{shr-shr, shr_below, shr_le, or_lt, mod_below}
use Rattle.std.proofs.lemmas.Nat.Bits.{bit_at-zero, bit_at_set_same, bit_at_set_other, bit_at-trailing_zeros, bit_at_above}
use Rattle.std.proofs.Math.Seq.{take-nil}
use Rattle.std.proofs.lemmas.Bool.{cases_eq, cases_lt}
use Rattle.std.proofs.lemmas.List.{same_lists, get_or-set_same, get_or-set_other, length-set, length-replicate, set_past}
use Rattle.std.proofs.lemmas.List.FromFn.{length-map-range_with_len, get_or-map-range_with_len}
use Rattle.part_grid.specs.inner.Marks.{is_marked, marks_of, IsMarks}

-- ---- the list of marks
pub marks-length : (words : List ℕ) (count : ℕ) → length (marks_of words count) ≡ count
marks-length words count = length-map-range_with_len (is_marked words) 0 count

pub marks-at : (words : List ℕ) (count k : ℕ) (d : Bool) → k < count → get_or (marks_of words count) k d ≡ is_marked words k
marks-at words count k d h = get_or-map-range_with_len (is_marked words) 0 count k k d h (omega arith)

zero-at : (n k : ℕ) → get_or {A = ℕ} (replicate n 0) k 0 ≡ 0
zero-at zero k = refl
zero-at (suc n) zero = refl
zero-at (suc n) (suc k) = zero-at n k

-- without a mark
pub marks-none : (words : List ℕ) (n count : ℕ) → words ≡ replicate n 0 → marks_of words count ≡ replicate count false
marks-none words n count e = ap (λ (ws : List ℕ). marks_of ws count) e ∙ none 0 count
  where
    unmarked : (k : ℕ) → is_marked (replicate n 0) k ≡ false
    unmarked k = rw (zero-at n (k / 64), bit_at-zero (k % 64)) refl

    none : (from count : ℕ) → map (is_marked (replicate n 0)) (range_with_len from count) ≡ replicate count false
    none from zero = refl
    none from (suc count) = rw (unmarked from) (ap (λ (bs : List Bool). false ∷ bs) (none (from + 1) count))

-- a mark more
with_mark : List ℕ → ℕ → List ℕ
with_mark words number = set words (number / 64) (bit_or (get_or words (number / 64) 0) (1 * 2 ^ (number % 64) % 2 ^ 64))

marked-here : (words : List ℕ) (number : ℕ) → number / 64 < length words → is_marked (with_mark words number) number ≡ true
unfolding with_mark
marked-here words number h =
    let place = number / 64 in
    let new = bit_or (get_or words place 0) (1 * 2 ^ (number % 64) % 2 ^ 64) in
    rw (get_or-set_same words place new 0 h, bit_at_set_same w64 (get_or words place 0) (number % 64) (omega arith)) refl

marked-there : (words : List ℕ) (number k : ℕ) → number / 64 < length words → (k ≡ number → ⊥) → is_marked (with_mark words number) k ≡ is_marked words k
unfolding with_mark
marked-there words number k h other =
    let place = number / 64 in
    let new = bit_or (get_or words place 0) (1 * 2 ^ (number % 64) % 2 ^ 64) in
    elim (cases_eq (k / 64) place) [
      | inl same ↦
          (let apart : k % 64 ≡ number % 64 → ⊥ = λ e. other (omega arith) in
          rw (same, get_or-set_same words place new 0 h, bit_at_set_other w64 (get_or words place 0) (number % 64) (omega arith) (k % 64) apart) refl)
      | inr differ ↦ rw (get_or-set_other words place (k / 64) new 0 differ) refl
    ]

pub mark-more : (words : List ℕ) (count number word : ℕ) → count ≤ 64 * length words → number < count → word ≡ get_or words (number / 64) 0
    → marks_of (set words (number / 64) (bit_or word (1 * 2 ^ (number % 64) % 2 ^ 64))) count ≡ set (marks_of words count) number true
unfolding with_mark
mark-more words count number word room h is =
    let place : number / 64 < length words = omega arith in
    ap (λ (x : ℕ). marks_of (set words (number / 64) (bit_or x (1 * 2 ^ (number % 64) % 2 ^ 64))) count) is
    ∙ same_lists (marks_of (with_mark words number) count) (set (marks_of words count) number true)
    (marks-length (with_mark words number) count ∙ sym (length-set (marks_of words count) number true ∙ marks-length words count))
    (λ k d below.
    let within : k < count = omega (arith, marks-length (with_mark words number) count) in
    let size = marks-length words count in
    marks-at (with_mark words number) count k d within
    ∙ elim (cases_eq k number) [
      | inl same ↦ ap (is_marked (with_mark words number)) same ∙ marked-here words number place ∙ sym (ap (λ (i : ℕ). get_or (set (marks_of words count) number true) i d) same ∙ get_or-set_same (marks_of words count) number true d (omega arith))
      | inr other ↦ marked-there words number k place other ∙ sym (marks-at words count k d within) ∙ sym (get_or-set_other (marks_of words count) number k true d other)
    ])

pub mark-past : (words : List ℕ) (count number : ℕ) → count ≤ number → marks_of words count ≡ set (marks_of words count) number true
mark-past words count number h = sym (set_past (marks_of words count) number true (omega (arith, marks-length words count)))

-- ---- the next mark
-- the marks of a word, counted from one of its numbers on
word-bit : (words : List ℕ) (number j : ℕ) → number % 64 + j < 64 → is_marked words (number + j) ≡ (bit_at (get_or words (number / 64) 0 / 2 ^ (number % 64)) j == 1)
word-bit words number j h =
    let word : (number + j) / 64 ≡ number / 64 = omega arith in
    let bit : (number + j) % 64 ≡ number % 64 + j = omega arith in
    rw (word, bit) (ap (λ (n : ℕ). n % 2 == 1) (sym (shr-shr (get_or words (number / 64) 0) (number % 64) j)))

-- the first mark from a number on
pub record IsFirst (marks : List Bool) (number next : ℕ) : Type 0 where
  pub from : number ≤ next
  pub within : next ≤ length marks
  pub unmarked : (k : ℕ) → number ≤ k → k < next → get_or marks k false ≡ false
  pub marked : next < length marks → get_or marks next false ≡ true

-- the same in the words
pub record IsNext (words : List ℕ) (number next : ℕ) : Type 0 where
  pub from : number ≤ next
  pub unmarked : (k : ℕ) → number ≤ k → k < next → is_marked words k ≡ false
  pub marked : is_marked words next ≡ true

pub next-here : (words : List ℕ) (number left : ℕ) → get_or words (number / 64) 0 < 2 ^ 64 → left ≡ get_or words (number / 64) 0 / 2 ^ (number % 64) → (left ≡ 0 → ⊥)
    → (number % 64 + trailing_zeros w64 left < 64) × IsNext words number (number + trailing_zeros w64 left)
next-here words number left fits is some =
    let word = get_or words (number / 64) 0 in let s = number % 64 in
    let zeros = trailing_zeros w64 left in
    let less : left ≤ word = rw is (shr_le word s) in
    let lowest = bit_at-trailing_zeros w64 left (omega arith) (omega arith) in
    let short : left < 2 ^ (64 - s) = rw is (shr_below word (64 - s) s (let sum : (64 - s) + s ≡ 64 = omega arith in rw sum fits)) in
    let within : s + zeros < 64 =
    elim (cases_lt (s + zeros) 64) [
      | inl below ↦ below
      | inr above ↦ (let none : bit_at left zeros ≡ 0 = bit_at_above left (64 - s) zeros short (omega arith) in let one = lowest.1 in absurd (omega arith))
    ] in (
      within,
      record {
        from = omega arith;
        unmarked = λ k from below.
            let there : number + (k - number) ≡ k = omega arith in
            ap (is_marked words) (sym there) ∙ word-bit words number (k - number) (omega arith) ∙ ap (λ (n : ℕ). bit_at n (k - number) == 1) (sym is) ∙ ap (λ (n : ℕ). n == 1) (lowest.2 (k - number) (omega arith));
        marked = word-bit words number zeros within ∙ ap (λ (n : ℕ). bit_at n zeros == 1) (sym is) ∙ ap (λ (n : ℕ). n == 1) lowest.1;
      },
    )

-- a word without a mark from a number on
pub none-here : (words : List ℕ) (number left k : ℕ) → left ≡ get_or words (number / 64) 0 / 2 ^ (number % 64) → left ≡ 0 → number ≤ k → k < 64 * (number / 64 + 1) → is_marked words k ≡ false
none-here words number left k is none from below =
    let there : number + (k - number) ≡ k = omega arith in
    ap (is_marked words) (sym there) ∙ word-bit words number (k - number) (omega arith) ∙ ap (λ (n : ℕ). bit_at n (k - number) == 1) (sym is ∙ none) ∙ ap (λ (n : ℕ). n == 1) (bit_at-zero (k - number))

-- ---- what a search finds
pub first-none : (words : List ℕ) (count number : ℕ) (marks : List Bool) → marks_of words count ≡ marks → number ≤ count
    → ((k : ℕ) → number ≤ k → k < count → is_marked words k ≡ false) → IsFirst marks number count
first-none words count number marks view h none =
    let size = marks-length words count in
    let same = ap length view in
    record {
      from = h;
      within = omega arith;
      unmarked = λ k from below. ap (λ (ms : List Bool). get_or ms k false) (sym view) ∙ marks-at words count k false below ∙ none k from below;
      marked = λ less. absurd (omega arith);
    }

pub first-next : (words : List ℕ) (count number next r : ℕ) (marks : List Bool) → marks_of words count ≡ marks → number < count → IsNext words number next → r ≡ min count next → IsFirst marks number r
first-next words count number next r marks view h is e =
    let size = marks-length words count in
    let same = ap length view in
    record {
      from = omega (arith, is.from);
      within = omega arith;
      unmarked = λ k from below. ap (λ (ms : List Bool). get_or ms k false) (sym view) ∙ marks-at words count k false (omega arith) ∙ is.unmarked k from (omega arith);
      marked = λ less.
          let here : r ≡ next = omega arith in
          ap (λ (ms : List Bool). get_or ms r false) (sym view) ∙ marks-at words count r false (omega arith) ∙ ap (is_marked words) here ∙ is.marked;
    }

-- the next mark in a later word
pub next-later : (words : List ℕ) (number place word : ℕ) → word < 2 ^ 64 → word ≡ get_or words place 0 → (word ≡ 0 → ⊥) → number ≤ place * 64
    → ((k : ℕ) → number ≤ k → k < 64 * place → is_marked words k ≡ false) → IsNext words number (place * 64 + trailing_zeros w64 word)
next-later words number place word fits is some h none =
    let there : place * 64 / 64 ≡ place = omega arith in
    let first : place * 64 % 64 ≡ 0 = omega arith in
    let whole : get_or words (place * 64 / 64) 0 / 2 ^ (place * 64 % 64) ≡ word / 2 ^ 0 = rw (there, first, ← is) refl in
    let one : word / 2 ^ 0 ≡ word = omega arith in
    let here = (next-here words (place * 64) word (rw (there, ← is) fits) (sym (whole ∙ one)) some).1 in
    record {
      from = omega (arith, here.from);
      unmarked = λ k from below. elim (cases_lt k (64 * place)) [ inl before ↦ none k from before | inr behind ↦ here.unmarked k (omega arith) below ];
      marked = here.marked;
    }

-- a word without a mark
pub none-later : (words : List ℕ) (number place word k : ℕ) → word ≡ get_or words place 0 → word ≡ 0 → ((k : ℕ) → number ≤ k → k < 64 * place → is_marked words k ≡ false)
    → number ≤ k → k < 64 * (place + 1) → is_marked words k ≡ false
none-later words number place word k is none before from below =
    elim (cases_lt k (64 * place)) [
      | inl less ↦ before k from less
      | inr more ↦ (let there : k / 64 ≡ place = omega arith in rw (there, ← is, none) (ap (λ (n : ℕ). n == 1) (bit_at-zero (k % 64))))
    ]

-- ---- the words keep their form
pub with-mark-is : (words : List ℕ) (count number word : ℕ) → IsMarks words count → number < count → word ≡ get_or words (number / 64) 0
    → IsMarks (set words (number / 64) (bit_or word (1 * 2 ^ (number % 64) % 2 ^ 64))) count
with-mark-is words count number word is h at =
    let place = number / 64 in
    let new = bit_or word (1 * 2 ^ (number % 64) % 2 ^ 64) in
    let fits : new < 2 ^ 64 = or_lt 64 word (1 * 2 ^ (number % 64) % 2 ^ 64) (rw at (is.fits place)) (mod_below (1 * 2 ^ (number % 64)) (2 ^ 64) (omega arith)) in
    record {
      room = omega (arith, is.room, length-set words place new);
      fits = λ k. elim (cases_eq k place) [
        | inl same ↦ (let here : get_or (set words place new) k 0 ≡ new = rw same (get_or-set_same words place new 0 (omega (arith, is.room))) in omega arith)
        | inr other ↦ rw (get_or-set_other words place k new 0 other) (is.fits k)
      ];
    }

-- what a call that always gives 0 gave, call by call
pub zeros-given : {F : Type 0} (R : F → ℕ → F → Type 0) (f : F) (xs : List ℕ) (last : F)
    → ((p : F) (x : ℕ) (q : F) → R p x q → x ≡ 0) → FoldsTo R f xs last → xs ≡ replicate (length xs) 0
zeros-given R f [] last none folds = refl
zeros-given R f (x ∷ xs) last none folds =
    let first = none f x folds.0 folds.1 in
    rw first (ap (λ (ys : List ℕ). 0 ∷ ys) (zeros-given R folds.0 xs last none folds.2))

-- so that a list which is cut to nothing and filled up so is zeros
pub zeros-made : {F : Type 0} (R : F → ℕ → F → Type 0) (f : F) (count : ℕ) (old xs items : List ℕ) (last : F)
    → ((p : F) (x : ℕ) (q : F) → R p x q → x ≡ 0)
    → old ≡ []
    → items ≡ take count old ++ xs
    → FoldsTo R f xs last
    → length items ≡ count
    → items ≡ replicate count 0
zeros-made R f count old xs items last none nothing filled folds long =
    let new : items ≡ xs = filled ∙ ap (λ (ys : List ℕ). take count ys ++ xs) nothing ∙ ap (λ (ys : List ℕ). ys ++ xs) (take-nil count) in
    new ∙ zeros-given R f xs last none folds ∙ ap (λ n. replicate n 0) (ap length (sym new) ∙ long)

pub zeros-are : (words : List ℕ) (n count : ℕ) → words ≡ replicate n 0 → count ≤ 64 * n → IsMarks words count
zeros-are words n count e room = rw e (record {
  room = omega (arith, length-replicate {A = ℕ} n 0);
  fits = λ k. let none = zero-at n k in omega arith;
})
