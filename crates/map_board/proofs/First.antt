-- The first edit that passes a test is the least that does.
use Rattle.std.proofs.Common.{◌≡◌, ℕ, zero, suc, ◌+◌, ◌-◌, ◌≤◌, ◌<◌, Bool, true, false, cond, List, [], ◌∷◌, take, drop, refl, sym, subst, arith}
use Rattle.std.specs.Prelude.{Some, None, slice_get}
use Rattle.scene_book.specs.Book.{Book, empty_book}
use Rattle.scene_book.specs.declared.edits.Edit.{Edit}
use Rattle.map_board.specs.Journal.{book_after, book_after_all, scene_at, first_from, first_after}
use Rattle.map_board.specs.First.{PassesAfter, IsLeast, FirstIsLeast, NoFirstPassesNone}

-- the edit at a place passes, where the scene before the first of them is this one
record PassesIn (test : Edit → Book → Bool) (es : List Edit) (book : Book) (k : ℕ) : Type 0 where
  pub edit : Edit
  pub there : slice_get es k ≡ Some edit
  pub passes : test edit (book_after_all (take k es) book) ≡ true

module _ (test : Edit → Book → Bool) where
  -- ---- one walk

  record IsFirstIn (es : List Edit) (book : Book) (count number : ℕ) : Type 0 where
    pub place : ℕ
    pub number_is : number ≡ suc (count + place)
    pub passes : PassesIn test es book place
    pub others : (k : ℕ) → k < place → PassesIn test es book k → ⊥

  -- a place behind the first is one less in the rest
  behind : (e : Edit) (es : List Edit) (book : Book) (k : ℕ) → PassesIn test (e ∷ es) book (suc k) → PassesIn test es (book_after e book) k
  behind e es book k is = record { edit = is.edit; there = is.there; passes = is.passes }

  before : (e : Edit) (es : List Edit) (book : Book) (k : ℕ) → PassesIn test es (book_after e book) k → PassesIn test (e ∷ es) book (suc k)
  before e es book k is = record { edit = is.edit; there = is.there; passes = is.passes }

  -- the edit in front passes where its test does
  front : (e : Edit) (es : List Edit) (book : Book) → PassesIn test (e ∷ es) book zero → test e book ≡ true
  front e es book is = let same : is.edit ≡ e = cc in subst (λ (x : Edit). test x book ≡ true) same is.passes

  number-of : (n m : ℕ) → Some n ≡ Some m → n ≡ m
  number-of n m e = cc

  walk-some : (es : List Edit) (book : Book) (count number : ℕ) → first_from test count book es ≡ Some number → IsFirstIn es book count number
  walk-some [] book count number e = absurd (cc)
  walk-some (x ∷ es) book count number e =
      by_test (test x book) refl (λ found. walk-some es (book_after x book) (suc count) number found) e
    where
      others : (test x book ≡ false) → (rest : IsFirstIn es (book_after x book) (suc count) number) (k : ℕ) → k < suc rest.place → PassesIn test (x ∷ es) book k → ⊥
      others fails rest zero less is = absurd (cc (front x es book is, fails))
      others fails rest (suc k) less is = rest.others k (omega arith) (behind x es book k is)

      by_test : (b : Bool) → test x book ≡ b → (first_from test (suc count) (book_after x book) es ≡ Some number → IsFirstIn es (book_after x book) (suc count) number)
          → cond b (Some (suc count)) (first_from test (suc count) (book_after x book) es) ≡ Some number → IsFirstIn (x ∷ es) book count number
      by_test true passes later found =
          let is = number-of (suc count) number found in
          record { place = 0; number_is = omega (arith, is); passes = record { edit = x; there = refl; passes = passes }; others = λ k less other. absurd (omega arith) }
      by_test false fails later found =
          let rest = later found in
          record { place = suc rest.place; number_is = omega (arith, rest.number_is); passes = before x es book rest.place rest.passes; others = others fails rest }

  walk-none : (es : List Edit) (book : Book) (count k : ℕ) → first_from test count book es ≡ None → PassesIn test es book k → ⊥
  walk-none [] book count k e is = let none = is.there in absurd (cc)
  walk-none (x ∷ es) book count k e is =
      by_test (test x book) refl (λ found j other. walk-none es (book_after x book) (suc count) j found other) e k is
    where
      by_test : (b : Bool) → test x book ≡ b → (first_from test (suc count) (book_after x book) es ≡ None → (j : ℕ) → PassesIn test es (book_after x book) j → ⊥)
          → cond b (Some (suc count)) (first_from test (suc count) (book_after x book) es) ≡ None → (k : ℕ) → PassesIn test (x ∷ es) book k → ⊥
      by_test true passes later found k is = absurd (cc)
      by_test false fails later found zero is = absurd (cc (front x es book is, fails))
      by_test false fails later found (suc k) is = later found k (behind x es book k is)

  -- ---- from a version on

  onward : (es : List Edit) (book : Book) (v k : ℕ) → PassesIn test (drop v es) (book_after_all (take v es) book) k → PassesIn test es book (v + k)
  onward es book zero k is = let e : k ≡ 0 + k = omega arith in subst (λ (n : ℕ). PassesIn test es book n) e is
  onward [] book (suc v) k is = let none = is.there in absurd (cc)
  onward (x ∷ es) book (suc v) k is =
      let e : suc v + k ≡ suc (v + k) = omega arith in
      subst (λ (n : ℕ). PassesIn test (x ∷ es) book n) (sym e) (before x es book (v + k) (onward es (book_after x book) v k is))

  back : (es : List Edit) (book : Book) (v k : ℕ) → PassesIn test es book (v + k) → PassesIn test (drop v es) (book_after_all (take v es) book) k
  back es book zero k is = let e : 0 + k ≡ k = omega arith in subst (λ (n : ℕ). PassesIn test es book n) e is
  back [] book (suc v) k is = let none = is.there in absurd (cc)
  back (x ∷ es) book (suc v) k is =
      let e : suc v + k ≡ suc (v + k) = omega arith in
      back es (book_after x book) v k (behind x es book (v + k) (subst (λ (n : ℕ). PassesIn test (x ∷ es) book n) e is))

  at-version : (journal : List Edit) (v k : ℕ) → v ≤ k → PassesAfter test journal k → PassesIn test (drop v journal) (scene_at journal v) (k - v)
  at-version journal v k le is =
      let e : k ≡ v + (k - v) = omega arith in
      back journal empty_book v (k - v) (subst (λ (n : ℕ). PassesIn test journal empty_book n) e (record { edit = is.edit; there = is.next; passes = is.passes }))

  first-least : (journal : List Edit) (version number : ℕ) → first_after test journal version ≡ Some number → IsLeast test journal version number
  first-least journal version number e =
      let is = walk-some (drop version journal) (scene_at journal version) version number e in
      let passes = onward journal empty_book version is.place is.passes in
      record {
        before = version + is.place;
        number_is = is.number_is;
        after = omega arith;
        passes = record { edit = passes.edit; next = passes.there; passes = passes.passes };
        others = λ k le less other. is.others (k - version) (omega arith) (at-version journal version k le other);
      }

  none-passes : (journal : List Edit) (version k : ℕ) → first_after test journal version ≡ None → version ≤ k → PassesAfter test journal k → ⊥
  none-passes journal version k e le is = walk-none (drop version journal) (scene_at journal version) version (k - version) e (at-version journal version k le is)

pub first-is-least : FirstIsLeast
first-is-least test journal version number e = first-least test journal version number e

pub no-first-passes-none : NoFirstPassesNone
no-first-passes-none test journal version k e le is = none-passes test journal version k e le is
