-- Lists of named things after a put or a take: their lengths and the sums over them.
use Rattle.std.proofs.lemmas.Slice.Eq.{bytes_eq-Decides}
use Rattle.std.proofs.Common.{subst, ◌∙◌, ◌++◌, append_assoc, append-nil, ◌≡◌, ℕ, suc, ◌+◌, ◌≤◌, refl, sym, ap, Bool, true, false, cond, List, [], ◌∷◌, length, drop, drop-cons, get_or, add-one, ◌<◌, arith}
use Rattle.std.specs.Prelude.{bytes_eq, Option, Some, None, is_some, if◌then◌else◌}
use Rattle.scene_book.specs.Lists.{named, put_in, take_out, put_all, total, NoneNamed, AreApart}

module _ {A : Type 0} (name_of : A → List ℕ) where
  there : (b : Bool) (x new old : A) (xs : List A) → cond b (Some x) (named name_of (name_of new) xs) ≡ Some old
      → (named name_of (name_of new) xs ≡ Some old → length (put_in name_of new xs) ≡ length xs)
      → length (cond b (new ∷ xs) (x ∷ put_in name_of new xs)) ≡ suc (length xs)
  there true x new old xs e ih = refl
  there false x new old xs e ih = ap suc (ih e)

  -- a put of a name that is there leaves the length
  pub length-put_in-there : (new old : A) (xs : List A) → named name_of (name_of new) xs ≡ Some old → length (put_in name_of new xs) ≡ length xs
  length-put_in-there new old [] e = cc
  length-put_in-there new old (x ∷ xs) e =
      there (bytes_eq (name_of new) (name_of x)) x new old xs e (length-put_in-there new old xs)

  away : (b : Bool) (x new : A) (xs : List A) → cond b (Some x) (named name_of (name_of new) xs) ≡ None
      → (named name_of (name_of new) xs ≡ None → length (put_in name_of new xs) ≡ length xs + 1)
      → length (cond b (new ∷ xs) (x ∷ put_in name_of new xs)) ≡ suc (length xs) + 1
  away true x new xs e ih = cc
  away false x new xs e ih = omega (arith, ih e)

  -- and of a new name makes it one longer
  pub length-put_in-new : (new : A) (xs : List A) → named name_of (name_of new) xs ≡ None → length (put_in name_of new xs) ≡ length xs + 1
  length-put_in-new new [] e = omega arith
  length-put_in-new new (x ∷ xs) e = away (bytes_eq (name_of new) (name_of x)) x new xs e (length-put_in-new new xs)

  less : (b : Bool) (x : A) (xs left : List A) → length left ≤ length xs → length (cond b xs (x ∷ left)) ≤ suc (length xs)
  less true x xs left h = omega arith
  less false x xs left h = omega arith

  pub length-take_out : (name : List ℕ) (xs : List A) → length (take_out name_of name xs) ≤ length xs
  length-take_out name [] = omega arith
  length-take_out name (x ∷ xs) =
      less (bytes_eq name (name_of x)) x xs (take_out name_of name xs) (length-take_out name xs)

module _ {A : Type 0} (name_of : A → List ℕ) (f : A → ℕ) where
  sum-there : (b : Bool) (x new old : A) (xs : List A) → cond b (Some x) (named name_of (name_of new) xs) ≡ Some old
      → (named name_of (name_of new) xs ≡ Some old → total f (put_in name_of new xs) + f old ≡ total f xs + f new)
      → total f (cond b (new ∷ xs) (x ∷ put_in name_of new xs)) + f old ≡ (f x + total f xs) + f new
  sum-there true x new old xs e ih = let same : x ≡ old = cc in omega (arith, ap f same)
  sum-there false x new old xs e ih = omega (arith, ih e)

  -- a sum after a put of a name that is there
  pub sum-put_in-there : (new old : A) (xs : List A) → named name_of (name_of new) xs ≡ Some old
      → total f (put_in name_of new xs) + f old ≡ total f xs + f new
  sum-put_in-there new old [] e = cc
  sum-put_in-there new old (x ∷ xs) e =
      sum-there (bytes_eq (name_of new) (name_of x)) x new old xs e (sum-put_in-there new old xs)

  sum-away : (b : Bool) (x new : A) (xs : List A) → cond b (Some x) (named name_of (name_of new) xs) ≡ None
      → (named name_of (name_of new) xs ≡ None → total f (put_in name_of new xs) ≡ total f xs + f new)
      → total f (cond b (new ∷ xs) (x ∷ put_in name_of new xs)) ≡ (f x + total f xs) + f new
  sum-away true x new xs e ih = cc
  sum-away false x new xs e ih = omega (arith, ih e)

  -- and of a new name
  pub sum-put_in-new : (new : A) (xs : List A) → named name_of (name_of new) xs ≡ None → total f (put_in name_of new xs) ≡ total f xs + f new
  sum-put_in-new new [] e = omega arith
  sum-put_in-new new (x ∷ xs) e = sum-away (bytes_eq (name_of new) (name_of x)) x new xs e (sum-put_in-new new xs)

  sum-out : (b : Bool) (x old : A) (name : List ℕ) (xs : List A) → cond b (Some x) (named name_of name xs) ≡ Some old
      → (named name_of name xs ≡ Some old → total f (take_out name_of name xs) + f old ≡ total f xs)
      → total f (cond b xs (x ∷ take_out name_of name xs)) + f old ≡ f x + total f xs
  sum-out true x old name xs e ih = let same : x ≡ old = cc in omega (arith, ap f same)
  sum-out false x old name xs e ih = omega (arith, ih e)

  -- and after one is taken out
  pub sum-take_out : (name : List ℕ) (old : A) (xs : List A) → named name_of name xs ≡ Some old
      → total f (take_out name_of name xs) + f old ≡ total f xs
  sum-take_out name old [] e = cc
  sum-take_out name old (x ∷ xs) e = sum-out (bytes_eq name (name_of x)) x old name xs e (sum-take_out name old xs)

  -- the number of a thing that is there is at most the sum
  pub total-there : (name : List ℕ) (old : A) (xs : List A) → named name_of name xs ≡ Some old → f old ≤ total f xs
  total-there name old xs e = omega (arith, sum-take_out name old xs e)

other_way : (a b : List ℕ) → bytes_eq a b ≡ false → bytes_eq b a ≡ false
other_way a b e = by (bytes_eq b a) refl
  where
    by : (t : Bool) → bytes_eq b a ≡ t → t ≡ false
    by true h = sym ((bytes_eq-Decides a b).1 (sym ((bytes_eq-Decides b a).0 h))) ∙ e
    by false h = refl

module _ {A : Type 0} (name_of : A → List ℕ) where
  -- a thing whose name isn't there goes to the end
  put_in-end : (new : A) (done : List A) (rest : List A) → AreApart name_of (done ++ new ∷ rest) → put_in name_of new done ≡ done ++ new ∷ []
  put_in-end new [] rest h = refl
  put_in-end new (x ∷ done) rest h =
      rw (other_way (name_of x) (name_of new) (unlike done rest h.0)) (ap (λ (l : List A). x ∷ l) (put_in-end new done rest h.1))
    where
      unlike : (done rest : List A) → NoneNamed name_of (name_of x) (done ++ new ∷ rest) → bytes_eq (name_of x) (name_of new) ≡ false
      unlike [] rest h = h.0
      unlike (y ∷ done) rest h = unlike done rest h.1

  put_all-end : (rest done : List A) → AreApart name_of (done ++ rest) → put_all name_of rest done ≡ done ++ rest
  put_all-end [] done h = sym (append-nil done)
  put_all-end (new ∷ rest) done h =
      ap (put_all name_of rest) (put_in-end new done rest h)
      ∙ put_all-end rest (done ++ new ∷ []) (subst (AreApart name_of) (sym (append_assoc done (new ∷ []) rest)) h)
      ∙ append_assoc done (new ∷ []) rest

  -- things with names of their own, put one after another, are these things
  pub put_all-apart : (things : List A) → AreApart name_of things → put_all name_of things [] ≡ things
  put_all-apart things h = put_all-end things [] h

module _ {A : Type 0} (name_of : A → List ℕ) where
  -- how many of these things bear names that aren't there
  abbrev pub absent : List A → List A → ℕ
  absent [] things = 0
  absent (new ∷ news) things =
      (if is_some (named name_of (name_of new) things) then 0 else 1) + absent news things

  behind : (name : List ℕ) (new x : A) (xs : List A) (c : Bool)
      → is_some (named name_of name (put_in name_of new xs)) ≡ is_some (named name_of name xs)
      → is_some (cond c (Some x) (named name_of name (put_in name_of new xs)))
      ≡ is_some (cond c (Some x) (named name_of name xs))
  behind name new x xs true ih = refl
  behind name new x xs false ih = ih

  hides-none : (name : List ℕ) (new x : A) (xs : List A) (b : Bool) → (b ≡ true → name_of new ≡ name_of x)
      → bytes_eq name (name_of new) ≡ false
      → is_some (named name_of name (put_in name_of new xs)) ≡ is_some (named name_of name xs)
      → is_some (named name_of name (cond b (new ∷ xs) (x ∷ put_in name_of new xs)))
      ≡ is_some (named name_of name (x ∷ xs))
  hides-none name new x xs true same e ih = rw (e, ← same refl, e) refl
  hides-none name new x xs false same e ih = behind name new x xs (bytes_eq name (name_of x)) ih

  -- a put hides and shows no other name
  other-named : (name : List ℕ) (new : A) (xs : List A) → bytes_eq name (name_of new) ≡ false
      → is_some (named name_of name (put_in name_of new xs)) ≡ is_some (named name_of name xs)
  other-named name new [] e = rw e refl
  other-named name new (x ∷ xs) e =
      hides-none name new x xs (bytes_eq (name_of new) (name_of x)) (bytes_eq-Decides (name_of new) (name_of x)).0 e
      (other-named name new xs e)

  still-absent : (news : List A) (new : A) (xs : List A) → NoneNamed name_of (name_of new) news
      → absent news (put_in name_of new xs) ≡ absent news xs
  still-absent [] new xs h = refl
  still-absent (n ∷ news) new xs h =
      rw (other-named (name_of n) new xs (other_way (name_of new) (name_of n) h.0), still-absent news new xs h.1) refl

  pub length_put_in : (new : A) (xs : List A)
      → length (put_in name_of new xs) ≡ length xs + (if is_some (named name_of (name_of new) xs) then 0 else 1)
  length_put_in new xs = by (named name_of (name_of new) xs) refl
    where
      by : (found : Option A) → named name_of (name_of new) xs ≡ found
          → length (put_in name_of new xs) ≡ length xs + (if is_some found then 0 else 1)
      by (Some old) h = omega (arith, length-put_in-there name_of new old xs h)
      by None h = omega (arith, length-put_in-new name_of new xs h)

  -- a list after its puts is as long as before and the names that weren't there
  pub length-put_all : (news xs : List A) → AreApart name_of news
      → length (put_all name_of news xs) ≡ length xs + absent news xs
  length-put_all [] xs h = omega arith
  length-put_all (new ∷ news) xs h = omega (
    arith,
    length-put_all news (put_in name_of new xs) h.1,
    still-absent news new xs h.0,
    length_put_in new xs,
  )

  pub absent-step : (news xs : List A) (i : ℕ) (d : A) → i < length news
      → absent (drop i news) xs
      ≡ (if is_some (named name_of (name_of (get_or news i d)) xs) then 0 else 1) + absent (drop (i + 1) news) xs
  absent-step news xs i d h = rw (drop-cons news i d h, add-one) refl

pub empty : {A : Type 0} (xs : List A) → length xs ≡ 0 → xs ≡ []
empty [] h = refl
empty (x ∷ xs) h = absurd (omega (arith, h))
