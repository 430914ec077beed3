-- Lists of named things as maps: what stands under each name after a put and a removal, and that two lists are the same
-- in another order where under each name they have the same.
use Rattle.std.proofs.lemmas.Slice.Eq.{bytes_eq-Decides}
use Rattle.std.proofs.Common.{◌≡◌, ℕ, suc, ◌+◌, refl, sym, ap, subst, ◌∙◌, arith, Bool, true, false, cond, List, [], ◌∷◌, length}
use Rattle.std.specs.Prelude.{bytes_eq, Option, Some, None}
use Rattle.scene_book.specs.Lists.{named, put_in, take_out, total, NoneNamed, AreApart}
use Rattle.scene_book.specs.Orders.{Shuffled}
use Rattle.scene_book.specs.Orders.Shuffled.{same, under, exchange, after}

-- ---- names

pub one_name : (a b : List ℕ) → bytes_eq a b ≡ true → a ≡ b
one_name a b = (bytes_eq-Decides a b).0

pub own_name : (a : List ℕ) → bytes_eq a a ≡ true
own_name a = (bytes_eq-Decides a a).1 refl

pub other_way : (a b : List ℕ) (t : Bool) → bytes_eq a b ≡ t → bytes_eq b a ≡ t
other_way a b true e = (bytes_eq-Decides b a).1 (sym (one_name a b e))
other_way a b false e = by (bytes_eq b a) refl
  where
    by : (t : Bool) → bytes_eq b a ≡ t → t ≡ false
    by true h = sym ((bytes_eq-Decides a b).1 (sym (one_name b a h))) ∙ e
    by false h = refl

-- one name isn't two
pub not_two : (n a b : List ℕ) → bytes_eq a b ≡ false → bytes_eq n a ≡ true → bytes_eq n b ≡ true → ⊥
not_two n a b e p q =
    let both : bytes_eq a b ≡ true = (bytes_eq-Decides a b).1 (sym (one_name n a p) ∙ one_name n b q) in
    cc

-- ---- two tests in a row

module _ {A : Type 0} where
  swapped : (t u : Bool) (x y : A) (o : Option A) → (t ≡ true → u ≡ true → ⊥)
      → cond u (Some x) (cond t (Some y) o) ≡ cond t (Some y) (cond u (Some x) o)
  swapped true true x y o apart = absurd (apart refl refl)
  swapped true false x y o apart = refl
  swapped false u x y o apart = refl

  hidden : (t u : Bool) (x y : A) (o : Option A) → t ≡ u → cond t (Some y) o ≡ cond t (Some y) (cond u (Some x) o)
  hidden true u x y o e = refl
  hidden false true x y o e = cc
  hidden false false x y o e = refl

  -- a removed thing behind a test
  swapped-none : (t u : Bool) (x : A) (o : Option A) → (t ≡ true → u ≡ true → ⊥)
      → cond u (Some x) (cond t None o) ≡ cond t None (cond u (Some x) o)
  swapped-none true true x o apart = absurd (apart refl refl)
  swapped-none true false x o apart = refl
  swapped-none false u x o apart = refl

  hidden-none : (t u : Bool) (x : A) (o : Option A) → t ≡ u → (t ≡ true → o ≡ None) → o ≡ cond t None (cond u (Some x) o)
  hidden-none true u x o e none = none refl
  hidden-none false true x o e none = cc
  hidden-none false false x o e none = refl

  abbrev nobody : Option A
  nobody = None

  nothing : (t : Bool) → cond t nobody nobody ≡ nobody
  nothing true = refl
  nothing false = refl

-- ---- what stands under a name

module _ {A : Type 0} (name_of : A → List ℕ) where
  pub none-named : (name : List ℕ) (xs : List A) → NoneNamed name_of name xs → named name_of name xs ≡ None
  none-named name [] h = refl
  none-named name (x ∷ xs) h = rw h.0 (none-named name xs h.1)

  pub named-none : (name : List ℕ) (xs : List A) → named name_of name xs ≡ None → NoneNamed name_of name xs
  named-none name [] e = tt
  named-none name (x ∷ xs) e = by (bytes_eq name (name_of x)) refl (named-none name xs) e
    where
      by : (t : Bool) → bytes_eq name (name_of x) ≡ t → (named name_of name xs ≡ None → NoneNamed name_of name xs)
          → cond t (Some x) (named name_of name xs) ≡ None → NoneNamed name_of name (x ∷ xs)
      by true h ih e = cc
      by false h ih e = (h, ih e)

  -- the thing found bears the name
  pub found-name : (name : List ℕ) (x : A) (xs : List A) → named name_of name xs ≡ Some x → name ≡ name_of x
  found-name name x [] e = cc
  found-name name x (y ∷ ys) e = by (bytes_eq name (name_of y)) refl (found-name name x ys) e
    where
      by : (t : Bool) → bytes_eq name (name_of y) ≡ t → (named name_of name ys ≡ Some x → name ≡ name_of x)
          → cond t (Some y) (named name_of name ys) ≡ Some x → name ≡ name_of x
      by true h ih e = let same : y ≡ x = cc in one_name name (name_of y) h ∙ ap name_of same
      by false h ih e = ih e

  pub named-put : (name : List ℕ) (new : A) (xs : List A)
      → named name_of name (put_in name_of new xs) ≡ cond (bytes_eq name (name_of new)) (Some new) (named name_of name xs)
  named-put name new [] = refl
  named-put name new (x ∷ xs) = by (bytes_eq (name_of new) (name_of x)) refl (named-put name new xs)
    where
      by : (b : Bool) → bytes_eq (name_of new) (name_of x) ≡ b
          → named name_of name (put_in name_of new xs) ≡ cond (bytes_eq name (name_of new)) (Some new) (named name_of name xs)
          → named name_of name (cond b (new ∷ xs) (x ∷ put_in name_of new xs))
          ≡ cond (bytes_eq name (name_of new)) (Some new) (named name_of name (x ∷ xs))
      by true e ih =
          hidden (bytes_eq name (name_of new)) (bytes_eq name (name_of x)) x new (named name_of name xs)
          (ap (bytes_eq name) (one_name (name_of new) (name_of x) e))
      by false e ih =
          rw ih (swapped (bytes_eq name (name_of new)) (bytes_eq name (name_of x)) x new (named name_of name xs)
          (not_two name (name_of new) (name_of x) e))

  pub named-take : (name gone : List ℕ) (xs : List A) → AreApart name_of xs
      → named name_of name (take_out name_of gone xs) ≡ cond (bytes_eq name gone) None (named name_of name xs)
  named-take name gone [] apart = sym (nothing (bytes_eq name gone))
  named-take name gone (x ∷ xs) apart = by (bytes_eq gone (name_of x)) refl (named-take name gone xs apart.1)
    where
      by : (b : Bool) → bytes_eq gone (name_of x) ≡ b
          → named name_of name (take_out name_of gone xs) ≡ cond (bytes_eq name gone) None (named name_of name xs)
          → named name_of name (cond b xs (x ∷ take_out name_of gone xs))
          ≡ cond (bytes_eq name gone) None (named name_of name (x ∷ xs))
      by true e ih =
          hidden-none (bytes_eq name gone) (bytes_eq name (name_of x)) x (named name_of name xs)
          (ap (bytes_eq name) (one_name gone (name_of x) e))
          (λ h. none-named name xs (subst (λ n. NoneNamed name_of n xs) (sym (one_name name gone h ∙ one_name gone (name_of x) e)) apart.0))
      by false e ih =
          rw ih (swapped-none (bytes_eq name gone) (bytes_eq name (name_of x)) x (named name_of name xs)
          (not_two name gone (name_of x) e))

  -- ---- names stay apart

  pub apart-put : (new : A) (xs : List A) → AreApart name_of xs → AreApart name_of (put_in name_of new xs)
  apart-put new [] apart = (tt, tt)
  apart-put new (x ∷ xs) apart = by (bytes_eq (name_of new) (name_of x)) refl (apart-put new xs apart.1)
    where
      by : (b : Bool) → bytes_eq (name_of new) (name_of x) ≡ b → AreApart name_of (put_in name_of new xs)
          → AreApart name_of (cond b (new ∷ xs) (x ∷ put_in name_of new xs))
      by true e ih =
          (subst (λ n. NoneNamed name_of n xs) (sym (one_name (name_of new) (name_of x) e)) apart.0, apart.1)
      by false e ih = (
        named-none (name_of x) (put_in name_of new xs)
            (named-put (name_of x) new xs ∙ rw (other_way (name_of new) (name_of x) false e) (none-named (name_of x) xs apart.0)),
        ih,
      )

  pub apart-take : (gone : List ℕ) (xs : List A) → AreApart name_of xs → AreApart name_of (take_out name_of gone xs)
  apart-take gone [] apart = tt
  apart-take gone (x ∷ xs) apart = by (bytes_eq gone (name_of x)) (apart-take gone xs apart.1)
    where
      by : (b : Bool) → AreApart name_of (take_out name_of gone xs)
          → AreApart name_of (cond b xs (x ∷ take_out name_of gone xs))
      by true ih = apart.1
      by false ih = (
        named-none (name_of x) (take_out name_of gone xs)
            (named-take (name_of x) gone xs apart.1 ∙ rw (none-named (name_of x) xs apart.0) (nothing (bytes_eq (name_of x) gone))),
        ih,
      )

  -- ---- other orders

  -- under each name the same
  abbrev pub Alike : List A → List A → Type 0
  Alike xs ys = (name : List ℕ) → named name_of name xs ≡ named name_of name ys

  pub shuffled-alike : (xs ys : List A) → Shuffled xs ys → AreApart name_of xs → AreApart name_of ys × Alike xs ys
  shuffled-alike _ _ (same xs) apart = (apart, λ name. refl)
  shuffled-alike _ _ (under x {xs} {ys} h) apart =
      let rest = shuffled-alike xs ys h apart.1 in (
        (named-none (name_of x) ys (sym (rest.1 (name_of x)) ∙ none-named (name_of x) xs apart.0), rest.0),
        λ name. ap (λ o. cond (bytes_eq name (name_of x)) (Some x) o) (rest.1 name),
      )
  shuffled-alike _ _ (exchange x y xs) apart = (
    ((other_way (name_of x) (name_of y) false apart.0.0, apart.1.0), (apart.0.1, apart.1.1)),
    λ name. swapped (bytes_eq name (name_of y)) (bytes_eq name (name_of x)) x y (named name_of name xs)
        (λ p q. not_two name (name_of x) (name_of y) apart.0.0 q p),
  )
  shuffled-alike _ _ (after {xs} {ys} {zs} h k) apart =
      let first = shuffled-alike xs ys h apart in
      let second = shuffled-alike ys zs k first.0 in
      (second.0, λ name. first.1 name ∙ second.1 name)

  -- what a name finds, before the others
  in_front : (name : List ℕ) (x : A) (xs : List A) → named name_of name xs ≡ Some x → Shuffled (x ∷ take_out name_of name xs) xs
  in_front name x [] e = cc
  in_front name x (y ∷ ys) e = by (bytes_eq name (name_of y)) (in_front name x ys) e
    where
      by : (b : Bool) → (named name_of name ys ≡ Some x → Shuffled (x ∷ take_out name_of name ys) ys)
          → cond b (Some y) (named name_of name ys) ≡ Some x
          → Shuffled (x ∷ cond b ys (y ∷ take_out name_of name ys)) (y ∷ ys)
      by true ih e = let is : x ≡ y = cc in rw is (same (y ∷ ys))
      by false ih e = after (exchange x y (take_out name_of name ys)) (under y (ih e))

  -- lists that have the same under each name are the same in some order
  pub alike-shuffled : (xs ys : List A) → AreApart name_of xs → AreApart name_of ys → Alike xs ys → Shuffled xs ys
  alike-shuffled [] [] apart others e = same []
  alike-shuffled [] (y ∷ ys) apart others e =
      let found : None ≡ Some y = e (name_of y) ∙ rw (own_name (name_of y)) refl in
      cc
  alike-shuffled (x ∷ xs) ys apart others e =
      let found : named name_of (name_of x) ys ≡ Some x = sym (e (name_of x)) ∙ rw (own_name (name_of x)) refl in
      after (under x (alike-shuffled xs (take_out name_of (name_of x) ys) apart.1 (apart-take (name_of x) ys others)
      (λ name. left name (bytes_eq name (name_of x)) refl (e name))))
      (in_front (name_of x) x ys found)
    where
      left : (name : List ℕ) (t : Bool) → bytes_eq name (name_of x) ≡ t
          → cond t (Some x) (named name_of name xs) ≡ named name_of name ys
          → named name_of name xs ≡ named name_of name (take_out name_of (name_of x) ys)
      left name true h e =
          none-named name xs (subst (λ n. NoneNamed name_of n xs) (sym (one_name name (name_of x) h)) apart.0)
          ∙ sym (named-take name (name_of x) ys others ∙ rw h refl)
      left name false h e = e ∙ sym (named-take name (name_of x) ys others ∙ rw h refl)

-- ---- what no order changes

module _ {A : Type 0} where
  pub turned : (xs ys : List A) → Shuffled xs ys → Shuffled ys xs
  turned _ _ (same xs) = same xs
  turned _ _ (under x {xs} {ys} h) = under x (turned xs ys h)
  turned _ _ (exchange x y xs) = exchange y x xs
  turned _ _ (after {xs} {ys} {zs} h k) = after (turned ys zs k) (turned xs ys h)

  pub shuffled-length : (xs ys : List A) → Shuffled xs ys → length xs ≡ length ys
  shuffled-length _ _ (same xs) = refl
  shuffled-length _ _ (under x {xs} {ys} h) = ap suc (shuffled-length xs ys h)
  shuffled-length _ _ (exchange x y xs) = refl
  shuffled-length _ _ (after {xs} {ys} {zs} h k) = shuffled-length xs ys h ∙ shuffled-length ys zs k

  pub shuffled-total : (f : A → ℕ) (xs ys : List A) → Shuffled xs ys → total f xs ≡ total f ys
  shuffled-total f _ _ (same xs) = refl
  shuffled-total f _ _ (under x {xs} {ys} h) = ap (λ n. f x + n) (shuffled-total f xs ys h)
  shuffled-total f _ _ (exchange x y xs) = omega arith
  shuffled-total f _ _ (after {xs} {ys} {zs} h k) = shuffled-total f xs ys h ∙ shuffled-total f ys zs k
