-- Names that are apart: in lists after puts and removals, and of the sources of every scene that edits make.
use Rattle.std.proofs.Common.{◌≡◌, ℕ, ◌*◌, length, Bool, true, false, cond, List, [], ◌∷◌, map, Some, refl, sym, ap, ◌∙◌, subst}
use Rattle.std.specs.Prelude.{bytes_eq, Option, Result, Ok, Err, filter, is_some}
use Rattle.scene_parts.specs.Answers.{◌>>◌}
use Rattle.scene_parts.specs.Parts.{Source, Receiver}
use Rattle.scene_parts.specs.declared.parts.Part.{Part}
use Rattle.scene_parts.specs.declared.parts.Part.TheVariants as parts
use Rattle.scene_parts.specs.declared.parts.Class.TheVariants as classes
use Rattle.scene_book.specs.Lists.{named, put_in, take_out, put_all, NoneNamed, AreApart}
use Rattle.scene_book.specs.Book.{Book, empty_book, at_most, most_receivers}
use Rattle.scene_book.specs.Grid.{receivers_of}
use Rattle.scene_book.specs.Applying.{apply_of, grid_of, with_part, without, all_own}
use Rattle.scene_book.specs.declared.edits.Edit.{Edit}
use Rattle.scene_book.specs.declared.edits.Edit.TheVariants as edits
use Rattle.scene_book.specs.declared.edits.EditFault.{EditFault}
use Rattle.path_calc.specs.Bundles.{Bundle, bundle_of}
use Rattle.path_calc.specs.Lengths.{is_within}
use Rattle.path_calc.specs.Show.{sources_within, bundles_of}
use Rattle.touch_test.proofs.Lists.{In, here, there}
use Rattle.map_board.specs.Journal.{scene_left, book_after, book_after_all, newest_scene}
use Rattle.map_board.proofs.Naming.{turned, same-name, itself}
use Rattle.map_board.proofs.Receivers.{with-put, without-removed}

module _ {A : Type 0} (name_of : A → List ℕ) where
  none-put : (name : List ℕ) (new : A) (xs : List A) → bytes_eq name (name_of new) ≡ false → NoneNamed name_of name xs → NoneNamed name_of name (put_in name_of new xs)
  none-put name new [] other none = (other, tt)
  none-put name new (x ∷ xs) other none = go (bytes_eq (name_of new) (name_of x)) (none-put name new xs other none.1) where
    go : (test : Bool) → NoneNamed name_of name (put_in name_of new xs) → NoneNamed name_of name (cond test (new ∷ xs) (x ∷ put_in name_of new xs))
    go true later = (other, none.1)
    go false later = (none.0, later)

  pub put-apart : (new : A) (xs : List A) → AreApart name_of xs → AreApart name_of (put_in name_of new xs)
  put-apart new [] apart = (tt, tt)
  put-apart new (x ∷ xs) apart = go (bytes_eq (name_of new) (name_of x)) refl (put-apart new xs apart.1) where
    go : (test : Bool) → bytes_eq (name_of new) (name_of x) ≡ test → AreApart name_of (put_in name_of new xs) → AreApart name_of (cond test (new ∷ xs) (x ∷ put_in name_of new xs))
    go true e later = (subst (λ (n : List ℕ). NoneNamed name_of n xs) (sym (same-name (name_of new) (name_of x) e)) apart.0, apart.1)
    go false e later = (none-put (name_of x) new xs (turned (name_of new) (name_of x) e) apart.0, later)

  none-take : (name gone : List ℕ) (xs : List A) → NoneNamed name_of name xs → NoneNamed name_of name (take_out name_of gone xs)
  none-take name gone [] none = none
  none-take name gone (x ∷ xs) none = go (bytes_eq gone (name_of x)) (none-take name gone xs none.1) where
    go : (test : Bool) → NoneNamed name_of name (take_out name_of gone xs) → NoneNamed name_of name (cond test xs (x ∷ take_out name_of gone xs))
    go true later = none.1
    go false later = (none.0, later)

  pub take-apart : (gone : List ℕ) (xs : List A) → AreApart name_of xs → AreApart name_of (take_out name_of gone xs)
  take-apart gone [] apart = apart
  take-apart gone (x ∷ xs) apart = go (bytes_eq gone (name_of x)) (take-apart gone xs apart.1) where
    go : (test : Bool) → AreApart name_of (take_out name_of gone xs) → AreApart name_of (cond test xs (x ∷ take_out name_of gone xs))
    go true later = apart.1
    go false later = (none-take (name_of x) gone xs apart.0, later)

  none-filter : (name : List ℕ) (p : A → Bool) (xs : List A) → NoneNamed name_of name xs → NoneNamed name_of name (filter p xs)
  none-filter name p [] none = none
  none-filter name p (x ∷ xs) none = go (p x) (none-filter name p xs none.1) where
    go : (test : Bool) → NoneNamed name_of name (filter p xs) → NoneNamed name_of name (cond test (x ∷ filter p xs) (filter p xs))
    go true later = (none.0, later)
    go false later = later

  pub filter-apart : (p : A → Bool) (xs : List A) → AreApart name_of xs → AreApart name_of (filter p xs)
  filter-apart p [] apart = apart
  filter-apart p (x ∷ xs) apart = go (p x) (filter-apart p xs apart.1) where
    go : (test : Bool) → AreApart name_of (filter p xs) → AreApart name_of (cond test (x ∷ filter p xs) (filter p xs))
    go true later = (none-filter (name_of x) p xs apart.0, later)
    go false later = later

  none-in : (name : List ℕ) (x : A) (xs : List A) → NoneNamed name_of name xs → In x xs → bytes_eq name (name_of x) ≡ false
  none-in name x _ none (here xs) = none.0
  none-in name x _ none (there y xs i) = none-in name x xs none.1 i

  -- a thing of the list is found by its name
  pub named-in : (x : A) (xs : List A) → AreApart name_of xs → In x xs → named name_of (name_of x) xs ≡ Some x
  named-in x _ apart (here xs) = rw (itself (name_of x))
  named-in x _ apart (there y xs i) =
      rw (turned (name_of y) (name_of x) (none-in (name_of y) x xs apart.0 i)) (named-in x xs apart.1 i)

  pub some-named : (x : A) (xs : List A) → In x xs → is_some (named name_of (name_of x) xs) ≡ true
  some-named x _ (here xs) = rw (itself (name_of x))
  some-named x _ (there y xs i) = go (bytes_eq (name_of x) (name_of y)) (some-named x xs i) where
    go : (test : Bool) → is_some (named name_of (name_of x) xs) ≡ true → is_some (cond test (Some y) (named name_of (name_of x) xs)) ≡ true
    go true later = refl
    go false later = later

  -- what is found by a name is of the list
  pub found-named : (name : List ℕ) (xs : List A) (x : A) → named name_of name xs ≡ Some x → In x xs
  found-named name [] x found = absurd (cc found)
  found-named name (y ∷ xs) x found = go (bytes_eq name (name_of y)) (found-named name xs x) found where
    go : (test : Bool) → (named name_of name xs ≡ Some x → In x xs) → cond test (Some y) (named name_of name xs) ≡ Some x → In x (y ∷ xs)
    go true later h = let is : y ≡ x = cc h in subst (λ (z : A). In x (z ∷ xs)) (sym is) (here xs)
    go false later h = there y xs (later h)

  -- two things of one name are one
  pub same-thing : (x y : A) (xs : List A) → AreApart name_of xs → In x xs → In y xs → name_of x ≡ name_of y → x ≡ y
  same-thing x y xs apart i j same =
      let one = named-in x xs apart i in
      let other = named-in y xs apart j in
      let both : Some x ≡ Some y = sym one ∙ (ap (λ n. named name_of n xs) same ∙ other) in
      cc both

module _ {A B : Type 0} (name_a : A → List ℕ) (name_b : B → List ℕ) (f : A → B) (same : (a : A) → name_b (f a) ≡ name_a a) where
  none-map : (name : List ℕ) (xs : List A) → NoneNamed name_a name xs → NoneNamed name_b name (map f xs)
  none-map name [] none = none
  none-map name (x ∷ xs) none = (ap (bytes_eq name) (same x) ∙ none.0, none-map name xs none.1)

  -- what bears the names of things that are apart
  pub map-apart : (xs : List A) → AreApart name_a xs → AreApart name_b (map f xs)
  map-apart [] apart = apart
  map-apart (x ∷ xs) apart =
      (subst (λ (n : List ℕ). NoneNamed name_b n (map f xs)) (sym (same x)) (none-map (name_a x) xs apart.0), map-apart xs apart.1)

-- ---- the sources of scenes

abbrev pub SourcesAreApart : Book → Type 0
SourcesAreApart book = AreApart (λ (s : Source). s.name) book.sources

abbrev Outcome : Type 0
Outcome = Result (Book × Option Part) EditFault

-- what an accepted edit leaves is what its last step leaves
after-step : (r : Result (Unit {0}) EditFault) (rest : Outcome) (y : Book × Option Part) → (r >> rest) ≡ Ok y → rest ≡ Ok y
after-step (Ok done) rest y e = e
after-step (Err fault) rest y e = cc

last : (x y : Book × Option Part) (r : Outcome) → r ≡ Ok x → r ≡ Ok y → x.0 ≡ y.0
last x y r e f = let same : x ≡ y = cc in ap (λ (p : Book × Option Part). p.0) same

with-part : (part : Part) (a : Book) → SourcesAreApart a → SourcesAreApart (with_part part a)
with-part (parts.Source source) a apart = put-apart (λ s. s.name) source a.sources apart
with-part part a apart = apart

without-part : (name : List ℕ) (part : Part) (a : Book) → SourcesAreApart a → SourcesAreApart (without name part a)
without-part name (parts.Source source) a apart = take-apart (λ s. s.name) name a.sources apart
without-part name part a apart = apart

pub accepted-apart : (edit : Edit) (a b : Book) (old : Option Part) → apply_of edit a ≡ Ok (b, old) → SourcesAreApart a → SourcesAreApart b
unfolding apply_of grid_of
accepted-apart (edits.Put part) a b old e apart =
    let put = with-put part a b old e in subst SourcesAreApart put.1 (with-part part a apart)
accepted-apart (edits.Remove name) a b old e apart =
    let removed = without-removed name a b old e in subst SourcesAreApart removed.2 (without-part name removed.0 a apart)
accepted-apart (edits.Grid grid) a b old e apart =
    subst SourcesAreApart (last _ (b, old) _ refl (after-step (at_most classes.Receiver most_receivers (length (put_all (λ r. r.name) (receivers_of grid) a.receivers))) _ (b, old)
    (after-step (all_own a (receivers_of grid)) _ (b, old)
    (after-step (at_most classes.Receiver most_receivers (grid.columns * grid.rows)) _ (b, old) e)))) apart
accepted-apart (edits.Set setting) a b old e apart = subst SourcesAreApart (last _ (b, old) _ refl e) apart

after-apart : (edit : Edit) (a : Book) → SourcesAreApart a → SourcesAreApart (book_after edit a)
after-apart edit a apart = go (apply_of edit a) refl where
  go : (o : Outcome) → apply_of edit a ≡ o → SourcesAreApart (scene_left a o)
  go (Ok after) e = accepted-apart edit a after.0 after.1 e apart
  go (Err fault) e = apart

all-apart : (es : List Edit) (a : Book) → SourcesAreApart a → SourcesAreApart (book_after_all es a)
all-apart [] a apart = apart
all-apart (e ∷ es) a apart = all-apart es (book_after e a) (after-apart e a apart)

-- in every scene that edits make, no two sources bear one name
pub newest-apart : (journal : List Edit) → SourcesAreApart (newest_scene journal)
newest-apart journal = all-apart journal empty_book tt

pub within-apart : (book : Book) (r : Receiver) → SourcesAreApart book → AreApart (λ s. s.name) (sources_within book r)
within-apart book r apart = filter-apart (λ s. s.name) (λ s. is_within book.globals.reach s.at r.at) book.sources apart

pub bundles-apart : (book : Book) (r : Receiver) → SourcesAreApart book → AreApart (λ b. b.source) (bundles_of book r)
bundles-apart book r apart =
    map-apart (λ (s : Source). s.name) (λ (b : Bundle). b.source) (λ s. bundle_of book s r) (λ s. refl) (sources_within book r) (within-apart book r apart)
