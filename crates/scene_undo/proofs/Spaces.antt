-- Scenes as maps: what a scene has under each name after a put and a removal, and that scenes which have the same under
-- each name have the same parts.
use Rattle.std.proofs.Common.{◌≡◌, ℕ, ◌≤◌, refl, sym, ap, subst, ◌∙◌, arith, Bool, true, false, cond, List, length, ◌++◌}
use Rattle.std.specs.Prelude.{bytes_eq, ◌==◌, Option, Some, None, option_map, Result, Ok, Err, if◌then◌else◌}
use Rattle.std.specs.Option.{option_or, option_to_list}
use Rattle.scene_parts.specs.Parts.{Source, Obstacle, Zone, Foliage, Receiver}
use Rattle.scene_parts.specs.declared.parts.Part.{Part}
use Rattle.scene_parts.specs.declared.parts.Part.TheVariants as parts
use Rattle.scene_parts.specs.declared.kinds.Shape.{Shape}
use Rattle.scene_parts.specs.declared.kinds.Shape.TheVariants as shapes
use Rattle.scene_parts.specs.declared.parts.Class.{Class}
use Rattle.scene_parts.specs.declared.parts.Class.TheVariants as classes
use Rattle.scene_book.specs.declared.edits.EditFault.{EditFault}
use Rattle.scene_book.specs.Lists.{named, AreApart}
use Rattle.scene_book.specs.Book.{Book, NamesAreApart, class_number, class_of_shape}
use Rattle.scene_book.specs.Applying.{class_of, same_class, own_class, part_named, name_of, with_part, without}
use Rattle.scene_book.specs.Orders.{Shuffled, SameParts}
use Rattle.scene_undo.specs.Scenes.{HasOneNameSpace}
use Rattle.scene_undo.proofs.Maps.{one_name, named-put, named-take, apart-put, apart-take, shuffled-alike, alike-shuffled}

-- ---- what the lists of a scene have under a name, each list of its own

abbrev pub Found : Type 0
Found = Option Source × Option Obstacle × Option Zone × Option Foliage × Option Receiver

abbrev pub found_in : Book → List ℕ → Found
found_in book name = (
  named (λ s. s.name) name book.sources,
  named (λ o. o.name) name book.obstacles,
  named (λ z. z.name) name book.zones,
  named (λ f. f.name) name book.foliage,
  named (λ r. r.name) name book.receivers,
)

-- the receiver among them
abbrev pub receiver_in : Found → Option Receiver
receiver_in lists = lists.4

-- the first of them
abbrev pub first : Found → Option Part
first lists =
    option_or (option_map parts.Source lists.0)
    (option_or (option_map parts.Obstacle lists.1)
    (option_or (option_map parts.Zone lists.2)
    (option_or (option_map parts.Foliage lists.3)
    (option_map parts.Receiver lists.4))))

-- a part in its own list alone
abbrev pub split : Option Part → Found
split None = (None, None, None, None, None)
split (Some (parts.Source s)) = (Some s, None, None, None, None)
split (Some (parts.Obstacle o)) = (None, Some o, None, None, None)
split (Some (parts.Zone z)) = (None, None, Some z, None, None)
split (Some (parts.Foliage f)) = (None, None, None, Some f, None)
split (Some (parts.Receiver r)) = (None, None, None, None, Some r)

first-split : (found : Option Part) → first (split found) ≡ found
first-split None = refl
first-split (Some (parts.Source s)) = refl
first-split (Some part) = refl

is-split : (lists : Found) (found : Option Part) → lists ≡ split found → lists ≡ split (first lists)
is-split lists found e = e ∙ sym (ap (λ (f : Found). split (first f)) e ∙ ap split (first-split found))

-- the part that bears a name stands in one list alone
abbrev pub One : Book → Type 0
One book = (name : List ℕ) → found_in book name ≡ split (part_named book name)

abbrev bearers_of : Found → List Part
bearers_of lists =
    option_to_list (option_map parts.Source lists.0)
    ++ option_to_list (option_map parts.Obstacle lists.1)
    ++ option_to_list (option_map parts.Zone lists.2)
    ++ option_to_list (option_map parts.Foliage lists.3)
    ++ option_to_list (option_map parts.Receiver lists.4)

alone : (lists : Found) → length (bearers_of lists) ≤ 1 → lists ≡ split (first lists)
alone (None, None, None, None, None) h = refl
alone (None, None, None, None, Some r) h = refl
alone (None, None, None, Some f, None) h = refl
alone (None, None, Some z, None, None) h = refl
alone (None, Some o, None, None, None) h = refl
alone (Some s, None, None, None, None) h = refl
alone lists h = absurd (omega (arith, h))

few : (found : Option Part) → length (bearers_of (split found)) ≤ 1
few None = omega arith
few (Some (parts.Source s)) = omega arith
few (Some part) = omega arith

pub one-from : (book : Book) → HasOneNameSpace book → One book
one-from book one name = alone (found_in book name) (one name)

pub one-to : (book : Book) → One book → HasOneNameSpace book
one-to book one name =
    subst (λ (lists : Found). length (bearers_of lists) ≤ 1) (sym (one name)) (few (part_named book name))

-- ---- parts of one class

-- no part, or one of the same class
abbrev pub Kin : Part → Option Part → Type 0
Kin part None = Unit {0}
Kin part (Some other) = same_class (class_of part) (class_of other) ≡ true

abbrev pub fine : Result (Unit {0}) EditFault
fine = Ok tt

-- a shape's class is no other part's
shape-other : (class : Class) (shape : Shape) → same_class class classes.Barrier ≡ false → same_class class classes.Building ≡ false
    → same_class class (class_of_shape shape) ≡ false
shape-other class shapes.Barrier e h = e
shape-other class shapes.Building e h = h

other-shape : (class : Class) (shape : Shape) → same_class classes.Barrier class ≡ false → same_class classes.Building class ≡ false
    → same_class (class_of_shape shape) class ≡ false
other-shape class shapes.Barrier e h = e
other-shape class shapes.Building e h = h

clash : {P : Type 0} (test : Bool) → test ≡ false → test ≡ true → P
clash true e h = cc
clash false e h = cc

passed : (test : Bool) (fault : EditFault) → (if test then fine else Err fault) ≡ fine → test ≡ true
passed true fault e = refl
passed false fault e = cc

pub kin-from : (name : List ℕ) (part : Part) (found : Option Part)
    → own_class name (class_of part) (option_map class_of found) ≡ fine → Kin part found
kin-from name part None e = tt
kin-from name part (Some other) e = passed (same_class (class_of part) (class_of other)) _ e

pub kin-owns : (name : List ℕ) (part : Part) (found : Option Part) → Kin part found
    → own_class name (class_of part) (option_map class_of found) ≡ fine
kin-owns name part None kin = refl
kin-owns name part (Some other) kin = rw kin refl

abbrev pub KinBack : Part → Option Part → Type 0
KinBack part None = Unit {0}
KinBack part (Some other) = Kin other (Some part)

equal-back : (n m : ℕ) → (n == m) ≡ true → (m == n) ≡ true
equal-back n m e = grind arith

pub kin-back : (part : Part) (found : Option Part) → Kin part found → KinBack part found
kin-back part None kin = tt
kin-back part (Some other) kin = equal-back (class_number (class_of part)) (class_number (class_of other)) kin

-- what the kin of a receiver is
abbrev pub ReceiverOrNone : Option Part → Type 0
ReceiverOrNone None = Unit {0}
ReceiverOrNone (Some found) = (q : Receiver) × (found ≡ parts.Receiver q)

pub receiver-kin : (r : Receiver) (found : Option Part) → Kin (parts.Receiver r) found → ReceiverOrNone found
receiver-kin r None kin = tt
receiver-kin r (Some (parts.Receiver q)) kin = (q, refl)
receiver-kin r (Some (parts.Obstacle o)) kin = clash _ (shape-other classes.Receiver o.shape refl refl) kin
receiver-kin r (Some other) kin = cc

-- ---- a put and a removal

-- what a list has left of what it had, where something of it may be gone
abbrev left_of : {A : Type 0} → Option A → Option A → Option A
left_of None old = old
left_of (Some gone) old = None

-- a part in the place of its class
abbrev with_slot : Part → Found → Found
with_slot part lists =
    let new = split (Some part) in
    (option_or new.0 lists.0, option_or new.1 lists.1, option_or new.2 lists.2, option_or new.3 lists.3, option_or new.4 lists.4)

abbrev without_slot : Part → Found → Found
without_slot part lists =
    let gone = split (Some part) in
    (left_of gone.0 lists.0, left_of gone.1 lists.1, left_of gone.2 lists.2, left_of gone.3 lists.3, left_of gone.4 lists.4)

free-slot : (part : Part) → with_slot part (split None) ≡ split (Some part)
free-slot (parts.Source s) = refl
free-slot part = refl

kin-slot : (part : Part) (found : Option Part) → Kin part found → with_slot part (split found) ≡ split (Some part)
kin-slot part None kin = free-slot part
kin-slot (parts.Obstacle o) (Some (parts.Obstacle q)) kin = refl
kin-slot (parts.Obstacle o) (Some other) kin = clash _ (other-shape (class_of other) o.shape refl refl) kin
kin-slot part (Some (parts.Obstacle o)) kin = clash _ (shape-other (class_of part) o.shape refl refl) kin
kin-slot (parts.Source s) (Some (parts.Source t)) kin = refl
kin-slot part (Some other) kin = search

left-slot : (part : Part) → without_slot part (split (Some part)) ≡ split None
left-slot (parts.Source s) = refl
left-slot part = refl

found-put : (part : Part) (a : Book) (name : List ℕ)
    → found_in (with_part part a) name ≡ cond (bytes_eq name (name_of part)) (with_slot part (found_in a name)) (found_in a name)
found-put part a name = by part (bytes_eq name (name_of part)) refl
  where
    by : (part : Part) (t : Bool) → bytes_eq name (name_of part) ≡ t
        → found_in (with_part part a) name ≡ cond t (with_slot part (found_in a name)) (found_in a name)
    by (parts.Source s) true e = simp (named-put, e)
    by (parts.Source s) false e = simp (named-put, e)
    by part true e = simp (named-put, e)
    by part false e = simp (named-put, e)

found-take : (gone : List ℕ) (part : Part) (a : Book) (name : List ℕ) → NamesAreApart a
    → found_in (without gone part a) name ≡ cond (bytes_eq name gone) (without_slot part (found_in a name)) (found_in a name)
found-take gone part a name apart = by part (bytes_eq name gone) refl
  where
    by : (part : Part) (t : Bool) → bytes_eq name gone ≡ t
        → found_in (without gone part a) name ≡ cond t (without_slot part (found_in a name)) (found_in a name)
    by (parts.Source s) true e = search (named-take, e)
    by (parts.Source s) false e = search (named-take, e)
    by part true e = search (named-take, e)
    by part false e = search (named-take, e)

-- what every scene keeps of its names
pub record IsMap (book : Book) : Type 0 where
  pub apart : NamesAreApart book
  pub one : One book

put-split : (part : Part) (a : Book) → One a → Kin part (part_named a (name_of part)) → (name : List ℕ)
    → found_in (with_part part a) name ≡ split (cond (bytes_eq name (name_of part)) (Some part) (part_named a name))
put-split part a one kin name = found-put part a name ∙ by (bytes_eq name (name_of part)) refl
  where
    by : (t : Bool) → bytes_eq name (name_of part) ≡ t
        → cond t (with_slot part (found_in a name)) (found_in a name) ≡ split (cond t (Some part) (part_named a name))
    by true e =
        let here : name ≡ name_of part = one_name name (name_of part) e in
        ap (with_slot part) (one name)
        ∙ kin-slot part (part_named a name) (subst (λ n. Kin part (part_named a n)) (sym here) kin)
    by false e = one name

take-split : (gone : List ℕ) (part : Part) (a : Book) → IsMap a → part_named a gone ≡ Some part → (name : List ℕ)
    → found_in (without gone part a) name ≡ split (cond (bytes_eq name gone) None (part_named a name))
take-split gone part a map is name = found-take gone part a name map.apart ∙ by (bytes_eq name gone) refl
  where
    by : (t : Bool) → bytes_eq name gone ≡ t
        → cond t (without_slot part (found_in a name)) (found_in a name) ≡ split (cond t None (part_named a name))
    by true e =
        ap (without_slot part) (map.one name ∙ ap (λ n. split (part_named a n)) (one_name name gone e) ∙ ap split is)
        ∙ left-slot part
    by false e = map.one name

-- a part put is found under its name, and under every other name what was there
pub put-found : (part : Part) (a : Book) → One a → Kin part (part_named a (name_of part)) → (name : List ℕ)
    → part_named (with_part part a) name ≡ cond (bytes_eq name (name_of part)) (Some part) (part_named a name)
put-found part a one kin name = ap first (put-split part a one kin name) ∙ first-split _

pub take-found : (gone : List ℕ) (part : Part) (a : Book) → IsMap a → part_named a gone ≡ Some part → (name : List ℕ)
    → part_named (without gone part a) name ≡ cond (bytes_eq name gone) None (part_named a name)
take-found gone part a map is name = ap first (take-split gone part a map is name) ∙ first-split _

pub put-apart : (part : Part) (a : Book) → NamesAreApart a → NamesAreApart (with_part part a)
put-apart (parts.Source s) a h = search apart-put
put-apart part a h = search apart-put

pub take-apart : (gone : List ℕ) (part : Part) (a : Book) → NamesAreApart a → NamesAreApart (without gone part a)
take-apart gone (parts.Source s) a h = search apart-take
take-apart gone part a h = search apart-take

pub put-map : (part : Part) (a : Book) → IsMap a → Kin part (part_named a (name_of part)) → IsMap (with_part part a)
put-map part a map kin = record {
  apart = put-apart part a map.apart;
  one = λ name. is-split _ _ (put-split part a map.one kin name);
}

pub take-map : (gone : List ℕ) (part : Part) (a : Book) → IsMap a → part_named a gone ≡ Some part → IsMap (without gone part a)
take-map gone part a map is = record {
  apart = take-apart gone part a map.apart;
  one = λ name. is-split _ _ (take-split gone part a map is name);
}

-- ---- scenes of the same parts

-- under each name the same
abbrev pub SameFound : Book → Book → Type 0
SameFound a b = (name : List ℕ) → part_named a name ≡ part_named b name

-- what stands apart in a list, and what it has under a name, in any order of it
apart-same : {A : Type 0} (name_of : A → List ℕ) (xs ys : List A) → Shuffled xs ys → AreApart name_of xs → AreApart name_of ys
apart-same name_of xs ys h apart = (shuffled-alike name_of xs ys h apart).0

pub named-same : {A : Type 0} (name_of : A → List ℕ) (name : List ℕ) (xs ys : List A) → Shuffled xs ys → AreApart name_of xs
    → named name_of name xs ≡ named name_of name ys
named-same name_of name xs ys h apart = (shuffled-alike name_of xs ys h apart).1 name

all-same : {A B C D E : Type 0} {a a' : A} {b b' : B} {c c' : C} {d d' : D} {e e' : E} → a ≡ a' → b ≡ b' → c ≡ c' → d ≡ d' → e ≡ e'
    → ◌≡◌ {A = A × B × C × D × E} (a, b, c, d, e) (a', b', c', d', e')
all-same p q r s t = λ i. (p i, q i, r i, s i, t i)

pub same-found : (a b : Book) → SameParts a b → NamesAreApart a
    → NamesAreApart b × ((name : List ℕ) → found_in a name ≡ found_in b name)
same-found a b h apart =
    (search apart-same, λ name. all-same (search named-same) (search named-same) (search named-same) (search named-same) (search named-same))

pub same-map : (a b : Book) → SameParts a b → IsMap a → IsMap b × SameFound a b
same-map a b h map =
    let found = same-found a b h map.apart in (
      record { apart = found.0; one = λ name. is-split _ _ (sym (found.1 name) ∙ map.one name) },
      λ name. ap first (found.1 name),
    )

pub found-same : (a b : Book) → IsMap a → IsMap b → SameFound a b → b.globals ≡ a.globals → SameParts a b
found-same a b map other found globals =
    search (alike-shuffled, both (λ f. f.0), both (λ f. f.1), both (λ f. f.2), both (λ f. f.3), both (λ f. f.4), globals)
  where
    both : {A : Type 0} (list : Found → A) (name : List ℕ) → list (found_in a name) ≡ list (found_in b name)
    both list name = ap list (map.one name ∙ ap split (found name) ∙ sym (other.one name))
