-- The receivers of scenes after accepted edits: their names are apart, and they are few.
use Rattle.std.proofs.Common.{◌≡◌, ℕ, ◌*◌, ◌≤◌, Bool, true, false, cond, List, [], ◌∷◌, length, Some, None, refl, sym, ap, subst, arith}
use Rattle.std.specs.Prelude.{bytes_eq, Option, Result, Ok, Err, All, nat_lt}
use Rattle.std.proofs.lemmas.Bool.{ltb-false}
use Rattle.std.proofs.lemmas.List.Elements.{All-nil, All-cons, All-head, All-tail}
use Rattle.scene_parts.specs.Answers.{◌>>◌}
use Rattle.scene_parts.specs.Parts.{Receiver, globals_with}
use Rattle.scene_parts.specs.declared.parts.Part.{Part}
use Rattle.scene_parts.specs.declared.parts.Part.TheVariants as parts
use Rattle.scene_parts.specs.declared.parts.Class.TheVariants as classes
use Rattle.scene_book.specs.Book.{Book, at_most, most_receivers}
use Rattle.scene_book.specs.Grid.{receivers_of}
use Rattle.scene_book.specs.Lists.{named, put_in, take_out, put_all, NoneNamed, AreApart}
use Rattle.scene_book.specs.Applying.{apply_of, put_of, put_where_room, remove_of, grid_of, taken, part_named, in_limits, with_part, without, own_class, name_of, class_of, holder, all_own, replaced, with_receivers}
use Rattle.scene_book.specs.declared.edits.Edit.{Edit}
use Rattle.scene_book.specs.declared.edits.Edit.TheVariants as edits
use Rattle.scene_book.specs.declared.edits.EditFault.{EditFault}
use Rattle.scene_book.specs.declared.edits.EditFault.TheVariants.{Full}
use Rattle.map_board.proofs.Naming.{turned, itself, same-name}

-- ---- lists of named things

module _ {A : Type 0} (name_of_thing : A → List ℕ) where
  none-put : (name : List ℕ) (new : A) (xs : List A) → bytes_eq name (name_of_thing new) ≡ false → NoneNamed name_of_thing name xs
      → NoneNamed name_of_thing name (put_in name_of_thing new xs)
  none-put name new [] other none = (other, tt)
  none-put name new (x ∷ xs) other none =
      go (bytes_eq (name_of_thing new) (name_of_thing x)) (none-put name new xs other none.1) where
        go : (test : Bool) → NoneNamed name_of_thing name (put_in name_of_thing new xs)
            → NoneNamed name_of_thing name (cond test (new ∷ xs) (x ∷ put_in name_of_thing new xs))
        go true rest = (other, none.1)
        go false rest = (none.0, rest)

  pub put-apart : (new : A) (xs : List A) → AreApart name_of_thing xs → AreApart name_of_thing (put_in name_of_thing new xs)
  put-apart new [] apart = (tt, tt)
  put-apart new (x ∷ xs) apart = go (bytes_eq (name_of_thing new) (name_of_thing x)) refl (put-apart new xs apart.1) where
    go : (test : Bool) → bytes_eq (name_of_thing new) (name_of_thing x) ≡ test
        → AreApart name_of_thing (put_in name_of_thing new xs) → AreApart name_of_thing (cond test (new ∷ xs) (x ∷ put_in name_of_thing new xs))
    go true e rest = (subst (λ n. NoneNamed name_of_thing n xs) (sym (same-name (name_of_thing new) (name_of_thing x) e)) apart.0, apart.1)
    go false e rest = (none-put (name_of_thing x) new xs (turned (name_of_thing new) (name_of_thing x) e) apart.0, rest)

  pub all-apart : (news xs : List A) → AreApart name_of_thing xs → AreApart name_of_thing (put_all name_of_thing news xs)
  all-apart [] xs apart = apart
  all-apart (new ∷ news) xs apart = all-apart news (put_in name_of_thing new xs) (put-apart new xs apart)

  none-taken : (name gone : List ℕ) (xs : List A) → NoneNamed name_of_thing name xs → NoneNamed name_of_thing name (take_out name_of_thing gone xs)
  none-taken name gone [] none = tt
  none-taken name gone (x ∷ xs) none = go (bytes_eq gone (name_of_thing x)) (none-taken name gone xs none.1) where
    go : (test : Bool) → NoneNamed name_of_thing name (take_out name_of_thing gone xs)
        → NoneNamed name_of_thing name (cond test xs (x ∷ take_out name_of_thing gone xs))
    go true rest = none.1
    go false rest = (none.0, rest)

  pub taken-apart : (gone : List ℕ) (xs : List A) → AreApart name_of_thing xs → AreApart name_of_thing (take_out name_of_thing gone xs)
  taken-apart gone [] apart = tt
  taken-apart gone (x ∷ xs) apart = go (bytes_eq gone (name_of_thing x)) (taken-apart gone xs apart.1) where
    go : (test : Bool) → AreApart name_of_thing (take_out name_of_thing gone xs)
        → AreApart name_of_thing (cond test xs (x ∷ take_out name_of_thing gone xs))
    go true rest = apart.1
    go false rest = (none-taken (name_of_thing x) gone xs apart.0, rest)

  pub taken-length : (gone : List ℕ) (xs : List A) → length (take_out name_of_thing gone xs) ≤ length xs
  taken-length gone [] = omega arith
  taken-length gone (x ∷ xs) = go (bytes_eq gone (name_of_thing x)) (taken-length gone xs) where
    go : (test : Bool) → length (take_out name_of_thing gone xs) ≤ length xs
        → length (cond test xs (x ∷ take_out name_of_thing gone xs)) ≤ length (x ∷ xs)
    go true rest = omega arith
    go false rest = omega (arith, rest)

  -- each of them is found under its name
  found-behind : (x : A) (rest whole : List A) → NoneNamed name_of_thing (name_of_thing x) rest
      → All (λ y. named name_of_thing (name_of_thing y) whole ≡ Some y) rest
      → All (λ y. named name_of_thing (name_of_thing y) (x ∷ whole) ≡ Some y) rest
  found-behind x [] whole none all = All-nil (λ y. named name_of_thing (name_of_thing y) (x ∷ whole) ≡ Some y)
  found-behind x (y ∷ rest) whole none all =
      All-cons (λ z. named name_of_thing (name_of_thing z) (x ∷ whole) ≡ Some z) y rest
      (let away : bytes_eq (name_of_thing y) (name_of_thing x) ≡ false = turned (name_of_thing x) (name_of_thing y) none.0 in
      rw away (All-head (λ z. named name_of_thing (name_of_thing z) whole ≡ Some z) y rest all))
      (found-behind x rest whole none.1 (All-tail (λ z. named name_of_thing (name_of_thing z) whole ≡ Some z) y rest all))

  pub each-found : (xs : List A) → AreApart name_of_thing xs → All (λ x. named name_of_thing (name_of_thing x) xs ≡ Some x) xs
  each-found [] apart = All-nil (λ x. named name_of_thing (name_of_thing x) [] ≡ Some x)
  each-found (x ∷ xs) apart =
      All-cons (λ y. named name_of_thing (name_of_thing y) (x ∷ xs) ≡ Some y) x xs
      (let here : bytes_eq (name_of_thing x) (name_of_thing x) ≡ true = itself (name_of_thing x) in rw here refl)
      (found-behind x xs xs apart.0 (each-found xs apart.1))

-- ---- scenes

-- names are apart, and there are few
pub record AreFine (rs : List Receiver) : Type 0 where
  pub apart : AreApart (λ r. r.name) rs
  pub few : length rs ≤ most_receivers

pub none-fine : AreFine []
none-fine = record { apart = tt; few = omega arith }

abbrev Answer : Type 0
Answer = Result (Book × Option Part) EditFault

pub through : (r : Result (Unit {0}) EditFault) (rest : Answer) (y : Book × Option Part) → (r >> rest) ≡ Ok y → (r ≡ Ok tt) × (rest ≡ Ok y)
through (Ok tt) rest y e = (refl, e)
through (Err fault) rest y e = cc

pub first : (x y : Book × Option Part) (r : Answer) → r ≡ Ok x → r ≡ Ok y → x.0 ≡ y.0
first x y r e f = let same : x ≡ y = cc in ap (λ (p : Book × Option Part). p.0) same

abbrev Test : Type 0
Test = Result (Unit {0}) EditFault

abbrev full : ℕ → Test
full limit = Err (Full classes.Receiver limit)

abbrev fine : Test
fine = Ok tt

apart-tests : (limit : ℕ) → full limit ≡ fine → ⊥
apart-tests limit h = cc

within-by : (limit count : ℕ) (test : Bool) → nat_lt limit count ≡ test → cond test (full limit) fine ≡ fine → count ≤ limit
within-by limit count true t h = absurd (apart-tests limit h)
within-by limit count false t h = ltb-false limit count t

within : (limit count : ℕ) → at_most classes.Receiver limit count ≡ Ok tt → count ≤ limit
within limit count e = within-by limit count (nat_lt limit count) refl e

-- an accepted edit leaves the receivers of this scene
left : (a b : Book) (old kept : Option Part) (r : Answer) → r ≡ Ok (a, kept) → r ≡ Ok (b, old) → AreFine a.receivers → AreFine b.receivers
left a b old kept r e f fine = subst (λ (book : Book). AreFine book.receivers) (first (a, kept) (b, old) r e f) fine

-- an accepted put of a part leaves the scene with it
pub with-put : (part : Part) (a b : Book) (old : Option Part) → apply_of (edits.Put part) a ≡ Ok (b, old) → (in_limits part (with_part part a) ≡ Ok tt) × (with_part part a ≡ b)
unfolding apply_of put_of put_where_room
with-put part a b old e =
    let own = through (own_class (name_of part) (class_of part) (holder a (name_of part))) (put_where_room part a) (b, old) e in
    let room = through (in_limits part (with_part part a)) (Ok (with_part part a, replaced part a)) (b, old) own.1 in
    (room.0, first (with_part part a, replaced part a) (b, old) _ refl room.1)

-- an accepted removal of a name leaves the scene without the part that bears it, which is the old part
pub without-removed : (name : List ℕ) (a b : Book) (old : Option Part) → apply_of (edits.Remove name) a ≡ Ok (b, old)
    → (part : Part) × (old ≡ Some part) × (without name part a ≡ b)
unfolding apply_of remove_of
without-removed name a b old e = go (part_named a name) e where
  go : (found : Option Part) → taken name found a ≡ Ok (b, old) → (part : Part) × (old ≡ Some part) × (without name part a ≡ b)
  go None e = absurd (cc e)
  go (Some part) e =
      let same : (without name part a, Some part) ≡ (b, old) = cc e in
      (part, ap (λ (p : Book × Option Part). p.1) (sym same), ap (λ (p : Book × Option Part). p.0) same)

put-fine : (part : Part) (a : Book) → in_limits part (with_part part a) ≡ Ok tt → AreFine a.receivers → AreFine (with_part part a).receivers
put-fine (parts.Receiver r) a room fine = record {
  apart = put-apart (λ (x : Receiver). x.name) r a.receivers fine.apart;
  few = within most_receivers (length (put_in (λ (x : Receiver). x.name) r a.receivers)) room;
}
put-fine part a room fine = fine

removed-fine : (name : List ℕ) (part : Part) (a : Book) → AreFine a.receivers → AreFine (without name part a).receivers
removed-fine name (parts.Receiver r) a fine = record {
  apart = taken-apart (λ (x : Receiver). x.name) name a.receivers fine.apart;
  few = omega (arith, fine.few, taken-length (λ (x : Receiver). x.name) name a.receivers);
}
removed-fine name part a fine = fine

-- the receivers of a scene after an accepted edit are fine where those before it were
pub accepted-fine : (edit : Edit) (a b : Book) (old : Option Part) → apply_of edit a ≡ Ok (b, old) → AreFine a.receivers → AreFine b.receivers
unfolding apply_of grid_of
accepted-fine (edits.Put part) a b old e fine =
    let put = with-put part a b old e in subst (λ (book : Book). AreFine book.receivers) put.1 (put-fine part a put.0 fine)
accepted-fine (edits.Remove name) a b old e fine =
    let removed = without-removed name a b old e in subst (λ (book : Book). AreFine book.receivers) removed.2 (removed-fine name removed.0 a fine)
accepted-fine (edits.Grid grid) a b old e fine =
    let news = put_all (λ (x : Receiver). x.name) (receivers_of grid) a.receivers in
    let s = through (at_most classes.Receiver most_receivers (grid.columns * grid.rows)) _ (b, old) e in
    let t = through (all_own a (receivers_of grid)) _ (b, old) s.1 in
    let u = through (at_most classes.Receiver most_receivers (length news)) (Ok (with_receivers a news, None)) (b, old) t.1 in
    left (with_receivers a news) b old None _ refl u.1 (record {
      apart = all-apart (λ (x : Receiver). x.name) (receivers_of grid) a.receivers fine.apart;
      few = within most_receivers (length news) u.0;
    })
accepted-fine (edits.Set setting) a b old e fine = left (record a { globals = globals_with setting a.globals }) b old None _ refl e fine
