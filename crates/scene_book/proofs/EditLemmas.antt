-- Edits of lists and of scenes.
use Rattle.std.proofs.Common.{◌≡◌, ℕ, refl, sym, ◌∙◌, ap, subst, Bool, true, false, cond, List, length, ◌*◌, [], ◌∷◌, ◌++◌, append-nil, ◌||◌}
use Rattle.std.specs.Prelude.{bytes_eq, Option, Some, None, option_map, Result, Ok, Err, flat_map, filter}
use Rattle.std.specs.List.{list_any}
use Rattle.std.specs.Option.{option_to_list}
use Rattle.std.proofs.lemmas.Grind.{flat_map-append}
use Rattle.std.proofs.lemmas.List.Elements.{filter-append}
use Rattle.std.proofs.lemmas.List.Folds.{list_any-append}
use Rattle.scene_parts.specs.Answers.{◌>>◌}
use Rattle.scene_parts.specs.Parts.{Receiver, Grid}
use Rattle.scene_parts.specs.declared.parts.Part.{Part}
use Rattle.scene_parts.specs.declared.parts.Class.TheVariants as classes
use Rattle.scene_book.specs.declared.edits.Edit.TheVariants as edits
use Rattle.scene_book.specs.declared.edits.EditFault.{EditFault}
use Rattle.scene_book.specs.Book.{most_receivers, Book, Slot, OfEachSlot, at_most}
use Rattle.scene_book.specs.Lists.{named, put_in, take_out, put_all}
use Rattle.scene_book.specs.Grid.{receivers_of}
use Rattle.scene_book.specs.Applying.{apply_of, all_own, own_class, name_of, class_of, holder, in_limits, part_named, put_of, put_where_room, remove_of, grid_of, taken, with_part, without, replaced, with_receivers}
use Rattle.scene_book.specs.Laws.{Edited, FlatMapStays, FilterStays, AnyStays, PutsInTurn, no_pieces, pieces_of, pieces_of_any, ListsEdited, Changes, AcceptedChanges}
use Rattle.scene_book.proofs.SlotLemmas.{each_to, of_part, of_named}

module _ {A : Type 0} where
  -- an edit behind a thing that stays
  later : (x : A) (old new xs ys : List A) → Edited old new xs ys → Edited old new (x ∷ xs) (x ∷ ys)
  later x old new xs ys e = record {
    before = x ∷ e.before;
    after = e.after;
    was = ap (λ (l : List A). x ∷ l) e.was;
    is = ap (λ (l : List A). x ∷ l) e.is;
  }

  -- nothing changed
  pub same : (xs : List A) → Edited [] [] xs xs
  same xs = record { before = xs; after = []; was = sym (append-nil xs); is = sym (append-nil xs) }

  module _ (name_of : A → List ℕ) where
    put-step : (b : Bool) (new x : A) (xs : List A)
        → Edited (option_to_list (named name_of (name_of new) xs)) (new ∷ []) xs (put_in name_of new xs)
        → Edited (option_to_list (cond b (Some x) (named name_of (name_of new) xs))) (new ∷ []) (x ∷ xs)
        (cond b (new ∷ xs) (x ∷ put_in name_of new xs))
    put-step true new x xs e = record { before = []; after = xs; was = refl; is = refl }
    put-step false new x xs e = later x (option_to_list (named name_of (name_of new) xs)) (new ∷ []) xs (put_in name_of new xs) e

    pub put-edited : (new : A) (xs : List A)
        → Edited (option_to_list (named name_of (name_of new) xs)) (new ∷ []) xs (put_in name_of new xs)
    put-edited new [] = record { before = []; after = []; was = refl; is = refl }
    put-edited new (x ∷ xs) = put-step (bytes_eq (name_of new) (name_of x)) new x xs (put-edited new xs)

    take-step : (b : Bool) (name : List ℕ) (x : A) (xs : List A)
        → Edited (option_to_list (named name_of name xs)) [] xs (take_out name_of name xs)
        → Edited (option_to_list (cond b (Some x) (named name_of name xs))) [] (x ∷ xs)
        (cond b xs (x ∷ take_out name_of name xs))
    take-step true name x xs e = record { before = []; after = xs; was = refl; is = refl }
    take-step false name x xs e = later x (option_to_list (named name_of name xs)) [] xs (take_out name_of name xs) e

    pub take-edited : (name : List ℕ) (xs : List A)
        → Edited (option_to_list (named name_of name xs)) [] xs (take_out name_of name xs)
    take-edited name [] = record { before = []; after = []; was = refl; is = refl }
    take-edited name (x ∷ xs) = take-step (bytes_eq name (name_of x)) name x xs (take-edited name xs)

    pub puts-in_turn : (news xs : List A) → PutsInTurn name_of news xs (put_all name_of news xs)
    puts-in_turn [] xs = refl
    puts-in_turn (new ∷ news) xs =
        (put_in name_of new xs, put-edited new xs, puts-in_turn news (put_in name_of new xs))

module _ {A B : Type 0} (of : List A → B) (join : B → B → B) (none : B)
    (appends : (xs ys : List A) → of (xs ++ ys) ≡ join (of xs) (of ys)) (nothing : (x : B) → join none x ≡ x) where
  -- what is made of a list with a piece of which nothing is made
  around : (before piece after : List A) → of piece ≡ none
      → of (before ++ (piece ++ after)) ≡ join (of before) (of after)
  around before piece after gone =
      appends before (piece ++ after)
      ∙ ap (join (of before)) (appends piece after ∙ ap (λ x. join x (of after)) gone ∙ nothing (of after))

  -- where nothing is made of either piece, the same is made of both lists
  stays : (old new xs ys : List A) → Edited old new xs ys → of old ≡ none → of new ≡ none → of xs ≡ of ys
  stays old new xs ys e no_old no_new =
      ap of e.was
      ∙ around e.before old e.after no_old
      ∙ sym (around e.before new e.after no_new)
      ∙ sym (ap of e.is)

pub flat-stays : {A B : Type 0} → FlatMapStays A B
flat-stays f = stays (flat_map f) (λ x y. x ++ y) [] (flat_map-append f) (λ x. refl)

pub filter-stays : {A : Type 0} → FilterStays A
filter-stays test = stays (filter test) (λ x y. x ++ y) [] (filter-append test) (λ x. refl)

pub any-stays : {A : Type 0} → AnyStays A
any-stays test = stays (list_any test) (λ x y. x || y) false (list_any-append test) (λ x. refl)

-- what an accepted edit leaves is what its last step says
abbrev accepted : Book × Option Part → Result (Book × Option Part) EditFault
accepted x = Ok x

result-first : (x y : Book × Option Part) → accepted x ≡ Ok y → x.0 ≡ y.0
result-first x y e = let same : x ≡ y = cc in ap (λ (p : Book × Option Part). p.0) same

answer : (r : Result (Unit {0}) EditFault) (x y : Book × Option Part) → (r >> Ok x) ≡ Ok y → x.0 ≡ y.0
answer (Ok done) x y e = result-first x y e
answer (Err fault) x y e = cc

answer-later : (r s : Result (Unit {0}) EditFault) (x y : Book × Option Part) → (r >> (s >> Ok x)) ≡ Ok y → x.0 ≡ y.0
answer-later (Ok done) s x y e = answer s x y e
answer-later (Err fault) s x y e = cc

answer-last : (q r s : Result (Unit {0}) EditFault) (x y : Book × Option Part) → (q >> (r >> (s >> Ok x))) ≡ Ok y → x.0 ≡ y.0
answer-last (Ok done) r s x y e = answer-later r s x y e
answer-last (Err fault) r s x y e = cc

abbrev own_receiver : Receiver → List ℕ
own_receiver r = r.name

-- what is so of each slot: it changes its list alone, and this is what it says of its parts
pub record IsSlot (A : Type 0) (slot : Slot A) : Type 0 where
  pub edited : (a : Book) (old new after : List A) → Edited old new (slot.list_of a) after
      → ListsEdited (slot.with_list old no_pieces) (slot.with_list new no_pieces) a (slot.with_list after a)
  pub no_piece : slot.with_list [] no_pieces ≡ no_pieces
  pub piece : (x : A) → slot.with_list (x ∷ []) no_pieces ≡ pieces_of (slot.part_of x)
  pub put : (x : A) (a : Book)
      → with_part (slot.part_of x) a ≡ slot.with_list (put_in slot.name_of x (slot.list_of a)) a
  pub replaced : (x : A) (a : Book)
      → replaced (slot.part_of x) a ≡ option_map slot.part_of (named slot.name_of (slot.name_of x) (slot.list_of a))
  pub without : (name : List ℕ) (x : A) (a : Book)
      → without name (slot.part_of x) a ≡ slot.with_list (take_out slot.name_of name (slot.list_of a)) a

pub slots : OfEachSlot IsSlot
slots = search same

-- the piece of a part that may be there
pieces : (A : Type 0) (slot : Slot A) → IsSlot A slot → (found : Option A)
    → slot.with_list (option_to_list found) no_pieces ≡ pieces_of_any (option_map slot.part_of found)
pieces A slot is None = is.no_piece
pieces A slot is (Some x) = is.piece x

-- what a put changes
abbrev Puts : Part → Type 0
Puts part = (a : Book) → ListsEdited (pieces_of_any (replaced part a)) (pieces_of part) a (with_part part a)

put-in_slot : (A : Type 0) (slot : Slot A) → IsSlot A slot → (x : A) → Puts (slot.part_of x)
put-in_slot A slot is x a =
    let old = named slot.name_of (slot.name_of x) (slot.list_of a) in
    rw (is.replaced x a, is.put x a, ← is.piece x, ← pieces A slot is old)
    (is.edited a _ (x ∷ []) _ (put-edited slot.name_of x (slot.list_of a)))

put-lists : (part : Part) → Puts part
put-lists = of_part Puts (each_to put-in_slot slots)

-- what a removal changes where this is the part of the name
abbrev Removes : List ℕ → Book → Book → Option Part → Option Part → Type 0
Removes name a b old found = taken name found a ≡ Ok (b, old) → ListsEdited (pieces_of_any found) no_pieces a b

taken-in_slot : (name : List ℕ) (a b : Book) (old : Option Part) (A : Type 0) (slot : Slot A) → IsSlot A slot
    → (x : A) → named slot.name_of name (slot.list_of a) ≡ Some x → Removes name a b old (Some (slot.part_of x))
taken-in_slot name a b old A slot is x e h =
    rw (← result-first _ (b, old) h, is.without name x a)
    (rw (is.piece x, is.no_piece) at
    (is.edited a (x ∷ []) [] _ (rw e at (take-edited slot.name_of name (slot.list_of a)))))

take-lists : (name : List ℕ) (a b : Book) (old : Option Part) → Removes name a b old (part_named a name)
take-lists name a b old =
    of_named (Removes name a b old) a name (each_to (taken-in_slot name a b old) slots) (λ h. cc)

grid-changes : (grid : Grid) (a b : Book) (old : Option Part) → grid_of grid a ≡ Ok (b, old) → Changes (edits.Grid grid) a b
unfolding grid_of
grid-changes grid a b old h =
    subst (Changes (edits.Grid grid) a) (answer-last (at_most classes.Receiver most_receivers (grid.columns * grid.rows)) (all_own a (receivers_of grid))
    (at_most classes.Receiver most_receivers (length (put_all own_receiver (receivers_of grid) a.receivers)))
    (with_receivers a (put_all own_receiver (receivers_of grid) a.receivers), None) (b, old) h)
    (refl, puts-in_turn own_receiver (receivers_of grid) a.receivers)

pub accepted-changes : AcceptedChanges
unfolding apply_of put_of put_where_room remove_of
accepted-changes (edits.Put part) a b old h =
    subst (ListsEdited (pieces_of_any (replaced part a)) (pieces_of part) a)
    (answer-later (own_class (name_of part) (class_of part) (holder a (name_of part))) (in_limits part (with_part part a))
    (with_part part a, replaced part a) (b, old) h) (put-lists part a)
accepted-changes (edits.Remove name) a b old h = take-lists name a b old h
accepted-changes (edits.Grid grid) a b old h = grid-changes grid a b old h
accepted-changes (edits.Set setting) a b old h = sym (result-first _ (b, old) h)
