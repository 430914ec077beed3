-- What an edit changes in the lists of a scene, and what stays.
use Rattle.std.specs.Prelude.{◌≡◌, Bool, false, List, [], ◌∷◌, ◌++◌, Option, Some, None, Ok, flat_map, filter, ℕ}
use Rattle.std.specs.List.{list_any}
use Rattle.std.specs.Option.{option_to_list}
use Rattle.scene_parts.specs.Parts.{globals_with}
use Rattle.scene_parts.specs.declared.parts.Part.{Part}
use Rattle.scene_book.specs.declared.edits.Edit.{Edit}
use Rattle.scene_book.specs.declared.edits.Edit.TheVariants as edits
use Rattle.scene_book.specs.Lists.{named, put_in, take_out}
use Rattle.scene_book.specs.Book.{Book, OfEachSlot, by_slot, empty_book}
use Rattle.scene_book.specs.Grid.{receivers_of}
use Rattle.scene_book.specs.Applying.{apply_of, replaced, part_named, with_receivers}

-- one list is the other with a new piece in the place of an old one
pub record Edited {A : Type 0} (old new xs ys : List A) : Type 0 where
  pub before : List A
  pub after : List A
  pub was : xs ≡ before ++ (old ++ after)
  pub is : ys ≡ before ++ (new ++ after)

-- a put has the thing of its name as its old piece, where there is one, and the new thing as its new piece
abbrev pub PutIsEdit : Type 0 → Type 0
PutIsEdit A = (name_of : A → List ℕ) (new : A) (xs : List A)
    → Edited (option_to_list (named name_of (name_of new) xs)) (new ∷ []) xs (put_in name_of new xs)

-- and so has a removal, without a new piece
abbrev pub RemovalIsEdit : Type 0 → Type 0
RemovalIsEdit A = (name_of : A → List ℕ) (name : List ℕ) (xs : List A)
    → Edited (option_to_list (named name_of name xs)) [] xs (take_out name_of name xs)

-- where nothing is made of either piece, the same is made of both lists
abbrev pub FlatMapStays : Type 0 → Type 0 → Type 0
FlatMapStays A B = (f : A → List B) (old new xs ys : List A) → Edited old new xs ys
    → flat_map f old ≡ [] → flat_map f new ≡ [] → flat_map f xs ≡ flat_map f ys

-- where nothing in either piece passes, the same passes of both lists
abbrev pub FilterStays : Type 0 → Type 0
FilterStays A = (test : A → Bool) (old new xs ys : List A) → Edited old new xs ys
    → filter test old ≡ [] → filter test new ≡ [] → filter test xs ≡ filter test ys

abbrev pub AnyStays : Type 0 → Type 0
AnyStays A = (test : A → Bool) (old new xs ys : List A) → Edited old new xs ys
    → list_any test old ≡ false → list_any test new ≡ false → list_any test xs ≡ list_any test ys

-- things put one after another: each put is an edit of the list that the earlier ones left
abbrev pub PutsInTurn : {A : Type 0} → (A → List ℕ) → List A → List A → List A → Type 0
PutsInTurn name_of [] xs ys = xs ≡ ys
PutsInTurn {A} name_of (new ∷ news) xs ys =
    (zs : List A) × Edited (option_to_list (named name_of (name_of new) xs)) (new ∷ []) xs zs
    × PutsInTurn name_of news zs ys

-- pieces of the lists of a scene: a scene that has no more than them. No pieces, and a part in the list of its class
abbrev pub no_pieces : Book
no_pieces = empty_book

abbrev pub pieces_of : Part → Book
pieces_of part = by_slot (λ A slot piece. slot.with_list (piece ∷ []) no_pieces) part

abbrev pub pieces_of_any : Option Part → Book
pieces_of_any None = no_pieces
pieces_of_any (Some part) = pieces_of part

-- the lists of one scene are those of the other with new pieces in the places of old ones, and the globals are the same
pub record ListsEdited (old new a b : Book) : Type 0 where
  pub lists : OfEachSlot (λ A slot. Edited (slot.list_of old) (slot.list_of new) (slot.list_of a) (slot.list_of b))
  pub globals : b.globals ≡ a.globals

-- what each kind of edit changes: a put the part that it replaces, a removal the part of its name, a grid the receivers
-- one after another, a setting the globals
abbrev pub Changes : Edit → Book → Book → Type 0
Changes (edits.Put part) a b = ListsEdited (pieces_of_any (replaced part a)) (pieces_of part) a b
Changes (edits.Remove name) a b = ListsEdited (pieces_of_any (part_named a name)) no_pieces a b
Changes (edits.Grid grid) a b =
    (b ≡ with_receivers a b.receivers) × PutsInTurn (λ r. r.name) (receivers_of grid) a.receivers b.receivers
Changes (edits.Set setting) a b = b ≡ record a { globals = globals_with setting a.globals }

-- an accepted edit changes the scene so
abbrev pub AcceptedChanges : Type 0
AcceptedChanges = (edit : Edit) (a b : Book) (old : Option Part) → apply_of edit a ≡ Ok (b, old) → Changes edit a b
