-- A receiver that an edit doesn't name stays as it is.
use Rattle.std.proofs.Common.{◌≡◌, ℕ, Bool, true, false, List, [], ◌∷◌, ◌++◌, Some, None, refl, sym, ap, ◌∙◌}
use Rattle.std.specs.Prelude.{bytes_eq, Option, Ok, ◌||◌}
use Rattle.std.specs.List.{list_any}
use Rattle.std.specs.Option.{option_or, option_to_list}
use Rattle.std.proofs.lemmas.List.Folds.{find-append}
use Rattle.scene_parts.specs.Parts.{Receiver}
use Rattle.scene_parts.specs.declared.parts.Part.{Part}
use Rattle.scene_parts.specs.declared.parts.Part.TheVariants as parts
use Rattle.scene_book.specs.Lists.{named}
use Rattle.scene_book.specs.Book.{Book}
use Rattle.scene_book.specs.Grid.{receivers_of}
use Rattle.scene_book.specs.Applying.{apply_of, replaced, part_named}
use Rattle.scene_book.specs.Laws.{Edited, PutsInTurn, Changes, pieces_of, pieces_of_any}
use Rattle.scene_book.specs.declared.edits.Edit.{Edit}
use Rattle.scene_book.specs.declared.edits.Edit.TheVariants as edits
use Rattle.scene_book.proofs.EditLemmas.{accepted-changes}
use Rattle.touch_test.specs.Touches.{is_receiver}
use Rattle.map_board.specs.Journal.{names}
use Rattle.map_board.proofs.Naming.{turned, named-is, same-name}

-- the receiver of a name
abbrev receiver_named : List ℕ → List Receiver → Option Receiver
receiver_named name rs = named (λ r. r.name) name rs

-- ---- lists with a piece changed

or-none : {A : Type 0} (a b : Option A) → a ≡ None → option_or a b ≡ b
or-none a b none = rw none

-- a name that is in neither piece of an edited list is found as before
found-beside : (name : List ℕ) (old new xs ys : List Receiver) → Edited old new xs ys
    → receiver_named name old ≡ None → receiver_named name new ≡ None → receiver_named name ys ≡ receiver_named name xs
found-beside name old new xs ys e none_old none_new =
    let at = λ (l : List Receiver). receiver_named name l in
    let parts_of = λ (piece : List Receiver) (none : at piece ≡ None).
    find-append (λ r. bytes_eq name r.name) e.before (piece ++ e.after)
    ∙ ap (option_or (at e.before)) (find-append (λ r. bytes_eq name r.name) piece e.after ∙ or-none (at piece) (at e.after) none) in
    ap at e.is ∙ (parts_of new none_new ∙ sym (ap at e.was ∙ parts_of old none_old))

one-other : (name : List ℕ) (r : Receiver) → bytes_eq r.name name ≡ false → receiver_named name (r ∷ []) ≡ None
one-other name r other = let away : bytes_eq name r.name ≡ false = turned r.name name other in rw away

or-left : (a b : Bool) → (a || b) ≡ false → a ≡ false
or-left false b h = refl
or-left true b h = h

or-right : (a b : Bool) → (a || b) ≡ false → b ≡ false
or-right false b h = h
or-right true b h = absurd (cc)

-- the pieces of parts that aren't the receiver of a name hold none of that name
piece-other : (name : List ℕ) (part : Part) → is_receiver name part ≡ false → receiver_named name (pieces_of part).receivers ≡ None
piece-other name (parts.Receiver r) h = one-other name r h
piece-other name part h = refl

any-other : (name : List ℕ) (part : Option Part) → list_any (is_receiver name) (option_to_list part) ≡ false
    → receiver_named name (pieces_of_any part).receivers ≡ None
any-other name None h = refl
any-other name (Some part) h = piece-other name part (or-left (is_receiver name part) false h)

-- ---- the receivers of a grid

replaced-other : (name : List ℕ) (new : Receiver) (xs : List Receiver) (old : Option Receiver) → receiver_named new.name xs ≡ old
    → bytes_eq new.name name ≡ false → receiver_named name (option_to_list old) ≡ None
replaced-other name new xs None found other = refl
replaced-other name new xs (Some r) found other =
    one-other name r (ap (λ n. bytes_eq n name) (sym (same-name new.name r.name (named-is (λ r. r.name) new.name xs r found))) ∙ other)

puts-beside : (name : List ℕ) (news xs ys : List Receiver) → PutsInTurn (λ r. r.name) news xs ys
    → list_any (λ r. bytes_eq r.name name) news ≡ false → receiver_named name ys ≡ receiver_named name xs
puts-beside name [] xs ys puts h = ap (receiver_named name) (sym puts)
puts-beside name (new ∷ news) xs ys puts h =
    let other = or-left (bytes_eq new.name name) (list_any (λ r. bytes_eq r.name name) news) h in
    let rest = or-right (bytes_eq new.name name) (list_any (λ r. bytes_eq r.name name) news) h in
    puts-beside name news puts.0 ys puts.2 rest
    ∙ found-beside name (option_to_list (receiver_named new.name xs)) (new ∷ []) xs puts.0 puts.1
    (replaced-other name new xs (receiver_named new.name xs) refl other) (one-other name new other)

-- ---- all edits

changed-beside : (name : List ℕ) (edit : Edit) (a b : Book) → Changes edit a b → names name edit a ≡ false
    → receiver_named name b.receivers ≡ receiver_named name a.receivers
changed-beside name (edits.Put part) a b ch h =
    let other = or-left (is_receiver name part) (list_any (is_receiver name) (option_to_list (replaced part a))) h in
    let old = or-right (is_receiver name part) (list_any (is_receiver name) (option_to_list (replaced part a))) h in
    found-beside name (pieces_of_any (replaced part a)).receivers (pieces_of part).receivers a.receivers b.receivers ch.lists.receivers
    (any-other name (replaced part a) old) (piece-other name part other)
changed-beside name (edits.Remove gone) a b ch h =
    found-beside name (pieces_of_any (part_named a gone)).receivers [] a.receivers b.receivers ch.lists.receivers
    (any-other name (part_named a gone) h) refl
changed-beside name (edits.Grid grid) a b ch h =
    puts-beside name (receivers_of grid) a.receivers b.receivers ch.1
    (or-left (list_any (λ r. bytes_eq r.name name) (receivers_of grid)) false h)
changed-beside name (edits.Set setting) a b ch h = ap (λ (book : Book). receiver_named name book.receivers) ch

-- the receiver of a name that an accepted edit doesn't name is the same in both scenes, or in neither
pub unnamed-stays : (name : List ℕ) (edit : Edit) (a b : Book) (old : Option Part) → apply_of edit a ≡ Ok (b, old) → names name edit a ≡ false
    → named (λ (r : Receiver). r.name) name b.receivers ≡ named (λ (r : Receiver). r.name) name a.receivers
unnamed-stays name edit a b old accepted h = changed-beside name edit a b (accepted-changes edit a b old accepted) h
