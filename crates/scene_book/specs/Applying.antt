-- What an edit makes of a scene.
use Rattle.std.specs.Prelude.{ℕ, ◌*◌, List, [], ◌∷◌, length, ◌==◌, Bool, true, false, Option, Some, None, option_map, Result, Ok, Err, if◌then◌else◌}
use Rattle.scene_parts.specs.Parts.{Receiver, Grid, Setting, globals_with}
use Rattle.scene_parts.specs.declared.parts.Part.{Part}
use Rattle.scene_parts.specs.declared.parts.Class.{Class}
use Rattle.scene_parts.specs.declared.parts.Class.TheVariants as classes
use Rattle.scene_book.specs.declared.edits.Edit.{Edit}
use Rattle.scene_book.specs.declared.edits.Edit.TheVariants as edits
use Rattle.scene_book.specs.declared.edits.EditFault.{EditFault}
use Rattle.scene_book.specs.declared.edits.EditFault.TheVariants.{NoMemory, NoSuchName, OtherClass}
use Rattle.scene_parts.specs.Answers.{◌>>=◌, ◌>>◌, MatchesUnlessMemory}
use Rattle.scene_book.specs.Book.{most_receivers, Book, class_number, at_most, by_slot, first_of_slots}
use Rattle.scene_book.specs.Lists.{named, put_in, take_out, put_all}
use Rattle.scene_book.specs.Grid.{receivers_of}

abbrev pub class_of : Part → Class
class_of = by_slot (λ A slot part. slot.class_of part)

-- the part that bears a name
abbrev pub part_named : Book → List ℕ → Option Part
part_named book name =
    first_of_slots (λ A slot. option_map slot.part_of (named slot.name_of name (slot.list_of book)))

abbrev pub name_of : Part → List ℕ
name_of = by_slot (λ A slot part. slot.name_of part)

abbrev pub same_class : Class → Class → Bool
same_class a b = class_number a == class_number b

-- the fault that there was no memory
abbrev pub lacks_memory : EditFault → Bool
lacks_memory NoMemory = true
lacks_memory fault = false

-- the scene as it is left, beside the old part that an edit answers
abbrev pub beside : {A : Type 0} → Book → Result A EditFault → Result (Book × A) EditFault
beside after (Ok old) = Ok (after, old)
beside after (Err fault) = Err fault

-- a call leaves this scene and answers as expected, unless there was no memory
abbrev pub Leaves : {A : Type 0} → Book → Result A EditFault → Result (Book × A) EditFault → Type 0
Leaves after result expected = MatchesUnlessMemory lacks_memory (beside after result) expected

-- OtherClass: the name is borne by a part of another class
abbrev pub own_class : List ℕ → Class → Option Class → Result (Unit {0}) EditFault
own_class name class None = Ok tt
own_class name class (Some holder) = if same_class class holder then Ok tt else Err (OtherClass name holder)

abbrev pub holder : Book → List ℕ → Option Class
holder book name = option_map class_of (part_named book name)

-- Full: more in a list than its class may have
abbrev pub room_in : {A : Type 0} → Class → ℕ → List A → Result (Unit {0}) EditFault
room_in class most things = at_most class most (length things)

-- a part put into its list
abbrev pub with_part : Part → Book → Book
with_part part book = by_slot (λ A slot new. slot.with_list (put_in slot.name_of new (slot.list_of book)) book) part

-- the limits of a part's class
abbrev pub in_limits : Part → Book → Result (Unit {0}) EditFault
in_limits part book = by_slot (λ A slot new. slot.room book) part

-- the part of a part's own list that it replaces
abbrev pub replaced : Part → Book → Option Part
replaced part book =
    by_slot (λ A slot new. option_map slot.part_of (named slot.name_of (slot.name_of new) (slot.list_of book))) part

-- a part put where its class has room, and the one that it replaces
unfoldable pub put_where_room : Part → Book → Result (Book × Option Part) EditFault
put_where_room part book = in_limits part (with_part part book) >> Ok (with_part part book, replaced part book)

unfoldable pub put_of : Part → Book → Result (Book × Option Part) EditFault
put_of part book =
    own_class (name_of part) (class_of part) (holder book (name_of part)) >> put_where_room part book

-- a part's list without the part of a name
abbrev pub without : List ℕ → Part → Book → Book
without name part book =
    by_slot (λ A slot old. slot.with_list (take_out slot.name_of name (slot.list_of book)) book) part

-- the scene without the part of a name, where there is one
abbrev pub without_any : List ℕ → Option Part → Book → Book
without_any name None book = book
without_any name (Some part) book = without name part book

abbrev pub taken : List ℕ → Option Part → Book → Result (Book × Option Part) EditFault
taken name None book = Err (NoSuchName name)
taken name (Some part) book = Ok (without name part book, Some part)

unfoldable pub remove_of : List ℕ → Book → Result (Book × Option Part) EditFault
remove_of name book = taken name (part_named book name) book

-- no name of these receivers is borne by a part of another class
abbrev pub all_own : Book → List Receiver → Result (Unit {0}) EditFault
all_own book [] = Ok tt
all_own book (receiver ∷ receivers) =
    own_class receiver.name classes.Receiver (holder book receiver.name) >> all_own book receivers

abbrev pub with_receivers : Book → List Receiver → Book
with_receivers book receivers = record book { receivers = receivers }

-- these receivers put one after another, or Full
unfoldable pub put_receivers : List Receiver → Book → Result (Book × Unit {0}) EditFault
put_receivers news book =
    at_most classes.Receiver most_receivers (length (put_all (λ r. r.name) news book.receivers))
    >> Ok (with_receivers book (put_all (λ r. r.name) news book.receivers), tt)

-- the receivers of a grid put one after another. A grid of more receivers than a scene holds is Full, whatever the
-- scene has
unfoldable pub grid_of : Grid → Book → Result (Book × Option Part) EditFault
grid_of grid book =
    at_most classes.Receiver most_receivers (grid.columns * grid.rows)
    >> (all_own book (receivers_of grid)
    >> (at_most classes.Receiver most_receivers (length (put_all (λ r. r.name) (receivers_of grid) book.receivers))
    >> Ok (with_receivers book (put_all (λ r. r.name) (receivers_of grid) book.receivers), None)))

abbrev pub set_of : Setting → Book → Result (Book × Option Part) EditFault
set_of setting book = Ok (record book { globals = globals_with setting book.globals }, None)

-- the scene after an edit and the old part, or the first fault
unfoldable pub apply_of : Edit → Book → Result (Book × Option Part) EditFault
apply_of (edits.Put part) book = put_of part book
apply_of (edits.Remove name) book = remove_of name book
apply_of (edits.Grid grid) book = grid_of grid book
apply_of (edits.Set setting) book = set_of setting book

-- the scene after edits one after the other, or the first fault
abbrev pub applied : List Edit → Book → Result Book EditFault
applied [] book = Ok book
applied (edit ∷ rest) book = apply_of edit book >>= λ after. applied rest after.0
