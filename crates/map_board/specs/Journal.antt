-- A journal: the accepted edits, the oldest first. Version k is the scene after the first k of them.
use Rattle.std.specs.Prelude.{◌≡◌, ℕ, suc, Bool, List, [], ◌∷◌, take, drop, Option, Some, None, Result, Ok, Err, if◌then◌else◌}
use Rattle.scene_parts.specs.declared.parts.Part.{Part}
use Rattle.scene_parts.specs.Parts.{Receiver}
use Rattle.scene_book.specs.Book.{Book, empty_book}
use Rattle.scene_book.specs.Applying.{apply_of}
use Rattle.scene_book.specs.declared.edits.Edit.{Edit}
use Rattle.scene_book.specs.declared.edits.EditFault.{EditFault}
use Rattle.touch_test.specs.Touches.{old_part, names_receiver, touches_receiver}

-- the scene that an answer to an edit leaves of one: a refusal leaves it as it is
abbrev pub scene_left : Book → Result (Book × Option Part) EditFault → Book
scene_left book (Ok after) = after.0
scene_left book (Err fault) = book

-- the scene after an edit
abbrev pub book_after : Edit → Book → Book
book_after edit book = scene_left book (apply_of edit book)

-- the scene after edits in a row
abbrev pub book_after_all : List Edit → Book → Book
book_after_all [] book = book
book_after_all (edit ∷ edits) book = book_after_all edits (book_after edit book)

-- the scene of a version. Version 0 is the scene without parts
abbrev pub scene_at : List Edit → ℕ → Book
scene_at journal version = book_after_all (take version journal) empty_book

-- the newest scene
abbrev pub newest_scene : List Edit → Book
newest_scene journal = book_after_all journal empty_book

-- edits in a row, each accepted by the scene that the earlier ones left, whose old part is the one that it gives
abbrev pub AreAccepted : Book → List Edit → Type 0
AreAccepted book [] = Unit {0}
AreAccepted book (edit ∷ edits) =
    (apply_of edit book ≡ Ok (book_after edit book, old_part edit book)) × AreAccepted (book_after edit book) edits

-- the number of the first edit that passes a test of the edit and the scene before it, where so many edits came before
abbrev pub first_from : (Edit → Book → Bool) → ℕ → Book → List Edit → Option ℕ
first_from test count book [] = None
first_from test count book (edit ∷ edits) =
    if test edit book then Some (suc count) else first_from test (suc count) (book_after edit book) edits

-- that of the first edit after a version
abbrev pub first_after : (Edit → Book → Bool) → List Edit → ℕ → Option ℕ
first_after test journal version = first_from test version (scene_at journal version) (drop version journal)

-- an edit puts or removes the receiver of a name, alone or by a grid
abbrev pub names : List ℕ → Edit → Book → Bool
names name edit book = names_receiver name edit (old_part edit book)

-- an edit touches a receiver
abbrev pub touches : Receiver → Edit → Book → Bool
touches r edit book = touches_receiver edit book r

-- the first edit after a version that names a receiver, and the first that touches it
abbrev pub first_naming : List Edit → ℕ → List ℕ → Option ℕ
first_naming journal version name = first_after (names name) journal version

abbrev pub first_touching : List Edit → ℕ → Receiver → Option ℕ
first_touching journal version r = first_after (touches r) journal version
