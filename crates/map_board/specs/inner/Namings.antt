-- The edits of a journal that name receivers.
use Rattle.std.specs.Prelude.{ℕ, suc, List, [], ◌∷◌, ◌++◌, Option, Some, None}
use Rattle.std.specs.Option.{option_and_then}
use Rattle.scene_parts.specs.declared.parts.Part.{Part}
use Rattle.scene_parts.specs.declared.parts.Part.TheVariants as parts
use Rattle.scene_book.specs.Book.{Book, empty_book}
use Rattle.scene_book.specs.declared.edits.Edit.{Edit}
use Rattle.scene_book.specs.declared.edits.Edit.TheVariants as edits
use Rattle.touch_test.specs.Touches.{old_part}
use Rattle.map_board.specs.declared.edits.namings.NamedReceivers.{NamedReceivers}
use Rattle.map_board.specs.declared.edits.namings.NamedReceivers.TheVariants as receivers
use Rattle.map_board.specs.declared.edits.namings.Naming.{Naming}
use Rattle.map_board.specs.Journal.{book_after}

-- a part names a receiver where it is one
abbrev pub named_part : Part → Option NamedReceivers
named_part (parts.Receiver r) = Some (receivers.One r.name)
named_part part = None

-- the receivers that an edit with its old part puts or removes: one that it puts takes the place of one of its own name
abbrev pub naming_of : Edit → Option Part → Option NamedReceivers
naming_of (edits.Put part) old = named_part part
naming_of (edits.Remove name) old = option_and_then named_part old
naming_of (edits.Grid grid) old = Some (receivers.Grid grid)
naming_of (edits.Set setting) old = None

-- an entry of a version, where it names receivers
abbrev pub noted : ℕ → Option NamedReceivers → List Naming
noted version None = []
noted version (Some receivers) = record { version = version; receivers = receivers } ∷ []

-- those of edits in a row that name receivers, each with its version, where so many edits came before
abbrev pub namings_from : ℕ → Book → List Edit → List Naming
namings_from count book [] = []
namings_from count book (edit ∷ edits) =
    noted (suc count) (naming_of edit (old_part edit book))
    ++ namings_from (suc count) (book_after edit book) edits

-- those of a journal
abbrev pub namings_of : List Edit → List Naming
namings_of journal = namings_from 0 empty_book journal
