-- What the editor of a run has done: its own entries in the history, line by line.
use Rattle.std.specs.Prelude.{◌≡◌, ℕ, suc, true, false, ◌⊎◌, List, [], ◌∷◌, ◌++◌, length, take, slice_get, All, flat_map, Option, IsSomeAnd, Ok, Err}
use Rattle.scene_parts.specs.declared.memory.NoMemory.{NoMemory}
use Rattle.scene_book.specs.Applying.{apply_of}
use Rattle.scene_book.specs.declared.edits.Edit.{Edit}
use Rattle.scene_book.specs.declared.edits.EditFault.TheVariants.{NoMemory as WantInEdit}
use Rattle.turn_lock.specs.History.{IsRun, entry, entries_of}
use Rattle.map_board.specs.declared.calls.BoardCall.TheVariants as calls
use Rattle.map_board.specs.declared.calls.BoardReply.{BoardReply}
use Rattle.map_board.specs.declared.calls.BoardReply.TheVariants as replies
use Rattle.map_board.specs.declared.looks.LookAll.{LookAll}
use Rattle.map_board.specs.Journal.{newest_scene}
use Rattle.map_board.specs.Rows.{State, start}
use Rattle.map_board.specs.Machine.{Step, numbered, look_of}
use Rattle.map_board.specs.Seats.{Entries, May, editor}
use Rattle.map_board.specs.Showing.{IsLookAt, IsSettled, settled_rows}
use Rattle.map_lock.specs.Seats.{BoardEntry}
use Rattle.map_lock.specs.Settling.{is_settling, is_look, IsQuiet}
use Rattle.noise_map.specs.Effects.{Display, silent, refused, settled, known, contoured, Effect, journal_with, journal_with_all, effect_at, point_after, journal_of}

-- ---- looks

abbrev pub look_in : BoardReply → List LookAll
look_in (replies.Looked (Ok look)) = look ∷ []
look_in reply = []

-- the looks that were answered, in their order
abbrev pub looks_in : Entries → List LookAll
looks_in entries = flat_map (λ e. look_in e.reply) entries

abbrev pub look_entry : LookAll → BoardEntry
look_entry look = entry editor calls.Look (replies.Looked (Ok look))

-- The look stands in the history behind these entries of the editor and before all others of it; what stands in front
-- led to a state that the look shows.
pub record Stands (history own : Entries) (look : LookAll) : Type 0 where
  pub front : Entries
  pub back : Entries
  pub whole : history ≡ front ++ look_entry look ∷ back
  pub behind : entries_of editor front ≡ own
  pub state : State
  pub run : IsRun start Step May front state
  pub shown : look ≡ look_of state

-- ---- lines that were done

-- A settle: takes, offers and looks that lacked memory, then the look that answered. It stands where no row is needy or
-- out, and shows each receiver with exactly the levels of the whole scene of its version.
pub record Settles (history own : Entries) (journal : List Edit) (added : Entries) : Type 0 where
  pub work : Entries
  pub look : LookAll
  pub is : added ≡ work ++ look_entry look ∷ []
  pub kinds : All (λ e. is_settling e.call ≡ true) work
  pub quiet : All IsQuiet work
  pub stands : Stands history (own ++ work) look
  pub settled : IsSettled stands.state
  pub version : look.version ≡ length journal
  pub rows : look.rows ≡ settled_rows (newest_scene journal)

-- A look: one entry. It shows each receiver right at its version.
pub record Shows (history own : Entries) (journal : List Edit) (added : Entries) : Type 0 where
  pub look : LookAll
  pub is : added ≡ look_entry look ∷ []
  pub stands : Stands history own look
  pub right : IsLookAt journal look

-- the entry of an edit behind these accepted ones, with the answer that the scene gives
abbrev pub edit_entry : List Edit → Edit → BoardEntry
edit_entry journal edit =
    entry editor (calls.Edit edit)
    (replies.Edited (numbered (suc (length journal)) (apply_of edit (newest_scene journal))))

-- those of edits one after the other
abbrev pub edit_entries : List Edit → List Edit → Entries
edit_entries journal [] = []
edit_entries journal (edit ∷ more) = edit_entry journal edit ∷ edit_entries (journal_with journal edit) more

-- The editor's entries for what is shown of a line, behind its own entries and behind these accepted edits.
abbrev pub DoesLook : Entries → Entries → List Edit → Display → Entries → Type 0
DoesLook history own journal silent added = added ≡ []
DoesLook history own journal (refused fault) added = added ≡ []
DoesLook history own journal settled added = Settles history own journal added
DoesLook history own journal known added = Shows history own journal added
DoesLook history own journal (contoured contour) added = Settles history own journal added

-- The editor's entries for a line, behind its own entries and behind these accepted edits: one for each edit, with the
-- answer that the scene gives, and then those for what is shown.
pub record HasEffect (history own : Entries) (journal : List Edit) (effect : Effect) (added : Entries) : Type 0 where
  pub looked : Entries
  pub is : added ≡ edit_entries journal effect.edits ++ looked
  pub looks :
      DoesLook history (own ++ edit_entries journal effect.edits) (journal_with_all journal effect.edits) effect.display
      looked

-- The editor's way through its own entries: those of each line behind those of the lines before it, and no others.
pub data EditorRun (history : Entries) : List (List ℕ) → Entries → Type 0 where
  begun : EditorRun history [] []
  and_line : (done : List (List ℕ)) (line : List ℕ) (own added : Entries) → EditorRun history done own
      → HasEffect history own (journal_of done) (effect_at (point_after done) line) added
      → EditorRun history (done ++ line ∷ []) (own ++ added)

-- ---- a line that lacked memory

-- an entry of which no look was answered
abbrev pub IsNoLook : BoardEntry → Type 0
IsNoLook e = (is_settling e.call ≡ true) × (is_look e.reply ≡ false)

-- an edit, and a look, for which there was no memory
abbrev pub lacking_edit : Edit → BoardEntry
lacking_edit edit = entry editor (calls.Edit edit) (replies.Edited (Err WantInEdit))

abbrev pub lacking_look : NoMemory → BoardEntry
lacking_look want = entry editor calls.Look (replies.Looked (Err want))

-- A settle may have taken, offered, given back and looked; no look was answered.
abbrev pub LacksLook : Display → Entries → Type 0
LacksLook silent rest = ⊥
LacksLook (refused fault) rest = ⊥
LacksLook settled rest = All IsNoLook rest
LacksLook known rest = (want : NoMemory) × (rest ≡ lacking_look want ∷ [])
LacksLook (contoured contour) rest = All IsNoLook rest

-- What broke a line off, behind some of its edits: there was no memory before anything more was done, for the next
-- edit, or for the look.
abbrev pub BreaksOff : Display → Option Edit → Entries → Type 0
BreaksOff display next rest =
    (rest ≡ []) ⊎ (IsSomeAnd next (λ edit. rest ≡ lacking_edit edit ∷ []) ⊎ LacksLook display rest)

-- The editor's entries for a line that was not done for want of memory: those of some first edits of its list, and what
-- broke it off.
pub record LastLineFailed (journal : List Edit) (effect : Effect) (added : Entries) : Type 0 where
  pub made : ℕ
  pub rest : Entries
  pub is : added ≡ take made (edit_entries journal effect.edits) ++ rest
  pub breaks : BreaksOff effect.display (slice_get effect.edits made) rest

-- all lines but the last were done
pub record Interrupted (history : Entries) (done : List (List ℕ)) (own : Entries) : Type 0 where
  pub before : List (List ℕ)
  pub line : List ℕ
  pub whole : done ≡ before ++ line ∷ []
  pub front : Entries
  pub added : Entries
  pub way : EditorRun history before front
  pub fails : LastLineFailed (journal_of before) (effect_at (point_after before) line) added
  pub own_is : own ≡ front ++ added
