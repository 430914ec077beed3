-- What one line does at the board, as the run's own functions see it.
use Rattle.std.specs.Prelude.{◌≡◌, ◌≤◌, ◌<◌, ◌⊎◌, ℕ, Bool, true, false, List, [], ◌∷◌, ◌++◌, length, take, slice_get, All, IsSomeAnd, Result, Ok, Err}
use Rattle.scene_book.specs.Book.{Book}
use Rattle.scene_book.specs.Applying.{apply_of, lacks_memory}
use Rattle.scene_book.specs.declared.edits.Edit.{Edit}
use Rattle.scene_book.specs.declared.edits.EditFault.{EditFault}
use Rattle.command_lines.specs.declared.commands.Command.{Command}
use Rattle.line_sources.specs.Pieces.{batch_edits_of}
use Rattle.map_text.specs.declared.refusals.Refusal.TheVariants.{Edit as OfEdit}
use Rattle.turn_lock.specs.History.{Begins}
use Rattle.map_board.specs.Journal.{newest_scene}
use Rattle.map_board.specs.Seats.{Entries}
use Rattle.map_board.specs.Showing.{accepted_edits}
use Rattle.map_lock.specs.Seats.{BoardSeat}
use Rattle.map_lock.specs.Settling.{HasNotFinished}
use Rattle.noise_map.specs.declared.lines.answer.Answer.{Answer}
use Rattle.noise_map.specs.declared.lines.answer.Answer.TheVariants.{Refused}
use Rattle.noise_map.specs.declared.run.editor.Editor.{Editor}
use Rattle.scene_undo.specs.declared.versions.KeptVersion.{KeptVersion}
use Rattle.scene_undo.specs.Versions.{kept_in}
use Rattle.noise_map.specs.Demands.{Demand}
use Rattle.noise_map.specs.Effects.{Display, silent, refused, Past, way_back, Effect, display_of_edit, effect_of_edits, effect_in, effect_of, looks_asked, journal_with, journal_with_all, kept_with, kept_with_all, past_with}
use Rattle.noise_map.specs.Texts.{answer_to}
use Rattle.noise_map.specs.inner.Answers.{ShowsFew}
use Rattle.noise_map.specs.Ways.{edit_entry, edit_entries, lacking_edit, HasEffect, LastLineFailed, looks_in}

-- what the lines so far have left to an editor
abbrev pub past_of : Editor → Past
past_of editor = record { journal = accepted_edits editor.seat.mine; kept = kept_in editor.kept.items }

-- a version of a journal, with the edits that undo its edit
pub record IsKeptOf (journal : List Edit) (one : KeptVersion) : Type 0 where
  pub some : 1 ≤ one.version
  pub known : one.version ≤ length journal
  pub back : one.back ≡ way_back journal one.version

-- each is less than those before it
abbrev pub Descends : List ℕ → Type 0
Descends [] = Unit {0}
Descends (version ∷ others) = All (λ other. other < version) others × Descends others

-- An editor knows the newest version: its number and its scene; and of each version that it keeps the way back.
pub record Knows (editor : Editor) : Type 0 where
  pub scene : editor.scene ≡ newest_scene (accepted_edits editor.seat.mine)
  pub version : editor.version ≡ length (accepted_edits editor.seat.mine)
  pub kept : All (IsKeptOf (accepted_edits editor.seat.mine)) editor.kept.items
  pub order : Descends (kept_in editor.kept.items)

-- The editor's seat did these entries, and is else as before: it may have seen more.
pub record HasGone (before : BoardSeat) (added : Entries) (after : BoardSeat) : Type 0 where
  pub seen : Begins before.seen after.seen
  pub mine : after.mine ≡ before.mine ++ added
  pub table : after.table ≡ before.table
  pub number : after.number ≡ before.number
  pub parts : after.parts ≡ before.parts
  pub joined : after.joined ≡ before.joined
  pub unfinished : HasNotFinished before.mine → HasNotFinished after.mine

-- what is kept behind an edit, and behind edits one after the other, whose versions are kept or not
abbrev pub kept_when : Bool → List Edit → Edit → List ℕ → List ℕ
kept_when true journal edit kept = kept_with journal edit kept
kept_when false journal edit kept = kept

abbrev pub kept_when_all : Bool → List Edit → List Edit → List ℕ → List ℕ
kept_when_all true journal edits kept = kept_with_all journal edits kept
kept_when_all false journal edits kept = kept

-- An edit was made: the board has answered as the scene does, and the editor knows the newest version.
pub record HasMade (keeps : Bool) (before : Editor) (edit : Edit) (after : Editor) : Type 0 where
  pub goes : HasGone before.seat (edit_entry (accepted_edits before.seat.mine) edit ∷ []) after.seat
  pub accepts : accepted_edits after.seat.mine ≡ journal_with (accepted_edits before.seat.mine) edit
  pub knows : Knows after
  pub keeps_it :
      kept_in after.kept.items ≡ kept_when keeps (accepted_edits before.seat.mine) edit (kept_in before.kept.items)

-- There was no memory for an edit.
pub record HasLacked (before : Editor) (edit : Edit) (after : Editor) : Type 0 where
  pub added : Entries
  pub goes : HasGone before.seat added after.seat
  pub is : (added ≡ []) ⊎ (added ≡ lacking_edit edit ∷ [])

-- what is shown of an edit behind all that the editor has had accepted
abbrev pub display_behind : Editor → Edit → Display
display_behind before edit = display_of_edit (apply_of edit (newest_scene (accepted_edits before.seat.mine)))

abbrev pub MakesOrLacks : Bool → Bool → Editor → Edit → EditFault → Editor → Type 0
MakesOrLacks true keeps before edit fault after = HasLacked before edit after
MakesOrLacks false keeps before edit fault after =
    HasMade keeps before edit after × (display_behind before edit ≡ refused (OfEdit fault))

-- an edit was made, or there was no memory for it
abbrev pub MakesUnlessMemory : {X : Type 0} → Bool → Editor → Edit → Result X EditFault → Editor → Type 0
MakesUnlessMemory keeps before edit (Ok done) after =
    HasMade keeps before edit after × (display_behind before edit ≡ silent)
MakesUnlessMemory keeps before edit (Err fault) after = MakesOrLacks (lacks_memory fault) keeps before edit fault after

abbrev pub has_lacked : {X : Type 0} → Result X EditFault → Bool
has_lacked (Ok done) = false
has_lacked (Err fault) = lacks_memory fault

-- Edits were made, one after the other.
pub record HasMadeAll (keeps : Bool) (before : Editor) (edits : List Edit) (after : Editor) : Type 0 where
  pub goes : HasGone before.seat (edit_entries (accepted_edits before.seat.mine) edits) after.seat
  pub accepts : accepted_edits after.seat.mine ≡ journal_with_all (accepted_edits before.seat.mine) edits
  pub knows : Knows after
  pub keeps_them :
      kept_in after.kept.items ≡ kept_when_all keeps (accepted_edits before.seat.mine) edits (kept_in before.kept.items)

-- There was no memory for one of them, and those before it were made.
pub record HasLackedOne (before : Editor) (edits : List Edit) (after : Editor) : Type 0 where
  pub made : ℕ
  pub rest : Entries
  pub goes : HasGone before.seat (take made (edit_entries (accepted_edits before.seat.mine) edits) ++ rest) after.seat
  pub breaks : (rest ≡ []) ⊎ IsSomeAnd (slice_get edits made) (λ edit. rest ≡ lacking_edit edit ∷ [])

abbrev pub MakesAllUnlessMemory : {X E : Type 0} → Bool → Editor → List Edit → Result X E → Editor → Type 0
MakesAllUnlessMemory keeps before edits (Ok done) after = HasMadeAll keeps before edits after
MakesAllUnlessMemory keeps before edits (Err want) after = HasLackedOne before edits after

-- A line's effect was carried out: the editor has made its edits, and has had the look answered that it asks for.
pub record HasMet (before : BoardSeat) (effect : Effect) (answer : Answer) (after : BoardSeat) : Type 0 where
  pub added : Entries
  pub goes : HasGone before added after
  pub does : HasEffect after.seen before.mine (accepted_edits before.mine) effect added
  pub asked : length (looks_in added) ≡ looks_asked effect.display
  pub accepts : accepted_edits after.mine ≡ journal_with_all (accepted_edits before.mine) effect.edits
  pub few : ShowsFew answer
  pub answered : answer ≡ answer_to effect.display (slice_get (looks_in added) 0)

-- The editor has followed it: it knows the newest version, and has kept what the effect leaves.
pub record HasFollowed (before : Editor) (effect : Effect) (after : Editor) : Type 0 where
  pub knows : Knows after
  pub past : past_of after ≡ past_with (past_of before) effect

-- It was not carried out for want of memory.
pub record HasFailed (before : BoardSeat) (effect : Effect) (after : BoardSeat) : Type 0 where
  pub added : Entries
  pub goes : HasGone before added after
  pub fails : LastLineFailed (accepted_edits before.mine) effect added
  pub unanswered : looks_in added ≡ []

-- what is asked was carried out behind all that the editor has had accepted, or there was no memory for it
abbrev pub MeetsUnlessMemory : {E : Type 0} → Editor → Demand → Result Answer E → Editor → Type 0
MeetsUnlessMemory before demand (Ok answer) after =
    HasMet before.seat (effect_of (past_of before) demand) answer after.seat
    × HasFollowed before (effect_of (past_of before) demand) after
MeetsUnlessMemory before demand (Err want) after = HasFailed before.seat (effect_of (past_of before) demand) after.seat

-- the command makes edits together, and they are all that it comes to
abbrev pub IsBatch : Command → Type 0
IsBatch asked =
    (scene : Book) (past : Past) → effect_in scene past asked ≡ effect_of_edits (batch_edits_of asked scene)

-- edits were made together, or they were refused, or there was no memory
abbrev pub MeetsEditsUnlessMemory : {E : Type 0} → Editor → Result (List Edit) EditFault → Result Answer E → Editor
    → Type 0
MeetsEditsUnlessMemory before edits (Ok answer) after =
    HasMet before.seat (effect_of_edits edits) answer after.seat × HasFollowed before (effect_of_edits edits) after
MeetsEditsUnlessMemory before edits (Err want) after = HasFailed before.seat (effect_of_edits edits) after.seat

-- ---- answers

abbrev pub is_refusal : Answer → Bool
is_refusal (Refused fault) = true
is_refusal answer = false
