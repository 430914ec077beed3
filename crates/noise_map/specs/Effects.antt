-- What a line comes to behind the lines before it: the edits that are made for it, and what is shown.
use Rattle.std.specs.Prelude.{ℕ, zero, suc, ◌+◌, Bool, true, false, ◌||◌, nat_lt, nat_le, List, [], ◌∷◌, ◌++◌, length, fold, filter, flat_map, slice_get, Option, Some, None, Result, Ok, Err, if◌then◌else◌}
use Rattle.scene_parts.specs.declared.parts.Part.{Part}
use Rattle.scene_book.specs.Book.{Book}
use Rattle.scene_book.specs.Applying.{apply_of}
use Rattle.scene_book.specs.declared.edits.Edit.{Edit}
use Rattle.scene_book.specs.declared.edits.EditFault.{EditFault}
use Rattle.scene_book.specs.declared.edits.EditFault.TheVariants.{NoSuchName}
use Rattle.command_lines.specs.Views.{Contour}
use Rattle.command_lines.specs.declared.commands.Command.{Command}
use Rattle.command_lines.specs.declared.commands.Command.TheVariants as commands
use Rattle.map_text.specs.declared.refusals.Refusal.{Refusal}
use Rattle.map_text.specs.declared.refusals.Refusal.TheVariants.{Edit as OfEdit, NoSuchVersion}
use Rattle.scene_undo.specs.Inverse.{inverse_of}
use Rattle.scene_undo.specs.Versions.{is_kept}
use Rattle.map_board.specs.Journal.{scene_at, newest_scene}
use Rattle.line_sources.specs.Pieces.{batch_edits_of}
use Rattle.level_contours.specs.GridNames.{first_missing_of}
use Rattle.noise_map.specs.Demands.{Demand, nothing, refusal, command, demand_of}

-- ---- what lines before have left

-- what lines depend on of those before them: the accepted edits, and the versions that are kept for an undo, the newest
-- first
pub record Past : Type 0 where
  pub journal : List Edit
  pub kept : List ℕ

-- before the first line version 0 alone is kept
abbrev pub no_past : Past
no_past = record { journal = []; kept = 0 ∷ [] }

-- an edit undone, by the scene before it
abbrev pub undone_by : Option Edit → Book → List Edit
undone_by None before = []
undone_by (Some edit) before = inverse_of edit before

-- the edits that undo the edit of a version
abbrev pub way_back : List Edit → ℕ → List Edit
way_back journal zero = []
way_back journal (suc before) = undone_by (slice_get journal before) (scene_at journal before)

-- those that undo the edits of the kept versions after one, the last version first
abbrev pub edits_back : ℕ → Past → List Edit
edits_back to past = flat_map (way_back past.journal) (filter (nat_lt to) past.kept)

-- ---- effects

-- what is shown of a line: nothing, its refusal, or a look at the board, which is that of a settled one, by its rows or
-- by its contours, or of what is known
pub data Display : Type 0 where
  silent : Display
  refused : Refusal → Display
  settled : Display
  known : Display
  contoured : Contour → Display

-- what a line comes to: the edits that are made for it, one after the other, the version that they lead back to where
-- it is an undo, and what is shown of it
pub record Effect : Type 0 where
  pub edits : List Edit
  pub back : Option ℕ
  pub display : Display

-- it makes no edit
abbrev pub shows : Display → Effect
shows display = record { edits = []; back = None; display = display }

-- an accepted edit is not shown
abbrev pub display_of_edit : Result (Book × Option Part) EditFault → Display
display_of_edit (Ok after) = silent
display_of_edit (Err fault) = refused (OfEdit fault)

-- an edit is made alone
abbrev pub effect_of_edit : Edit → Result (Book × Option Part) EditFault → Effect
effect_of_edit edit answer = record { edits = edit ∷ []; back = None; display = display_of_edit answer }

-- edits that a command makes together are all made, or none where the scene refuses one of them
abbrev pub effect_of_edits : Result (List Edit) EditFault → Effect
effect_of_edits (Ok edits) = record { edits = edits; back = None; display = silent }
effect_of_edits (Err fault) = shows (refused (OfEdit fault))

-- contours are shown where no receiver is missing
abbrev pub effect_of_contour : Contour → Option (List ℕ) → Effect
effect_of_contour contour None = shows (contoured contour)
effect_of_contour contour (Some missing) = shows (refused (OfEdit (NoSuchName missing)))

-- an undo leads back to a version that is kept
abbrev pub effect_of_undo : ℕ → Past → Effect
effect_of_undo to past =
    if is_kept to past.kept then record { edits = edits_back to past; back = Some to; display = silent }
    else shows (refused (NoSuchVersion to))

-- what a command comes to in the newest scene of this past
abbrev pub effect_in : Book → Past → Command → Effect
effect_in scene past (commands.Edit edit) = effect_of_edit edit (apply_of edit scene)
effect_in scene past (commands.Undo to) = effect_of_undo to past
effect_in scene past (commands.Contour contour) = effect_of_contour contour (first_missing_of contour scene)
effect_in scene past commands.Settle = shows settled
effect_in scene past commands.Look = shows known
-- a command that makes edits together
effect_in scene past batch = effect_of_edits (batch_edits_of batch scene)

-- what a line comes to, of which this is asked, behind this past
abbrev pub effect_of : Past → Demand → Effect
effect_of past nothing = shows silent
effect_of past (refusal fault) = shows (refused fault)
effect_of past (command asked) = effect_in (newest_scene past.journal) past asked

-- ---- what is read from an effect

-- how many looks it asks for
abbrev pub looks_asked : Display → ℕ
looks_asked silent = 0
looks_asked (refused fault) = 0
looks_asked settled = 1
looks_asked known = 1
looks_asked (contoured contour) = 1

abbrev pub is_refused : Display → Bool
is_refused (refused fault) = true
is_refused display = false

-- the accepted edits with one more, unless the scene refuses it
abbrev pub with_edit : List Edit → Edit → Result (Book × Option Part) EditFault → List Edit
with_edit journal edit (Ok after) = journal ++ edit ∷ []
with_edit journal edit (Err fault) = journal

abbrev pub journal_with : List Edit → Edit → List Edit
journal_with journal edit = with_edit journal edit (apply_of edit (newest_scene journal))

-- the accepted edits with more of them, one after the other
abbrev pub journal_with_all : List Edit → List Edit → List Edit
journal_with_all journal edits = fold journal_with journal edits

-- the kept versions with one more, that of an accepted edit
abbrev pub with_version : ℕ → Result (Book × Option Part) EditFault → List ℕ → List ℕ
with_version version (Ok after) kept = version ∷ kept
with_version version (Err fault) kept = kept

abbrev pub kept_with : List Edit → Edit → List ℕ → List ℕ
kept_with journal edit kept = with_version (suc (length journal)) (apply_of edit (newest_scene journal)) kept

abbrev pub kept_with_all : List Edit → List Edit → List ℕ → List ℕ
kept_with_all journal [] kept = kept
kept_with_all journal (edit ∷ more) kept = kept_with_all (journal_with journal edit) more (kept_with journal edit kept)

-- the versions of a line's accepted edits are kept; but where they lead back to a version, that and those before it
-- stay
abbrev pub kept_behind : Option ℕ → Past → List Edit → List ℕ
kept_behind None past edits = kept_with_all past.journal edits past.kept
kept_behind (Some to) past edits = filter (λ v. nat_le v to) past.kept

-- what a line leaves to the lines behind it
abbrev pub past_with : Past → Effect → Past
past_with past effect = record {
  journal = journal_with_all past.journal effect.edits;
  kept = kept_behind effect.back past effect.edits;
}

-- ---- lines one after another

-- after some lines: how many there were, what they leave, how many looks were asked for, and whether a line was refused
pub record Point : Type 0 where
  pub count : ℕ
  pub past : Past
  pub asked : ℕ
  pub refused : Bool

abbrev pub at_start : Point
at_start = record { count = 0; past = no_past; asked = 0; refused = false }

abbrev pub passed : Point → Effect → Point
passed point effect = record {
  count = point.count + 1;
  past = past_with point.past effect;
  asked = point.asked + looks_asked effect.display;
  refused = point.refused || is_refused effect.display;
}

-- what a line comes to behind others
abbrev pub effect_at : Point → List ℕ → Effect
effect_at point line = effect_of point.past (demand_of line)

abbrev pub passed_line : Point → List ℕ → Point
passed_line point line = passed point (effect_at point line)

abbrev pub point_after : List (List ℕ) → Point
point_after done = fold passed_line at_start done

-- the edits that these lines had accepted; the version is their number
abbrev pub journal_of : List (List ℕ) → List Edit
journal_of done = (point_after done).past.journal
