-- An accepted undo leads back to its version.
use Rattle.std.proofs.Common.{◌≡◌, ℕ, List, [], ◌∷◌, ◌++◌, Bool, true, false, if◌then◌else◌, refl, sym, ap, ◌∙◌, subst}
use Rattle.std.specs.Prelude.{Option, Some, None, Result, Ok, Err, IfOk, All, fold, filter, nat_lt, nat_le, length}
use Rattle.std.proofs.lemmas.List.Elements.{All-nil, All-cons}
use Rattle.std.proofs.lemmas.List.Sums.{fold-append}
use Rattle.scene_parts.specs.Parts.{Receiver}
use Rattle.scene_book.specs.Book.{Book}
use Rattle.scene_book.specs.Orders.{Shuffled, SameParts}
use Rattle.scene_book.specs.declared.edits.Edit.{Edit}
use Rattle.scene_book.specs.declared.edits.EditFault.{EditFault}
use Rattle.command_lines.specs.Views.{Contour}
use Rattle.command_lines.specs.declared.commands.Command.{Command}
use Rattle.command_lines.specs.declared.commands.Command.TheVariants as commands
use Rattle.command_lines.specs.declared.faults.LineFault.{LineFault}
use Rattle.command_lines.specs.Lines.{command_of}
use Rattle.line_sources.specs.Pieces.{batch_edits_of}
use Rattle.scene_undo.specs.Versions.{is_kept}
use Rattle.level_contours.specs.GridNames.{first_missing_of}
use Rattle.map_io.specs.Reading.{line_limit}
use Rattle.map_board.specs.Journal.{scene_at, newest_scene}
use Rattle.map_board.specs.declared.looks.LookRow.{LookRow}
use Rattle.map_board.specs.declared.answers.Shown.TheVariants.{Current}
use Rattle.map_board.specs.Showing.{settled_rows}
use Rattle.path_calc.specs.Levels.{Levels}
use Rattle.scene_undo.specs.Scenes.{IsEdit, IsScene}
use Rattle.noise_map.specs.Demands.{Demand, nothing, refusal, command, demand_read, demand_of, is_blank}
use Rattle.noise_map.specs.Effects.{Past, edits_back, Effect, effect_of_edits, effect_of_contour, effect_of_undo, effect_in, effect_of, journal_with_all, kept_behind, Point, at_start, effect_at, passed_line, point_after, journal_of}
use Rattle.noise_map.specs.Undone.{LeadsBack}
use Rattle.noise_map.proofs.Journals.{version-scene}
use Rattle.noise_map.proofs.Trails.{IsSound, sound-start, sound-edits, HasLed, undo-leads}
use Rattle.noise_map.proofs.SoundEdits.{IsSoundCommand, sound-command, batch-edits}
use Rattle.order_law.proofs.Shown.{rows-shuffled}

-- ---- effects

-- edits in their ranges, or those that lead back to a kept version
abbrev pub AreSoundEdits : Past → Option ℕ → List Edit → Type 0
AreSoundEdits past None edits = All IsEdit edits
AreSoundEdits past (Some to) edits = (is_kept to past.kept ≡ true) × (edits ≡ edits_back to past)

abbrev pub IsSoundEffect : Past → Effect → Type 0
IsSoundEffect past effect = AreSoundEdits past effect.back effect.edits

sound-list : (past : Past) (answer : Result (List Edit) EditFault) → IfOk answer (All IsEdit) → IsSoundEffect past (effect_of_edits answer)
sound-list past (Ok edits) all = all
sound-list past (Err fault) all = All-nil IsEdit

sound-contour : (past : Past) (contour : Contour) (missing : Option (List ℕ)) → IsSoundEffect past (effect_of_contour contour missing)
sound-contour past contour None = All-nil IsEdit
sound-contour past contour (Some name) = All-nil IsEdit

sound-undo : (past : Past) (to : ℕ) → IsSoundEffect past (effect_of_undo to past)
sound-undo past to = by (is_kept to past.kept) refl
  where
    by : (test : Bool) → is_kept to past.kept ≡ test → IsSoundEffect past (effect_of_undo to past)
    by true has = rw has (has, refl)
    by false hasnt = rw hasnt (All-nil IsEdit)

sound-asked : (past : Past) (asked : Command) → IsSoundCommand asked → IsSoundEffect past (effect_in (newest_scene past.journal) past asked)
sound-asked past (commands.Edit edit) sound = All-cons IsEdit edit [] sound (All-nil IsEdit)
sound-asked past (commands.Undo to) sound = sound-undo past to
sound-asked past (commands.Contour contour) sound = sound-contour past contour (first_missing_of contour (newest_scene past.journal))
sound-asked past commands.Settle sound = All-nil IsEdit
sound-asked past commands.Look sound = All-nil IsEdit
sound-asked past batch sound = sound-list past (batch_edits_of batch (newest_scene past.journal)) (batch-edits batch (newest_scene past.journal))

-- what a line asks for is in its ranges
abbrev IsSoundDemand : Demand → Type 0
IsSoundDemand (command asked) = IsSoundCommand asked
IsSoundDemand demand = Unit {0}

sound-read : (answer : Result Command LineFault) → IfOk answer IsSoundCommand → IsSoundDemand (demand_read answer)
sound-read (Ok asked) sound = sound
sound-read (Err fault) sound = tt

sound-choice : (test : Bool) (first other : Demand) → IsSoundDemand first → IsSoundDemand other → IsSoundDemand (if test then first else other)
sound-choice true first other sound_first sound_other = sound_first
sound-choice false first other sound_first sound_other = sound_other

sound-demand : (line : List ℕ) → IsSoundDemand (demand_of line)
unfolding demand_of
sound-demand line =
    sound-choice (nat_lt line_limit (length line)) _ _ tt
    (sound-choice (is_blank line) _ _ tt (sound-read (command_of line) (sound-command line)))

sound-effect : (past : Past) (demand : Demand) → IsSoundDemand demand → IsSoundEffect past (effect_of past demand)
sound-effect past nothing sound = All-nil IsEdit
sound-effect past (refusal fault) sound = All-nil IsEdit
sound-effect past (command asked) sound = sound-asked past asked sound

pub sound-line : (point : Point) (line : List ℕ) → IsSoundEffect point.past (effect_at point line)
sound-line point line = sound-effect point.past (demand_of line) (sound-demand line)

-- ---- lines one after another

abbrev past_of : List Edit → List ℕ → Past
past_of journal kept = record { journal = journal; kept = kept }

-- what an effect leaves is sound
sound-behind : (past : Past) (back : Option ℕ) (edits : List Edit) → IsSound past → AreSoundEdits past back edits
    → IsSound (past_of (journal_with_all past.journal edits) (kept_behind back past edits))
sound-behind past None edits sound all = sound-edits past.journal edits past.kept all sound
sound-behind past (Some to) edits sound undo =
    subst (λ (es : List Edit). IsSound (past_of (journal_with_all past.journal es) (filter (λ v. nat_le v to) past.kept))) (sym undo.1)
    (undo-leads past to sound undo.0).sound

sound-from : (point : Point) (lines : List (List ℕ)) → IsSound point.past → IsSound (fold passed_line point lines).past
sound-from point [] sound = sound
sound-from point (line ∷ lines) sound =
    let effect = effect_at point line in
    sound-from (passed_line point line) lines (sound-behind point.past effect.back effect.edits sound (sound-line point line))

-- after any lines the accepted edits were taken one after the other, and the kept versions lead back from the newest scene
pub sound-after : (done : List (List ℕ)) → IsSound (point_after done).past
sound-after done = sound-from at_start done sound-start

-- the accepted edits behind one line more
journal-push : (done : List (List ℕ)) (line : List ℕ)
    → journal_of (done ++ line ∷ []) ≡ journal_with_all (journal_of done) (effect_at (point_after done) line).edits
journal-push done line = ap (λ (p : Point). p.past.journal) (fold-append passed_line at_start done (line ∷ []))

-- ---- the way back

led-back : (past : Past) (back : Option ℕ) (edits : List Edit) (to : ℕ) → IsSound past → AreSoundEdits past back edits → back ≡ Some to
    → HasLed past to (journal_with_all past.journal edits)
led-back past None edits to sound all e = cc
led-back past (Some other) edits to sound undo e =
    let here : other ≡ to = cc in
    subst (λ (v : ℕ). HasLed past v (journal_with_all past.journal edits)) here
    (subst (λ (es : List Edit). HasLed past other (journal_with_all past.journal es)) (sym undo.1) (undo-leads past other sound undo.0))

-- an undo leads to the parts of its version
pub line-led : (done : List (List ℕ)) (line : List ℕ) (to : ℕ) → (effect_at (point_after done) line).back ≡ Some to
    → HasLed (point_after done).past to (journal_of (done ++ line ∷ []))
line-led done line to back =
    let point = point_after done in
    let effect = effect_at point line in
    subst (HasLed point.past to) (sym (journal-push done line))
    (led-back point.past effect.back effect.edits to (sound-after done) (sound-line point line) back)

-- ---- the rows

-- scenes of the same parts have the same settled rows, in any order
pub rows-alike : (a b : Book) → IsScene a → SameParts a b → Shuffled (settled_rows a) (settled_rows b)
rows-alike a b scene parts = rows-shuffled row a b scene parts
  where
    row : Receiver → Levels → LookRow
    row r levels = record { name = r.name; shown = Current levels }

-- ---- the law

pub leads-back : (done : List (List ℕ)) → LeadsBack done
leads-back done before more rest line to split back none =
    let past = (point_after before).past in
    let sound = sound-after before in
    let led = line-led before line to back in
    let parts : SameParts (scene_at (journal_of before) to) (newest_scene (journal_of (before ++ line ∷ more))) =
    subst (λ (journal : List Edit). SameParts (scene_at past.journal to) (newest_scene journal)) (sym none) led.parts in
    record {
      accepted = none ∙ led.whole;
      parts = parts;
      rows = rows-alike (scene_at past.journal to) (newest_scene (journal_of (before ++ line ∷ more))) (version-scene past.journal to sound.journal) parts;
    }
