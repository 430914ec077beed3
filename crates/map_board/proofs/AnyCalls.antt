-- What holds of a board after any calls whose conditions hold, and who finishes it.
use Rattle.std.proofs.Common.{◌≡◌, ℕ, Bool, true, false, cond, eqb, [], ◌∷◌, ◌++◌, map, refl, sym, ap, ◌∙◌, subst, arith}
use Rattle.std.specs.Prelude.{Ok, Err, ◌||◌}
use Rattle.std.specs.List.{list_any}
use Rattle.std.proofs.lemmas.Bool.{eq-eqb}
use Rattle.touch_test.specs.Laws.{UntouchedReceiversStayInTurn}
use Rattle.turn_lock.specs.declared.entry.Entry.{Entry}
use Rattle.turn_lock.specs.History.{EachAllowed, Leads, entries_of}
use Rattle.map_board.specs.declared.answers.Landed.TheVariants as landed
use Rattle.map_board.specs.declared.calls.Took.TheVariants as took
use Rattle.map_board.specs.declared.calls.BoardCall.{BoardCall}
use Rattle.map_board.specs.declared.calls.BoardCall.TheVariants as calls
use Rattle.map_board.specs.declared.calls.BoardReply.{BoardReply}
use Rattle.map_board.specs.declared.calls.BoardReply.TheVariants as replies
use Rattle.map_board.specs.Journal.{newest_scene}
use Rattle.map_board.specs.Rows.{State, start}
use Rattle.map_board.specs.Machine.{Step, look_row}
use Rattle.map_board.specs.Seats.{Entries, May, editor}
use Rattle.map_board.specs.Showing.{AreRowsOf, settled_row}
use Rattle.map_board.specs.Runs.{LeadsWhereCan, AnyCallsShowRight, is_finish, finishes, FinishedByAnEntry, FinishedByTheEditor}
use Rattle.map_board.proofs.RowsRight.{each-step-keeps-rows-right}
use Rattle.map_board.proofs.Showing.{IsFair, start-fair, step-fair, leads-journal, rows-right, rows-settled, length-rows}

-- ---- any calls

fair-calls : (es : Entries) (from to : State) → IsFair from → LeadsWhereCan from es to → IsFair to
fair-calls [] from to fair leads = subst IsFair leads fair
fair-calls (e ∷ es) from to fair leads =
    let right = each-step-keeps-rows-right from leads.0 e.call e.reply leads.1 leads.2 fair.right in
    fair-calls es leads.0 to (step-fair from leads.0 fair right e.call e.reply leads.2) leads.3

steps-lead : (es : Entries) (from to : State) → LeadsWhereCan from es to → Leads Step from es to
steps-lead [] from to leads = leads
steps-lead (e ∷ es) from to leads = (leads.0, leads.2, steps-lead es leads.0 to leads.3)

pub any-calls-show-right : UntouchedReceiversStayInTurn → AnyCallsShowRight
any-calls-show-right stays history state leads =
    let fair = fair-calls history start state start-fair leads in
    record {
      journal = leads-journal start state history (steps-lead history start state leads);
      look = record {
        version = refl;
        rows = subst (λ rs. AreRowsOf state.journal rs (map (look_row state.journal) state.rows)) fair.order (rows-right stays state.journal fair.accepted state.rows fair.right);
        few = let n = length-rows state.journal state.rows (newest_scene state.journal).receivers fair.order in omega (arith, n, fair.fine.few);
      };
      settled = λ none. rows-settled stays state.journal fair.accepted state.rows fair.right none ∙ ap (map (settled_row (newest_scene state.journal))) fair.order;
    }

-- ---- the end

or_nothing : (b : Bool) → b ≡ (b || false)
or_nothing true = refl
or_nothing false = refl

or_all : (b : Bool) → true ≡ (b || true)
or_all true = refl
or_all false = refl

or_more : (a b c : Bool) → ((a || b) || c) ≡ (a || (b || c))
or_more true b c = refl
or_more false b c = refl

abbrev finished_in : State → Bool
finished_in state = state.finished

step-finished : (e : Entry BoardCall BoardReply) (s t : State) → Step s e.call e.reply t → t.finished ≡ (s.finished || finishes e)
step-finished e s t step = by_call e.call e.reply step where
  by_call : (call : BoardCall) (reply : BoardReply) → Step s call reply t
      → t.finished ≡ (s.finished || is_finish call)
  by_call (calls.Edit edit) (replies.Edited (Ok v)) step = ap finished_in step.1 ∙ or_nothing s.finished
  by_call (calls.Edit edit) (replies.Edited (Err fault)) step = ap finished_in step.1 ∙ or_nothing s.finished
  by_call calls.Take (replies.Took (took.Job job)) step = ap finished_in step.leaves ∙ or_nothing s.finished
  by_call calls.Take (replies.Took (took.Idle count)) step = ap finished_in step.1 ∙ or_nothing s.finished
  by_call calls.Take (replies.Took took.Finished) step = ap finished_in step.1 ∙ or_nothing s.finished
  by_call calls.Finish replies.Done step = ap finished_in step ∙ or_all s.finished
  by_call (calls.Offer answer) (replies.Landed landed.Kept) step = ap finished_in step.1 ∙ or_nothing s.finished
  by_call (calls.Offer answer) (replies.Landed (landed.Gone by)) step = ap finished_in step.1 ∙ or_nothing s.finished
  by_call (calls.GiveBack job) replies.Done step = ap finished_in step ∙ or_nothing s.finished
  by_call calls.Look (replies.Looked (Ok look)) step = ap finished_in step.1 ∙ or_nothing s.finished
  by_call calls.Look (replies.Looked (Err want)) step = ap finished_in step ∙ or_nothing s.finished
  by_call call reply step = absurd step

calls-finished : (es : Entries) (s t : State) → Leads Step s es t → t.finished ≡ (s.finished || list_any finishes es)
calls-finished [] s t leads = ap finished_in (sym leads) ∙ or_nothing s.finished
calls-finished (e ∷ es) s t leads =
    calls-finished es leads.0 t leads.2
    ∙ ap (λ (b : Bool). b || list_any finishes es) (step-finished e s leads.0 leads.1)
    ∙ or_more s.finished (finishes e) (list_any finishes es)

pub finished-by-an-entry : FinishedByAnEntry
finished-by-an-entry history state leads = calls-finished history start state leads

-- an entry of another seat finishes nothing
other-finishes : (number : ℕ) (mine : Entries) (e : Entry BoardCall BoardReply) → May number mine e.call → eqb number editor ≡ false → finishes e ≡ false
other-finishes number mine e may other = by_call e.call may where
  by_call : (call : BoardCall) → May number mine call → is_finish call ≡ false
  by_call calls.Finish may = let own : eqb number editor ≡ true = eq-eqb number editor may in absurd (cc)
  by_call (calls.Edit edit) may = refl
  by_call calls.Take may = refl
  by_call (calls.Offer answer) may = refl
  by_call (calls.GiveBack job) may = refl
  by_call calls.Look may = refl

editor-finishes : (before es : Entries) → EachAllowed May before es → list_any finishes (entries_of editor es) ≡ list_any finishes es
editor-finishes before [] allowed = refl
editor-finishes before (e ∷ es) allowed = by_seat (eqb e.number editor) refl (editor-finishes (before ++ e ∷ []) es allowed.1) where
  by_seat : (own : Bool) → eqb e.number editor ≡ own → list_any finishes (entries_of editor es) ≡ list_any finishes es
      → list_any finishes (cond own (e ∷ entries_of editor es) (entries_of editor es)) ≡ list_any finishes (e ∷ es)
  by_seat true is rest = ap (λ (b : Bool). finishes e || b) rest
  by_seat false is rest = rest ∙ ap (λ (b : Bool). b || list_any finishes es) (sym (other-finishes e.number (entries_of e.number before) e allowed.0 is))

-- the state before the last entry, and its step
parted : (before : Entries) (e : Entry BoardCall BoardReply) (from to : State) → Leads Step from (before ++ e ∷ []) to
    → (mid : State) × Leads Step from before mid × Step mid e.call e.reply to
parted [] e from to leads = (from, refl, subst (λ (s : State). Step from e.call e.reply s) leads.2 leads.1)
parted (x ∷ before) e from to leads =
    let rest = parted before e leads.0 to leads.2 in (rest.0, (leads.0, leads.1, rest.1), rest.2)

allowed-before : (early before : Entries) (e : Entry BoardCall BoardReply) → EachAllowed May early (before ++ e ∷ []) → EachAllowed May early before
allowed-before early [] e allowed = tt
allowed-before early (x ∷ before) e allowed = (allowed.0, allowed-before (early ++ x ∷ []) before e allowed.1)

pub finished-by-the-editor : FinishedByTheEditor
finished-by-the-editor before number state run =
    let last : Entry BoardCall BoardReply = record { number = number; call = calls.Take; reply = replies.Took took.Finished } in
    let parts = parted before last start state run.leads in
    editor-finishes [] before (allowed-before [] before last run.allowed) ∙ sym (finished-by-an-entry before parts.0 parts.1) ∙ parts.2.0
