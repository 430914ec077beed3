-- The board isn't finished before an entry of the editor finishes it.
use Rattle.std.proofs.Common.{◌≡◌, ℕ, Bool, true, false, cond, eqb, [], ◌∷◌, ◌++◌, refl, sym, ap, ◌∙◌, subst}
use Rattle.std.specs.Prelude.{All, Ok, Err}
use Rattle.std.proofs.lemmas.List.Elements.{All-nil, All-cons, All-head, All-tail}
use Rattle.std.proofs.lemmas.Bool.Decides.{Decides-eqb}
use Rattle.turn_lock.specs.History.{IsRun, EachAllowed, entries_of}
use Rattle.turn_lock.proofs.Histories.{kept_by_all, run_none}
use Rattle.map_board.specs.declared.answers.Landed.TheVariants as landed
use Rattle.map_board.specs.declared.calls.Took.TheVariants as took
use Rattle.map_board.specs.declared.calls.BoardCall.{BoardCall}
use Rattle.map_board.specs.declared.calls.BoardCall.TheVariants as calls
use Rattle.map_board.specs.declared.calls.BoardReply.{BoardReply}
use Rattle.map_board.specs.declared.calls.BoardReply.TheVariants as replies
use Rattle.map_board.specs.Rows.{State, start}
use Rattle.map_board.specs.Machine.{Step}
use Rattle.map_board.specs.Seats.{Entries, May, editor}
use Rattle.map_lock.specs.Seats.{BoardEntry}
use Rattle.map_lock.specs.Settling.{is_finish, HasNotFinished}

abbrev finished-in : State → Bool
finished-in state = state.finished

-- a step of another call leaves it
step-unfinished : (before after : State) (call : BoardCall) (reply : BoardReply) → Step before call reply after
    → is_finish call ≡ false → after.finished ≡ before.finished
step-unfinished before after (calls.Edit edit) (replies.Edited (Ok version)) step other = ap finished-in step.1
step-unfinished before after (calls.Edit edit) (replies.Edited (Err fault)) step other = ap finished-in step.1
step-unfinished before after (calls.Edit edit) (replies.Took t) step other = absurd step
step-unfinished before after (calls.Edit edit) replies.Done step other = absurd step
step-unfinished before after (calls.Edit edit) (replies.Landed l) step other = absurd step
step-unfinished before after (calls.Edit edit) (replies.Looked r) step other = absurd step
step-unfinished before after calls.Take (replies.Took (took.Job job)) step other = ap finished-in step.leaves
step-unfinished before after calls.Take (replies.Took (took.Idle count)) step other = ap finished-in step.1
step-unfinished before after calls.Take (replies.Took took.Finished) step other = ap finished-in step.1
step-unfinished before after calls.Take (replies.Edited r) step other = absurd step
step-unfinished before after calls.Take replies.Done step other = absurd step
step-unfinished before after calls.Take (replies.Landed l) step other = absurd step
step-unfinished before after calls.Take (replies.Looked r) step other = absurd step
step-unfinished before after calls.Finish reply step other = absurd (cc)
step-unfinished before after (calls.Offer answer) (replies.Landed landed.Kept) step other = ap finished-in step.1
step-unfinished before after (calls.Offer answer) (replies.Landed (landed.Gone by)) step other = ap finished-in step.1
step-unfinished before after (calls.Offer answer) (replies.Edited r) step other = absurd step
step-unfinished before after (calls.Offer answer) (replies.Took t) step other = absurd step
step-unfinished before after (calls.Offer answer) replies.Done step other = absurd step
step-unfinished before after (calls.Offer answer) (replies.Looked r) step other = absurd step
step-unfinished before after (calls.GiveBack job) replies.Done step other = ap finished-in step
step-unfinished before after (calls.GiveBack job) (replies.Edited r) step other = absurd step
step-unfinished before after (calls.GiveBack job) (replies.Took t) step other = absurd step
step-unfinished before after (calls.GiveBack job) (replies.Landed l) step other = absurd step
step-unfinished before after (calls.GiveBack job) (replies.Looked r) step other = absurd step
step-unfinished before after calls.Look (replies.Looked (Ok look)) step other = ap finished-in step.1
step-unfinished before after calls.Look (replies.Looked (Err want)) step other = ap finished-in step
step-unfinished before after calls.Look (replies.Edited r) step other = absurd step
step-unfinished before after calls.Look (replies.Took t) step other = absurd step
step-unfinished before after calls.Look replies.Done step other = absurd step
step-unfinished before after calls.Look (replies.Landed l) step other = absurd step

-- who may finish is the editor
others-finish-not : (number : ℕ) (mine : Entries) (call : BoardCall) → May number mine call
    → (number ≡ editor → is_finish call ≡ false) → is_finish call ≡ false
others-finish-not number mine (calls.Edit edit) may own = refl
others-finish-not number mine calls.Take may own = refl
others-finish-not number mine calls.Finish may own = own may
others-finish-not number mine (calls.Offer answer) may own = refl
others-finish-not number mine (calls.GiveBack job) may own = refl
others-finish-not number mine calls.Look may own = refl

abbrev Unfinishing : BoardEntry → Type 0
Unfinishing e = is_finish e.call ≡ false

-- an own entry is among the own entries
own-one : (e : BoardEntry) (rest : Entries) (test : Bool) → eqb e.number editor ≡ test
    → All Unfinishing (cond test (e ∷ rest) rest) → (e.number ≡ editor → is_finish e.call ≡ false) × All Unfinishing rest
own-one e rest true is all = (λ _. All-head Unfinishing e rest all, All-tail Unfinishing e rest all)
own-one e rest false is all = (λ same. absurd (no (sym is ∙ (Decides-eqb e.number editor).1 same)), all) where
  no : false ≡ true → ⊥
  no h = cc

none-finishes : (before es : Entries) → EachAllowed May before es → All Unfinishing (entries_of editor es) → All Unfinishing es
none-finishes before [] allowed own = All-nil Unfinishing
none-finishes before (e ∷ es) allowed own =
    let parts = own-one e (entries_of editor es) (eqb e.number editor) refl own in
    All-cons Unfinishing e es
    (others-finish-not e.number (entries_of e.number before) e.call allowed.0 parts.0)
    (none-finishes (before ++ e ∷ []) es allowed.1 parts.1)

-- after a history in which the editor didn't finish, the board isn't finished
pub unfinished : (history mine : Entries) (state : State) → IsRun start Step May history state
    → entries_of editor history ≡ mine → HasNotFinished mine → state.finished ≡ false
unfinished history mine state run own not =
    kept_by_all start Step May Unfinishing (λ (s : State). s.finished ≡ false)
    (λ earlier before after e ran may step kind holds. step-unfinished before after e.call e.reply step kind ∙ holds)
    [] history start state (run_none start Step May) run.allowed run.leads
    (none-finishes [] history run.allowed (subst (λ (l : Entries). All Unfinishing l) (sym own) not)) refl
