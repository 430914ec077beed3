-- A settled board stays settled while only others than the editor go on.
use Rattle.std.proofs.Common.{◌≡◌, ℕ, ◌+◌, Bool, true, false, cond, eqb, List, [], ◌∷◌, ◌++◌, refl, sym, ap, ◌∙◌, subst, arith, Some, None, ◌⊎◌, inl, inr}
use Rattle.std.specs.Prelude.{Option, is_some, IsSome, All, Ok, Err, bytes_eq, ◌||◌, count_by, find}
use Rattle.std.specs.List.{list_any}
use Rattle.std.proofs.lemmas.List.Elements.{All-nil, All-cons}
use Rattle.std.proofs.lemmas.List.Sums.{sum_by-cons}
use Rattle.std.proofs.lemmas.Bool.Decides.{Decides-eqb}
use Rattle.scene_book.specs.declared.edits.Edit.{Edit}
use Rattle.turn_lock.specs.History.{IsRun, EachAllowed, Leads, entries_of, entry}
use Rattle.turn_lock.proofs.Histories.{kept_by_all, run_cut, run_more}
use Rattle.map_board.specs.declared.answers.Landed.TheVariants as landed
use Rattle.map_board.specs.declared.calls.Took.TheVariants as took
use Rattle.map_board.specs.declared.calls.BoardCall.{BoardCall}
use Rattle.map_board.specs.declared.calls.BoardCall.TheVariants as calls
use Rattle.map_board.specs.declared.calls.BoardReply.{BoardReply}
use Rattle.map_board.specs.declared.calls.BoardReply.TheVariants as replies
use Rattle.map_board.specs.Journal.{first_naming}
use Rattle.map_board.specs.Rows.{Row, State, start, row_named, is_needy, is_out}
use Rattle.map_board.specs.Jobs.{MayReturn, IsOutFor}
use Rattle.map_board.specs.Machine.{Step, Can, IsIdle, rows_after_return}
use Rattle.map_board.specs.Seats.{Entries, May, editor}
use Rattle.map_board.specs.Boards.{is_unsettled}
use Rattle.map_board.specs.Views.{Job}
use Rattle.map_board.proofs.Lawful.{board-is-lawful}
use Rattle.map_lock.specs.Seats.{BoardEntry}
use Rattle.map_lock.specs.Settling.{IsSettled}

-- ---- rows of a settled board

either : (a b : Bool) → (a || b) ≡ false → (a ≡ false) × (b ≡ false)
either false false e = (refl, refl)
either true b e = absurd (cc)
either false true e = absurd (cc)

module _ {A : Type 0} (p q : A → Bool) where
  found-one : (x y : A) (rest : Option A) (test : Bool) → cond test (Some x) rest ≡ Some y → p x ≡ false
      → (rest ≡ Some y → p y ≡ false) → p y ≡ false
  found-one x y rest true found here later = let is : x ≡ y = cc in subst (λ z. p z ≡ false) is here
  found-one x y rest false found here later = later found

  -- what is found in a list of which no item passes doesn't pass
  found-none : (xs : List A) (x : A) → find q xs ≡ Some x → list_any p xs ≡ false → p x ≡ false
  found-none [] x found none = absurd (cc)
  found-none (y ∷ ys) x found none =
      let parts = either (p y) (list_any p ys) none in
      found-one y x (find q ys) (q y) found parts.0 (λ later. found-none ys x later parts.1)

  none-of-both : (x : A) (xs : List A) (test : Bool) → q x ≡ test → count_by q (x ∷ xs) ≡ 0 → p x ≡ false
      → (count_by q xs ≡ 0 → list_any (λ y. p y || q y) xs ≡ false) → list_any (λ y. p y || q y) (x ∷ xs) ≡ false
  none-of-both x xs true e zero not-p rest =
      absurd (omega (arith, sym zero ∙ (sum_by-cons (λ y. cond (q y) 1 0) x xs ∙ ap (λ b. cond b 1 0 + count_by q xs) e)))
  none-of-both x xs false e zero not-p rest =
      let later : count_by q xs ≡ 0 =
      omega (arith, sym (sum_by-cons (λ y. cond (q y) 1 0) x xs ∙ ap (λ b. cond b 1 0 + count_by q xs) e) ∙ zero) in
      rw (not-p, e) (rest later)

  none-of-two : (xs : List A) → list_any p xs ≡ false → count_by q xs ≡ 0 → list_any (λ x. p x || q x) xs ≡ false
  none-of-two [] none zero = refl
  none-of-two (x ∷ xs) none zero =
      let parts = either (p x) (list_any p xs) none in
      none-of-both x xs (q x) refl zero parts.0 (none-of-two xs parts.1)

-- neither needy nor out
settled-row : (journal : List Edit) (rows : List Row) (name : List ℕ) (row : Row) → row_named name rows ≡ Some row
    → list_any (is_unsettled journal) rows ≡ false → (is_needy journal row ≡ false) × (is_out row ≡ false)
settled-row journal rows name row found settled =
    either (is_needy journal row) (is_out row)
    (found-none (is_unsettled journal) (λ r. bytes_eq name r.receiver.name) rows row found settled)

not-both : false ≡ true → ⊥
not-both h = cc

-- no job is out for a receiver
none-out : (journal : List Edit) (rows : List Row) (version : ℕ) (r : Rattle.scene_parts.specs.Parts.Receiver)
    → list_any (is_unsettled journal) rows ≡ false → IsOutFor rows version r → ⊥
none-out journal rows version r settled is =
    not-both (sym (settled-row journal rows r.name is.row is.found settled).1 ∙ ap is_some is.out)

-- so what may return was named since
named-since : (state : State) (version : ℕ) (r : Rattle.scene_parts.specs.Parts.Receiver) → IsSettled state
    → MayReturn state.journal state.rows version r → is_some (first_naming state.journal version r.name) ≡ true
named-since state version r settled may = go may.awaited where
  go : IsSome (first_naming state.journal version r.name) ⊎ IsOutFor state.rows version r
      → is_some (first_naming state.journal version r.name) ≡ true
  go (inl some) = some
  go (inr out) = absurd (none-out state.journal state.rows version r settled out)

-- ---- steps

same-rows : (before after : State) → IsSettled before → after.journal ≡ before.journal → after.rows ≡ before.rows
    → IsSettled after
same-rows before after settled journal rows =
    ap (λ j. list_any (is_unsettled j) after.rows) journal ∙ (ap (list_any (is_unsettled before.journal)) rows ∙ settled)

same-state : (before after : State) → IsSettled before → after ≡ before → IsSettled after
same-state before after settled same = subst IsSettled (sym same) settled

returned-rows : (job : Job) (by : Option ℕ) (rows : List Row) → is_some by ≡ true → rows_after_return job by rows ≡ rows
returned-rows job None rows some = absurd (not-both some)
returned-rows job (Some by) rows some = refl

abbrev pub is_edit : BoardCall → Bool
is_edit (calls.Edit edit) = true
is_edit call = false

stays : (before after : State) (call : BoardCall) (reply : BoardReply) → Can before call → Step before call reply after
    → is_edit call ≡ false → IsSettled before → IsSettled after
stays before after (calls.Edit edit) reply can step other settled = absurd (not-both (sym other))
stays before after calls.Take (replies.Took (took.Job job)) can step other settled =
    absurd (not-both (sym (settled-row before.journal before.rows job.receiver.name step.row step.named settled).0
    ∙ step.needy))
stays before after calls.Take (replies.Took (took.Idle count)) can step other settled = same-state before after settled step.1
stays before after calls.Take (replies.Took took.Finished) can step other settled = same-state before after settled step.1
stays before after calls.Take (replies.Edited r) can step other settled = absurd step
stays before after calls.Take replies.Done can step other settled = absurd step
stays before after calls.Take (replies.Landed l) can step other settled = absurd step
stays before after calls.Take (replies.Looked r) can step other settled = absurd step
stays before after calls.Finish replies.Done can step other settled =
    same-rows before after settled (ap (λ (s : State). s.journal) step) (ap (λ (s : State). s.rows) step)
stays before after calls.Finish (replies.Edited r) can step other settled = absurd step
stays before after calls.Finish (replies.Took t) can step other settled = absurd step
stays before after calls.Finish (replies.Landed l) can step other settled = absurd step
stays before after calls.Finish (replies.Looked r) can step other settled = absurd step
stays before after (calls.Offer answer) (replies.Landed landed.Kept) can step other settled =
    absurd (not-both (sym (ap is_some step.0) ∙ named-since before answer.version answer.receiver settled can.0))
stays before after (calls.Offer answer) (replies.Landed (landed.Gone by)) can step other settled =
    same-rows before after settled (ap (λ (s : State). s.journal) step.1) (ap (λ (s : State). s.rows) step.1)
stays before after (calls.Offer answer) (replies.Edited r) can step other settled = absurd step
stays before after (calls.Offer answer) (replies.Took t) can step other settled = absurd step
stays before after (calls.Offer answer) replies.Done can step other settled = absurd step
stays before after (calls.Offer answer) (replies.Looked r) can step other settled = absurd step
stays before after (calls.GiveBack job) replies.Done can step other settled =
    same-rows before after settled (ap (λ (s : State). s.journal) step)
    (ap (λ (s : State). s.rows) step
    ∙ returned-rows job (first_naming before.journal job.version job.receiver.name) before.rows
    (named-since before job.version job.receiver settled can.0))
stays before after (calls.GiveBack job) (replies.Edited r) can step other settled = absurd step
stays before after (calls.GiveBack job) (replies.Took t) can step other settled = absurd step
stays before after (calls.GiveBack job) (replies.Landed l) can step other settled = absurd step
stays before after (calls.GiveBack job) (replies.Looked r) can step other settled = absurd step
stays before after calls.Look (replies.Looked (Ok look)) can step other settled = same-state before after settled step.1
stays before after calls.Look (replies.Looked (Err want)) can step other settled = same-state before after settled step
stays before after calls.Look (replies.Edited r) can step other settled = absurd step
stays before after calls.Look (replies.Took t) can step other settled = absurd step
stays before after calls.Look replies.Done can step other settled = absurd step
stays before after calls.Look (replies.Landed l) can step other settled = absurd step

-- ---- histories

-- who may edit is the editor
edits-not : (number : ℕ) (mine : Entries) (call : BoardCall) → May number mine call → (number ≡ editor → ⊥)
    → is_edit call ≡ false
edits-not number mine (calls.Edit edit) may other = absurd (other may)
edits-not number mine calls.Take may other = refl
edits-not number mine calls.Finish may other = refl
edits-not number mine (calls.Offer answer) may other = refl
edits-not number mine (calls.GiveBack job) may other = refl
edits-not number mine calls.Look may other = refl

abbrev NoEdit : BoardEntry → Type 0
NoEdit e = is_edit e.call ≡ false

other-one : (e : BoardEntry) (rest : Entries) (test : Bool) → eqb e.number editor ≡ test → cond test (e ∷ rest) rest ≡ []
    → (e.number ≡ editor → ⊥) × (rest ≡ [])
other-one e rest true is none = absurd (cc)
other-one e rest false is none = (λ same. not-both (sym is ∙ (Decides-eqb e.number editor).1 same), none)

none-edits : (before es : Entries) → EachAllowed May before es → entries_of editor es ≡ [] → All NoEdit es
none-edits before [] allowed none = All-nil NoEdit
none-edits before (e ∷ es) allowed none =
    let parts = other-one e (entries_of editor es) (eqb e.number editor) refl none in
    All-cons NoEdit e es (edits-not e.number (entries_of e.number before) e.call allowed.0 parts.0)
    (none-edits (before ++ e ∷ []) es allowed.1 parts.1)

stays-through : (front back : Entries) (between after : State) → IsRun start Step May front between → EachAllowed May front back
    → Leads Step between back after → entries_of editor back ≡ [] → IsSettled between → IsSettled after
stays-through front back between after run allowed leads none settled =
    kept_by_all start Step May NoEdit IsSettled
    (λ earlier before later e ran may step kind holds.
    stays before later e.call e.reply (board-is-lawful earlier before e.number e.call ran may) step kind holds)
    front back between after run allowed leads (none-edits front back allowed none) settled

-- an idle take, with no row out, finds the board settled
idle-settled : (state : State) → IsIdle state 0 → IsSettled state
idle-settled state idle = none-of-two (is_needy state.journal) is_out state.rows idle.none_needy (sym idle.out)

-- and it is settled until the editor goes on
pub settled-since-idle : (front between : Entries) (number : ℕ) (state : State)
    → IsRun start Step May (front ++ entry number calls.Take (replies.Took (took.Idle 0)) ∷ between) state
    → entries_of editor between ≡ [] → IsSettled state
settled-since-idle front between number state run none =
    let take : BoardEntry = entry number calls.Take (replies.Took (took.Idle 0)) in
    let cut = run_cut start Step May front (take ∷ between) state run in
    let next : State = cut.leads.0 in
    let step : IsIdle cut.state 0 × (next ≡ cut.state) = cut.leads.1 in
    stays-through (front ++ take ∷ []) between next state
    (run_more start Step May front cut.state next take cut.run cut.allowed.0 step)
    cut.allowed.1 cut.leads.2 none (same-state cut.state next (idle-settled cut.state step.0) step.1)
