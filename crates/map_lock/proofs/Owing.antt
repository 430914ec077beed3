-- What a worker's seat owes, along the history that it has seen.
use Rattle.std.proofs.Common.{◌≡◌, ℕ, Bool, true, false, cond, eqb, List, [], ◌∷◌, ◌++◌, length, refl, sym, ap, ◌∙◌, subst, append_assoc, Some, None, ◌⊎◌, inl, inr}
use Rattle.std.specs.Prelude.{Contains, is_some, IsSome, not, ◌&&◌}
use Rattle.std.proofs.lemmas.List.{append-nil}
use Rattle.std.proofs.lemmas.List.Elements.{All-contains_itself, All-weaker}
use Rattle.turn_lock.specs.History.{IsRun, EachAllowed, Leads, entries_of}
use Rattle.turn_lock.proofs.Histories.{run_none, run_more}
use Rattle.map_board.specs.declared.calls.Took.TheVariants as took
use Rattle.map_board.specs.declared.calls.BoardCall.{BoardCall}
use Rattle.map_board.specs.declared.calls.BoardCall.TheVariants as calls
use Rattle.map_board.specs.declared.calls.BoardReply.{BoardReply}
use Rattle.map_board.specs.declared.calls.BoardReply.TheVariants as replies
use Rattle.map_board.specs.Views.{Job}
use Rattle.map_board.specs.Journal.{names, first_naming}
use Rattle.map_board.specs.Rows.{Row, State, start, row_named, is_out, shown_of, is_current}
use Rattle.map_board.specs.Jobs.{MayReturn, IsOutFor}
use Rattle.map_board.specs.Machine.{Step, TakesJob}
use Rattle.map_board.specs.Seats.{Entries, May, is_of, owed_after, owed}
use Rattle.map_board.proofs.Journals.{none-after}
use Rattle.map_board.proofs.Lawful.{board-is-lawful}
use Rattle.map_board.proofs.Owing.{owed-more}
use Rattle.map_lock.specs.Seats.{BoardSeat, IsSeat}
use Rattle.map_lock.proofs.Apart.{AreApart, apart-push, apart-filter, is-of}

not-both : false ≡ true → ⊥
not-both h = cc

-- a needy row is not out
needy-not-out : (a b : Bool) → (a && not b) ≡ true → b ≡ true → ⊥
needy-not-out true true needy out = not-both needy
needy-not-out true false needy out = not-both out
needy-not-out false b needy out = not-both needy

same-some : (row other : Row) → Some row ≡ Some other → row ≡ other
same-some row other e = cc

-- what is owed is of another version or receiver than what is taken now
away : (state after : State) (job other : Job) → TakesJob state job after
    → MayReturn state.journal state.rows other.version other.receiver → is_of other.version other.receiver.name job ≡ false
away state after job other takes may = go (is_of other.version other.receiver.name job) refl where
  go : (test : Bool) → is_of other.version other.receiver.name job ≡ test → is_of other.version other.receiver.name job ≡ false
  go false e = e
  go true e = absurd (awaits may.awaited) where
    same : (job.version ≡ other.version) × (job.receiver.name ≡ other.receiver.name)
    same = is-of other.version other.receiver.name job e

    newest : other.version ≡ length state.journal
    newest = sym same.0 ∙ takes.version

    none : first_naming state.journal other.version other.receiver.name ≡ None
    none = ap (λ v. first_naming state.journal v other.receiver.name) newest
        ∙ none-after (names other.receiver.name) state.journal

    awaits : IsSome (first_naming state.journal other.version other.receiver.name) ⊎ IsOutFor state.rows
        other.version other.receiver → ⊥
    awaits (inl some) = not-both (sym (ap is_some none) ∙ some)
    awaits (inr out) =
        let row : out.row ≡ takes.row =
        same-some out.row takes.row (sym out.found ∙ (ap (λ n. row_named n state.rows) (sym same.1) ∙ takes.named)) in
        needy-not-out (not (is_current (shown_of state.journal takes.row))) (is_out takes.row) takes.needy
        (ap is_out (sym row) ∙ ap is_some out.out)

-- one entry more of the seat's own
apart-after : (state after : State) (jobs : List Job) (call : BoardCall) (reply : BoardReply)
    → ((job : Job) → Contains jobs job → MayReturn state.journal state.rows job.version job.receiver)
    → Step state call reply after → AreApart jobs → AreApart (owed_after jobs call reply)
apart-after state after jobs calls.Take (replies.Took (took.Job job)) may step apart =
    apart-push jobs job apart
    (All-weaker (Contains jobs) (λ other. is_of other.version other.receiver.name job ≡ false)
    (λ other there. away state after job other step (may other there)) jobs (All-contains_itself jobs))
apart-after state after jobs calls.Take (replies.Took (took.Idle count)) may step apart = apart
apart-after state after jobs calls.Take (replies.Took took.Finished) may step apart = apart
apart-after state after jobs calls.Take (replies.Edited r) may step apart = apart
apart-after state after jobs calls.Take replies.Done may step apart = apart
apart-after state after jobs calls.Take (replies.Landed l) may step apart = apart
apart-after state after jobs calls.Take (replies.Looked r) may step apart = apart
apart-after state after jobs (calls.Offer answer) reply may step apart =
    apart-filter (λ job. not (is_of answer.version answer.receiver.name job)) jobs apart
apart-after state after jobs (calls.GiveBack job) reply may step apart =
    apart-filter (λ other. not (is_of job.version job.receiver.name other)) jobs apart
apart-after state after jobs (calls.Edit edit) reply may step apart = apart
apart-after state after jobs calls.Finish reply may step apart = apart
apart-after state after jobs calls.Look reply may step apart = apart

own-or-not : (jobs after : List Job) (own : Bool) → AreApart jobs → AreApart after → AreApart (cond own after jobs)
own-or-not jobs after true apart more = more
own-or-not jobs after false apart more = apart

module _ (number : ℕ) where
  abbrev owes : Entries → List Job
  owes history = owed (entries_of number history)

  apart-from : (front es : Entries) (from to : State) → IsRun start Step May front from → EachAllowed May front es
      → Leads Step from es to → AreApart (owes front) → AreApart (owes (front ++ es))
  apart-from front [] from to run allowed leads apart = subst (λ l. AreApart (owes l)) (sym (append-nil front)) apart
  apart-from front (e ∷ es) from to run allowed leads apart =
      let more : AreApart (owes (front ++ e ∷ [])) =
      subst AreApart (sym (owed-more front e number))
      (own-or-not (owes front) (owed_after (owes front) e.call e.reply) (eqb e.number number) apart
      (apart-after from leads.0 (owes front) e.call e.reply
      (λ job there. (board-is-lawful front from number (calls.GiveBack job) run there).0) leads.1 apart)) in
      subst (λ l. AreApart (owes l)) (append_assoc front (e ∷ []) es)
      (apart-from (front ++ e ∷ []) es leads.0 to (run_more start Step May front from leads.0 e run allowed.0 leads.1)
      allowed.1 leads.2 more)

-- the jobs that a seat owes are of different versions or receivers
pub seat-apart : (seat : BoardSeat) → IsSeat seat → AreApart (owed seat.mine)
seat-apart seat sound =
    subst (λ mine. AreApart (owed mine)) sound.own_entries
    (apart-from seat.number [] seat.seen start sound.legal.0 (run_none start Step May) sound.legal.1.allowed
    sound.legal.1.leads tt)
