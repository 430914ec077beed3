-- How the calls of a settle add up.
use Rattle.std.proofs.Common.{◌≡◌, ◌≢◌, ℕ, true, false, cond, List, [], ◌∷◌, ◌++◌, refl, sym, ap, ◌∙◌, subst, arith, append_assoc}
use Rattle.std.specs.Prelude.{All, Contains, Result, Ok, Err, not}
use Rattle.std.proofs.lemmas.List.Elements.{All-nil, All-cons, All-head, All-tail, All-append, All-weaker}
use Rattle.turn_lock.specs.History.{IsRun, entries_of, entry}
use Rattle.turn_lock.proofs.Histories.{entries_of-append}
use Rattle.std.proofs.lemmas.List.{append-nil}
use Rattle.map_board.specs.declared.answers.Landed.{Landed}
use Rattle.map_board.specs.declared.calls.Took.TheVariants as took
use Rattle.map_board.specs.declared.calls.BoardCall.{BoardCall}
use Rattle.map_board.specs.declared.calls.BoardCall.TheVariants as calls
use Rattle.map_board.specs.declared.calls.BoardReply.{BoardReply}
use Rattle.map_board.specs.declared.calls.BoardReply.TheVariants as replies
use Rattle.map_board.specs.declared.looks.LookAll.{LookAll}
use Rattle.scene_parts.specs.declared.memory.NoMemory.{NoMemory}
use Rattle.map_board.specs.Rows.{start}
use Rattle.map_board.specs.Jobs.{Answers}
use Rattle.map_board.specs.Machine.{Step}
use Rattle.map_board.specs.Views.{Job, Answer}
use Rattle.map_board.specs.Seats.{Entries, May, is_of, without_job, owed, editor}
use Rattle.map_lock.specs.Seats.{BoardSeat, BoardEntry, IsSeat, counts_after, counts_from, counts_seen}
use Rattle.map_lock.specs.Turns.{HasTurned, HasActed}
use Rattle.map_lock.specs.Settling.{HasNotFinished, IsSettled, is_settling, is_finish, is_look, IsQuiet, HasWorkedOff, HasWorkedQuietly, HasWorkedUnseen, HasSettled}
use Rattle.map_lock.specs.Acting.{acted-none, acted-more}
use Rattle.map_lock.proofs.Apart.{of-itself}
use Rattle.map_lock.proofs.Entries.{owed-snoc}
use Rattle.map_lock.proofs.Finishing.{unfinished}
use Rattle.map_lock.proofs.Staying.{settled-since-idle}
use Rattle.map_lock.proofs.Turning.{acted-once}

abbrev Settles : BoardEntry → Type 0
Settles e = is_settling e.call ≡ true

abbrev Unseen : BoardEntry → Type 0
Unseen e = is_look e.reply ≡ false

abbrev Unfinishing : BoardEntry → Type 0
Unfinishing e = is_finish e.call ≡ false

-- ---- several calls and further ones

abbrev pub worked-more : (first second third : BoardSeat) (xs ys : Entries) → HasWorkedOff first xs second
    → HasActed second ys third
    → All Settles ys → owed third.mine ≡ [] → HasWorkedOff first (xs ++ ys) third
worked-more first second third xs ys worked acted kinds free = record {
  acted = acted-more first second third xs ys worked.acted acted;
  kinds = All-append Settles xs ys worked.kinds kinds;
  free = free;
}

pub quiet-none : (seat : BoardSeat) → owed seat.mine ≡ [] → HasWorkedQuietly seat seat
quiet-none seat free = record {
  own = [];
  worked = record { acted = acted-none seat; kinds = All-nil Settles; free = free };
  quiet = All-nil IsQuiet;
}

-- ---- one call more

one : (P : BoardEntry → Type 0) (e : BoardEntry) → P e → All P (e ∷ [])
one P e holds = All-cons P e [] holds (All-nil P)

-- an idle take
pub quiet-idle : (first before after : BoardSeat) (count : ℕ) → HasWorkedQuietly first before
    → HasTurned before calls.Take (replies.Took (took.Idle count)) after → HasWorkedQuietly first after
quiet-idle first before after count so-far turned =
    let e : BoardEntry = entry before.number calls.Take (replies.Took (took.Idle count)) in record {
      own = so-far.own ++ e ∷ [];
      worked = worked-more first before after so-far.own (e ∷ []) so-far.worked
          (acted-once before after calls.Take (replies.Took (took.Idle count)) turned)
          (one Settles e refl) (owed-snoc before.mine after.mine e turned.called.mine ∙ so-far.worked.free);
      quiet = All-append IsQuiet so-far.own (e ∷ []) so-far.quiet (one IsQuiet e (record { kind = refl; no_look = refl }));
    }

-- a take of a job is the one that is owed then
pub owed-taken : (before after : BoardSeat) (job : Job) → owed before.mine ≡ []
    → HasTurned before calls.Take (replies.Took (took.Job job)) after → owed after.mine ≡ job ∷ []
owed-taken before after job free turned =
    owed-snoc before.mine after.mine (entry before.number calls.Take (replies.Took (took.Job job))) turned.called.mine
    ∙ ap (λ jobs. jobs ++ job ∷ []) free

-- without the only job there is none
off-one : (version : ℕ) (name : List ℕ) (job : Job) → is_of version name job ≡ true → without_job version name (job ∷ []) ≡ []
off-one version name job is = ap (λ b. cond (not b) (job ∷ []) []) is

answered-of : (job : Job) (answer : Answer) → Answers job answer → is_of answer.version answer.receiver.name job ≡ true
answered-of job answer answers =
    ap (λ v. is_of v answer.receiver.name job) answers.version
    ∙ (ap (λ (r : Rattle.scene_parts.specs.Parts.Receiver). is_of job.version r.name job) answers.receiver ∙ of-itself job)

-- an offer of the only job
pub quiet-offer : (before after : BoardSeat) (job : Job) (answer : Answer) (landed : Landed) → owed before.mine ≡ job ∷ []
    → Answers job answer → HasTurned before (calls.Offer answer) (replies.Landed landed) after → HasWorkedQuietly before after
quiet-offer before after job answer landed owes answers turned =
    let e : BoardEntry = entry before.number (calls.Offer answer) (replies.Landed landed) in record {
      own = e ∷ [];
      worked = record {
        acted = acted-once before after (calls.Offer answer) (replies.Landed landed) turned;
        kinds = one Settles e refl;
        free =
            owed-snoc before.mine after.mine e turned.called.mine
            ∙ (ap (without_job answer.version answer.receiver.name) owes
            ∙ off-one answer.version answer.receiver.name job (answered-of job answer answers));
      };
      quiet = one IsQuiet e (record { kind = refl; no_look = refl });
    }

-- a give-back of the only job
pub unseen-back : (before after : BoardSeat) (job : Job) → owed before.mine ≡ job ∷ []
    → HasTurned before (calls.GiveBack job) replies.Done after → HasWorkedUnseen before after
unseen-back before after job owes turned =
    let e : BoardEntry = entry before.number (calls.GiveBack job) replies.Done in record {
      own = e ∷ [];
      worked = record {
        acted = acted-once before after (calls.GiveBack job) replies.Done turned;
        kinds = one Settles e refl;
        free =
            owed-snoc before.mine after.mine e turned.called.mine
            ∙ (ap (without_job job.version job.receiver.name) owes ∙ off-one job.version job.receiver.name job (of-itself job));
      };
      unseen = one Unseen e refl;
    }

-- what may be offered, and given back
pub may-offer : (number : ℕ) (mine : Entries) (job : Job) (answer : Answer) → owed mine ≡ job ∷ [] → Answers job answer
    → May number mine (calls.Offer answer)
may-offer number mine job answer owes answers =
    (job, subst (λ jobs. Contains jobs job) (sym owes) (0, omega arith, refl), answers)

pub may-give-back : (number : ℕ) (mine : Entries) (job : Job) → owed mine ≡ job ∷ [] → May number mine (calls.GiveBack job)
may-give-back number mine job owes = subst (λ jobs. Contains jobs job) (sym owes) (0, omega arith, refl)

-- entries with one among them are some
not-none : (front : Entries) (e : BoardEntry) (more : Entries) → front ++ e ∷ more ≢ []
not-none [] e more none = cc
not-none (first ∷ front) e more none = cc

-- ---- a whole job

module _ (first before taken after : BoardSeat) (job : Job) (so-far : HasWorkedQuietly first before)
    (turned : HasTurned before calls.Take (replies.Took (took.Job job)) taken) where
  abbrev take : BoardEntry
  take = entry before.number calls.Take (replies.Took (took.Job job))

  acted-job : (ys : Entries) → HasActed taken ys after → HasActed before (take ∷ [] ++ ys) after
  acted-job ys acted = acted-more before taken after (take ∷ []) ys
      (acted-once before taken calls.Take (replies.Took (took.Job job)) turned) acted

  pub quiet-job : HasWorkedQuietly taken after → HasWorkedQuietly first after
  quiet-job done = record {
    own = so-far.own ++ (take ∷ [] ++ done.own);
    worked = worked-more first before after so-far.own (take ∷ [] ++ done.own) so-far.worked
        (acted-job done.own done.worked.acted)
        (All-append Settles (take ∷ []) done.own (one Settles take refl) done.worked.kinds) done.worked.free;
    quiet = All-append IsQuiet so-far.own (take ∷ [] ++ done.own) so-far.quiet
        (All-append IsQuiet (take ∷ []) done.own (one IsQuiet take (record { kind = refl; no_look = refl })) done.quiet);
  }

  pub unseen-job : (want : NoMemory) → HasWorkedUnseen taken after → HasSettled first (Err want) after
  unseen-job want done = record {
    own = so-far.own ++ (take ∷ [] ++ done.own);
    worked = worked-more first before after so-far.own (take ∷ [] ++ done.own) so-far.worked
        (acted-job done.own done.worked.acted)
        (All-append Settles (take ∷ []) done.own (one Settles take refl) done.worked.kinds) done.worked.free;
    ends = record {
      tried = not-none so-far.own take done.own;
      unseen = All-append Unseen so-far.own (take ∷ [] ++ done.own)
          (All-weaker IsQuiet Unseen (λ e quiet. quiet.no_look) so-far.own so-far.quiet)
          (All-append Unseen (take ∷ []) done.own (one Unseen take refl) done.unseen);
    };
  }

-- ---- the last look

module _ (first before idle after : BoardSeat) (number : first.number ≡ editor) (so-far : HasWorkedQuietly first before)
    (idled : HasTurned before calls.Take (replies.Took (took.Idle 0)) idle) where
  quiet-now : HasWorkedQuietly first idle
  quiet-now = quiet-idle first before idle 0 so-far idled

  look-entry : Result LookAll NoMemory → BoardEntry
  look-entry result = entry idle.number calls.Look (replies.Looked result)

  abbrev worked-look : (result : Result LookAll NoMemory) → HasTurned idle calls.Look (replies.Looked result) after
      → HasWorkedOff first (quiet-now.own ++ entry idle.number calls.Look (replies.Looked result) ∷ []) after
  worked-look result turned =
      let e : BoardEntry = entry idle.number calls.Look (replies.Looked result) in
      worked-more first idle after quiet-now.own (e ∷ []) quiet-now.worked
      (acted-once idle after calls.Look (replies.Looked result) turned) (one Settles e refl)
      (owed-snoc idle.mine after.mine e turned.called.mine ∙ quiet-now.worked.free)

  settled-met : (result : Result LookAll NoMemory) (turned : HasTurned idle calls.Look (replies.Looked result) after)
      → IsSettled turned.met
  settled-met result turned =
      let take : BoardEntry = entry before.number calls.Take (replies.Took (took.Idle 0)) in
      let history : idle.seen ++ turned.called.between ≡ (before.seen ++ idled.called.between) ++ take ∷ turned.called.between =
      ap (λ l. l ++ turned.called.between) idled.called.seen
      ∙ append_assoc (before.seen ++ idled.called.between) (take ∷ []) turned.called.between in
      let own : idle.number ≡ editor = quiet-now.worked.acted.number ∙ number in
      settled-since-idle (before.seen ++ idled.called.between) turned.called.between before.number turned.met
      (subst (λ (l : Entries). IsRun start Step May l turned.met) history turned.run)
      (subst (λ n. entries_of n turned.called.between ≡ []) own turned.called.others)

  pub looked : (result : Result LookAll NoMemory) → HasTurned idle calls.Look (replies.Looked result) after
      → HasSettled first result after
  looked (Ok look) turned =
      let same : idle.number ≡ first.number = quiet-now.worked.acted.number in
      let e : BoardEntry = entry idle.number calls.Look (replies.Looked (Ok look)) in
      let others : Entries = quiet-now.worked.acted.between ++ turned.called.between in
      record {
        own = quiet-now.own ++ e ∷ [];
        worked = worked-look (Ok look) turned;
        ends = record {
          front = quiet-now.own;
          own_is = ap (λ n. quiet-now.own ++ entry n calls.Look (replies.Looked (Ok look)) ∷ []) same;
          quiet = quiet-now.quiet;
          others = others;
          between_is =
              sym (append_assoc quiet-now.worked.acted.between turned.called.between (e ∷ []))
              ∙ ap (λ n. others ++ entry n calls.Look (replies.Looked (Ok look)) ∷ []) same;
          state = turned.met;
          run = subst (λ (l : Entries). IsRun start Step May l turned.met)
              (ap (λ l. l ++ turned.called.between) quiet-now.worked.acted.seen
              ∙ append_assoc first.seen quiet-now.worked.acted.between turned.called.between) turned.run;
          settled = settled-met (Ok look) turned;
          shown = turned.step.0;
        };
      }
  looked (Err want) turned =
      let e : BoardEntry = entry idle.number calls.Look (replies.Looked (Err want)) in record {
        own = quiet-now.own ++ e ∷ [];
        worked = worked-look (Err want) turned;
        ends = record {
          tried = not-none quiet-now.own e [];
          unseen = All-append Unseen quiet-now.own (e ∷ [])
              (All-weaker IsQuiet Unseen (λ x quiet. quiet.no_look) quiet-now.own quiet-now.quiet)
              (one Unseen e refl);
        };
      }

-- ---- never finished

settles-on : (call : BoardCall) → is_settling call ≡ true → is_finish call ≡ false
settles-on calls.Take kind = refl
settles-on (calls.Offer answer) kind = refl
settles-on (calls.GiveBack job) kind = refl
settles-on calls.Look kind = refl
settles-on (calls.Edit edit) kind = refl
settles-on calls.Finish kind = absurd (cc)

still-unfinished : (first before : BoardSeat) → HasNotFinished first.mine → HasWorkedQuietly first before
    → HasNotFinished before.mine
still-unfinished first before not so-far =
    subst (λ (l : Entries). All Unfinishing l) (sym so-far.worked.acted.mine)
    (All-append Unfinishing first.mine so-far.own not
    (All-weaker Settles Unfinishing (λ e kind. settles-on e.call kind) so-far.own so-far.worked.kinds))

pub never-finished : (first before after : BoardSeat) → first.number ≡ editor → HasNotFinished first.mine
    → HasWorkedQuietly first before
    → IsSeat before → HasTurned before calls.Take (replies.Took took.Finished) after → ⊥
never-finished first before after number not so-far sound turned =
    let own : before.number ≡ editor = so-far.worked.acted.number ∙ number in
    let none : entries_of editor turned.called.between ≡ [] =
    subst (λ n. entries_of n turned.called.between ≡ []) own turned.called.others in
    let mine : entries_of editor (before.seen ++ turned.called.between) ≡ before.mine =
    entries_of-append editor before.seen turned.called.between
    ∙ (ap (λ l. entries_of editor before.seen ++ l) none
    ∙ (append-nil (entries_of editor before.seen)
    ∙ subst (λ n. entries_of n before.seen ≡ before.mine) own sound.own_entries)) in
    not-both (sym (unfinished (before.seen ++ turned.called.between) before.mine turned.met turned.run mine
    (still-unfinished first before not so-far)) ∙ turned.step.0) where
      not-both : false ≡ true → ⊥
      not-both h = cc

-- ---- the counts that are shown

counts-unseen-one : (counts : List ℕ) (reply : BoardReply) → is_look reply ≡ false → counts_after counts reply ≡ counts
counts-unseen-one counts (replies.Edited r) unseen = refl
counts-unseen-one counts (replies.Took t) unseen = refl
counts-unseen-one counts replies.Done unseen = refl
counts-unseen-one counts (replies.Landed l) unseen = refl
counts-unseen-one counts (replies.Looked (Ok look)) unseen = absurd (cc)
counts-unseen-one counts (replies.Looked (Err want)) unseen = refl

counts-through : (counts : List ℕ) (xs ys : Entries) → counts_from counts (xs ++ ys) ≡ counts_from (counts_from counts xs) ys
counts-through counts [] ys = refl
counts-through counts (x ∷ xs) ys = counts-through (counts_after counts x.reply) xs ys

counts-unseen : (counts : List ℕ) (own : Entries) → All Unseen own → counts_from counts own ≡ counts
counts-unseen counts [] unseen = refl
counts-unseen counts (e ∷ es) unseen =
    ap (λ c. counts_from c es) (counts-unseen-one counts e.reply (All-head Unseen e es unseen))
    ∙ counts-unseen counts es (All-tail Unseen e es unseen)

-- a settle that was answered shows the counts of its look, and else none
pub settled-counts : (before after : BoardSeat) (result : Result LookAll NoMemory) → HasSettled before result after
    → counts_seen after.mine ≡ counts_after (counts_seen before.mine) (replies.Looked result)
settled-counts before after (Ok look) settled =
    let last : BoardEntry = entry before.number calls.Look (replies.Looked (Ok look)) in
    let four : List ℕ = 0 ∷ 0 ∷ 0 ∷ 0 ∷ [] in
    ap counts_seen (settled.worked.acted.mine ∙ ap (λ l. before.mine ++ l) settled.ends.own_is)
    ∙ (counts-through four before.mine (settled.ends.front ++ last ∷ [])
    ∙ counts-through (counts_from four before.mine) settled.ends.front (last ∷ []))
settled-counts before after (Err want) settled =
    let four : List ℕ = 0 ∷ 0 ∷ 0 ∷ 0 ∷ [] in
    ap counts_seen settled.worked.acted.mine
    ∙ (counts-through four before.mine settled.own ∙ counts-unseen (counts_from four before.mine) settled.own settled.ends.unseen)
