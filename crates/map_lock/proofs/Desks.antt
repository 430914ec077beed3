-- A worker's calls, as a desk says them.
use Rattle.std.proofs.Common.{◌≡◌, ℕ, true, ◌++◌, refl, sym, ap, ◌∙◌, subst}
use Rattle.std.specs.Prelude.{Contains, Some, [], ◌∷◌}
use Rattle.std.specs.List.{Any}
use Rattle.std.proofs.lemmas.List.{append-nil}
use Rattle.std.proofs.lemmas.List.Elements.{All-nil, All-cons}
use Rattle.receiver_workers.specs.declared.calls.SeatCall.TheVariants as worker_calls
use Rattle.receiver_workers.specs.Owing.{job_in, LosesLast}
use Rattle.turn_lock.specs.History.{entry}
use Rattle.map_board.specs.declared.answers.Landed.{Landed}
use Rattle.map_board.specs.declared.calls.Took.{Took}
use Rattle.map_board.specs.declared.calls.Took.TheVariants as took
use Rattle.map_board.specs.declared.calls.BoardCall.{BoardCall}
use Rattle.map_board.specs.declared.calls.BoardCall.TheVariants as calls
use Rattle.map_board.specs.declared.calls.BoardReply.{BoardReply}
use Rattle.map_board.specs.declared.calls.BoardReply.TheVariants as replies
use Rattle.map_board.specs.Jobs.{Answers}
use Rattle.map_board.specs.Views.{Job, Answer}
use Rattle.map_board.specs.Seats.{Entries, May, is_of, without_job, owed}
use Rattle.scene_parts.specs.Parts.{Receiver}
use Rattle.map_lock.specs.Seats.{BoardSeat, BoardEntry, IsSeat}
use Rattle.map_lock.specs.Turns.{HasTurned}
use Rattle.map_lock.specs.Working.{Follows, is_work, taken_of, last_call}
use Rattle.map_lock.proofs.Apart.{loses-last, of-itself}
use Rattle.map_lock.proofs.Entries.{owed-snoc, last-snoc}
use Rattle.map_lock.proofs.Owing.{seat-apart}
use Rattle.map_lock.proofs.Turning.{acted-once}

module _ (before after : BoardSeat) where
  -- a turn by a take, an offer or a give-back
  pub follows-turned : (call : BoardCall) (reply : BoardReply) → is_work call ≡ true → HasTurned before call reply after
      → Follows before after
  follows-turned call reply work turned = record {
    own = entry before.number call reply ∷ [];
    acted = acted-once before after call reply turned;
    kinds = All-cons (λ (e : BoardEntry). is_work e.call ≡ true) (entry before.number call reply) [] work
        (All-nil (λ (e : BoardEntry). is_work e.call ≡ true));
  }

  pub last-take : (took : Took) → HasTurned before calls.Take (replies.Took took) after
      → last_call after.mine ≡ Some (worker_calls.Take (taken_of took))
  last-take took turned = last-snoc before.mine after.mine (entry before.number calls.Take (replies.Took took))
      turned.called.mine

  pub owes-take : (took : Took) → HasTurned before calls.Take (replies.Took took) after
      → owed after.mine ≡ owed before.mine ++ job_in (taken_of took)
  owes-take (took.Job job) turned =
      owed-snoc before.mine after.mine (entry before.number calls.Take (replies.Took (took.Job job))) turned.called.mine
  owes-take (took.Idle count) turned =
      owed-snoc before.mine after.mine (entry before.number calls.Take (replies.Took (took.Idle count))) turned.called.mine
      ∙ sym (append-nil (owed before.mine))
  owes-take took.Finished turned =
      owed-snoc before.mine after.mine (entry before.number calls.Take (replies.Took took.Finished)) turned.called.mine
      ∙ sym (append-nil (owed before.mine))

  pub last-offer : (answer : Answer) (landed : Landed) → HasTurned before (calls.Offer answer) (replies.Landed landed) after
      → last_call after.mine ≡ Some (worker_calls.Offer answer)
  last-offer answer landed turned =
      last-snoc before.mine after.mine (entry before.number (calls.Offer answer) (replies.Landed landed)) turned.called.mine

  -- all jobs that an answer answers are of one version and receiver
  answered-alike : (answer : Answer) (job other : Job) → Answers job answer → Answers other answer
      → is_of job.version job.receiver.name other ≡ true
  answered-alike answer job other a b =
      ap (λ v. is_of v job.receiver.name other) (sym a.version ∙ b.version)
      ∙ (ap (λ (r : Receiver). is_of other.version r.name other) (sym a.receiver ∙ b.receiver) ∙ of-itself other)

  pub loses-offer : (answer : Answer) (landed : Landed) → IsSeat before → Any (λ job. Answers job answer) (owed before.mine)
      → HasTurned before (calls.Offer answer) (replies.Landed landed) after
      → LosesLast (λ job. Answers job answer) (owed before.mine) (owed after.mine)
  loses-offer answer landed sound any turned =
      let job : Job = any.1 in
      let answers : Answers job answer = any.4 in
      let off : without_job job.version job.receiver.name (owed before.mine) ≡ owed after.mine =
      ap (λ v. without_job v job.receiver.name (owed before.mine)) (sym answers.version)
      ∙ (ap (λ (r : Receiver). without_job answer.version r.name (owed before.mine)) (sym answers.receiver)
      ∙ sym (owed-snoc before.mine after.mine (entry before.number (calls.Offer answer) (replies.Landed landed))
      turned.called.mine)) in
      subst (LosesLast (λ job. Answers job answer) (owed before.mine)) off
      (loses-last (λ job. Answers job answer) (owed before.mine) job (seat-apart before sound) (any.0, any.2, any.3) answers
      (λ other fits. answered-alike answer job other answers fits))

  pub last-give-back : (job : Job) → HasTurned before (calls.GiveBack job) replies.Done after
      → last_call after.mine ≡ Some (worker_calls.GiveBack job)
  last-give-back job turned = last-snoc before.mine after.mine
      (entry before.number (calls.GiveBack job) replies.Done) turned.called.mine

  pub loses-give-back : (job : Job) → IsSeat before → Contains (owed before.mine) job
      → HasTurned before (calls.GiveBack job) replies.Done after
      → LosesLast (λ other. other ≡ job) (owed before.mine) (owed after.mine)
  loses-give-back job sound there turned =
      subst (LosesLast (λ other. other ≡ job) (owed before.mine))
      (sym (owed-snoc before.mine after.mine (entry before.number (calls.GiveBack job) replies.Done) turned.called.mine))
      (loses-last (λ other. other ≡ job) (owed before.mine) job (seat-apart before sound) there refl
      (λ other same. subst (λ (o : Job). is_of job.version job.receiver.name o ≡ true) (sym same) (of-itself job)))

-- an answer to a job that is owed may be offered
pub may-offer-any : (number : ℕ) (mine : Entries) (answer : Answer) → Any (λ job. Answers job answer) (owed mine)
    → May number mine (calls.Offer answer)
may-offer-any number mine answer any = (any.1, (any.0, any.2, any.3), any.4)
