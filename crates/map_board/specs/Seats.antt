-- What each seat may ask of a board that several share.
use Rattle.std.specs.Prelude.{◌≡◌, ℕ, Bool, ◌&&◌, ◌==◌, not, bytes_eq, List, [], ◌∷◌, ◌++◌, filter, Contains}
use Rattle.turn_lock.specs.declared.entry.Entry.{Entry}
use Rattle.map_board.specs.declared.calls.Took.TheVariants as took
use Rattle.map_board.specs.declared.calls.BoardCall.{BoardCall}
use Rattle.map_board.specs.declared.calls.BoardCall.TheVariants as calls
use Rattle.map_board.specs.declared.calls.BoardReply.{BoardReply}
use Rattle.map_board.specs.declared.calls.BoardReply.TheVariants as replies
use Rattle.map_board.specs.Views.{Job}
use Rattle.map_board.specs.Jobs.{Answers}

abbrev pub Entries : Type 0
Entries = List (Entry BoardCall BoardReply)

-- a job is of a version and of the receiver of a name
abbrev pub is_of : ℕ → List ℕ → Job → Bool
is_of version name job = job.version == version && bytes_eq job.receiver.name name

abbrev pub without_job : ℕ → List ℕ → List Job → List Job
without_job version name jobs = filter (λ job. not (is_of version name job)) jobs

-- the jobs that a seat owes after one more call of its own: a take adds its job, and what is offered or given back is
-- no longer owed
abbrev pub owed_after : List Job → BoardCall → BoardReply → List Job
owed_after jobs calls.Take (replies.Took (took.Job job)) = jobs ++ job ∷ []
owed_after jobs (calls.Offer answer) reply = without_job answer.version answer.receiver.name jobs
owed_after jobs (calls.GiveBack job) reply = without_job job.version job.receiver.name jobs
owed_after jobs call reply = jobs

abbrev pub owed_from : List Job → Entries → List Job
owed_from jobs [] = jobs
owed_from jobs (e ∷ es) = owed_from (owed_after jobs e.call e.reply) es

-- the jobs that a seat owes, by its own entries, in the order of their takes
abbrev pub owed : Entries → List Job
owed mine = owed_from [] mine

-- the number of the editor's seat
abbrev pub editor : ℕ
editor = 0

-- Edits and Finish are the editor's. An answer that is offered answers a job that the seat owes, and a job that is
-- given back is one of those
abbrev pub May : ℕ → Entries → BoardCall → Type 0
May number mine (calls.Edit edit) = number ≡ editor
May number mine calls.Finish = number ≡ editor
May number mine (calls.Offer answer) = (job : Job) × Contains (owed mine) job × Answers job answer
May number mine (calls.GiveBack job) = Contains (owed mine) job
May number mine call = Unit {0}
