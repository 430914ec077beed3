-- A worker's seat, as a desk's.
use Rattle.std.specs.Prelude.{◌≡◌, ℕ, [], ◌∷◌, All, Bool, true, false, count_by, Option, Some, None}
use Rattle.receiver_workers.specs.declared.calls.Taken.{Taken}
use Rattle.receiver_workers.specs.declared.calls.Taken.TheVariants as taken
use Rattle.receiver_workers.specs.declared.calls.SeatCall.{SeatCall}
use Rattle.receiver_workers.specs.declared.calls.SeatCall.TheVariants as worker_calls
use Rattle.map_board.specs.declared.calls.Took.{Took}
use Rattle.map_board.specs.declared.calls.Took.TheVariants as took
use Rattle.map_board.specs.declared.calls.BoardCall.{BoardCall}
use Rattle.map_board.specs.declared.calls.BoardCall.TheVariants as calls
use Rattle.map_board.specs.declared.calls.BoardReply.{BoardReply}
use Rattle.map_board.specs.declared.calls.BoardReply.TheVariants as replies
use Rattle.map_board.specs.Views.{Job, Answer}
use Rattle.map_board.specs.Seats.{Entries}
use Rattle.map_lock.specs.Seats.{BoardSeat}
use Rattle.map_lock.specs.Settling.{is_give_back}
use Rattle.map_lock.specs.Turns.{HasActed}

-- what a worker is told of a take
abbrev pub taken_of : Took → Taken Job
taken_of (took.Job job) = taken.Job job
taken_of (took.Idle count) = taken.Idle
taken_of took.Finished = taken.Finished

-- an entry as a worker's call with its answer, if it is one
abbrev pub seat_call : BoardCall → BoardReply → Option (SeatCall Job Answer)
seat_call calls.Take (replies.Took took) = Some (worker_calls.Take (taken_of took))
seat_call (calls.Offer answer) reply = Some (worker_calls.Offer answer)
seat_call (calls.GiveBack job) reply = Some (worker_calls.GiveBack job)
seat_call call reply = None

abbrev pub last_from : Option (SeatCall Job Answer) → Entries → Option (SeatCall Job Answer)
last_from last [] = last
last_from last (e ∷ es) = last_from (seat_call e.call e.reply) es

-- the last entry as a worker's call
abbrev pub last_call : Entries → Option (SeatCall Job Answer)
last_call mine = last_from None mine

-- how many jobs were given back
abbrev pub give_backs : Entries → ℕ
give_backs mine = count_by (λ e. is_give_back e.call) mine

-- takes, offers and give-backs
abbrev pub is_work : BoardCall → Bool
is_work calls.Take = true
is_work (calls.Offer answer) = true
is_work (calls.GiveBack job) = true
is_work call = false

-- The seat before became the seat after by takes, offers and give-backs of its own, none or many.
pub record Follows (before after : BoardSeat) : Type 0 where
  pub own : Entries
  pub acted : HasActed before own after
  pub kinds : All (λ e. is_work e.call ≡ true) own
