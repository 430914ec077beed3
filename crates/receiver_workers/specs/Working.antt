-- What a worker leaves of its seat.
use Rattle.std.specs.Prelude.{◌≡◌, ◌↔◌, ℕ, ◌+◌, List, Option, Some}
use Rattle.receiver_workers.specs.declared.calls.Taken.TheVariants.{Finished}
use Rattle.receiver_workers.specs.declared.calls.SeatCall.{SeatCall}
use Rattle.receiver_workers.specs.declared.calls.SeatCall.TheVariants.{Take, GiveBack}
use Rattle.receiver_workers.specs.declared.ended.Ended.{Ended}
use Rattle.receiver_workers.specs.declared.ended.Ended.TheVariants.{Stopped, NoMemory}

-- a seat's last call is the give-back of a job that a solve handed back
pub record IsGiveBack {Job Answer Back : Type 0} (of : Back → Job)
    (last : Option (SeatCall Job Answer)) : Type 0 where
  pub handed_back : Back
  pub last_is : last ≡ Some (GiveBack (of handed_back))

-- how many jobs a worker gives back until it ends so
abbrev pub given_back : Ended → ℕ
given_back Stopped = 0
given_back NoMemory = 1

module _ {Seat Job Answer Back : Type 0} (Fits : Seat → Type 0) (Follows : Seat → Seat → Type 0)
    (owed_by : Seat → List Job) (last_of : Seat → Option (SeatCall Job Answer))
    (backs_of : Seat → ℕ) (of : Back → Job) where
  -- A worker had the seat, and ended so. It leaves the seat owing what it owed before, so each job
  -- that it took was offered or given back; and it gave back none, or one by its last call.
  pub record HasWorked (before : Seat) (ended : Ended) (after : Seat) : Type 0 where
    pub fits : Fits after
    pub follows : Follows before after
    pub owed : owed_by after ≡ owed_by before
    pub backs : backs_of after ≡ backs_of before + given_back ended
    pub stopped : (ended ≡ Stopped) ↔ (last_of after ≡ Some (Take Finished))
    pub no_memory : (ended ≡ NoMemory) ↔ IsGiveBack of (last_of after)

  -- a worker had the seat, and ended in one way or the other
  pub record Worked (before after : Seat) : Type 0 where
    pub ended : Ended
    pub worked : HasWorked before ended after
