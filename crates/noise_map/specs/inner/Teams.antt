-- The editor and the workers of a run, as its own functions see them.
use Rattle.std.specs.Prelude.{◌≡◌, ℕ, ◌+◌, ◌≤◌, List, [], ◌∷◌, ◌++◌, length, All, sum_by, flat_map}
use Rattle.atomic_table.specs.Seated.{TableId}
use Rattle.turn_lock.specs.declared.entry.Joined.{Joined}
use Rattle.turn_lock.specs.History.{Begins}
use Rattle.turn_lock.specs.Standing.{all_parts}
use Rattle.map_board.specs.declared.calls.BoardCall.{BoardCall}
use Rattle.map_board.specs.declared.calls.BoardReply.{BoardReply}
use Rattle.map_lock.specs.Seats.{BoardSeat, IsEditor}
use Rattle.noise_map.specs.declared.run.team.Team.{Team}
use Rattle.noise_map.specs.Histories.{HasEnded}

-- a worker's seat of which nothing is done
pub record IsFresh (lock : TableId) (seat : BoardSeat) : Type 0 where
  pub table : seat.table ≡ lock
  pub parts : seat.parts ≡ 1
  pub mine : seat.mine ≡ []
  pub joined : seat.joined ≡ []

-- a worker's seat whose worker has ended
pub record IsBack (lock : TableId) (seat : BoardSeat) : Type 0 where
  pub table : seat.table ≡ lock
  pub parts : seat.parts ≡ 1
  pub joined : seat.joined ≡ []
  pub ended : HasEnded seat.mine

-- the editor's seat before anything is done, beside so many workers
pub record IsBeginner (lock : TableId) (workers : ℕ) (seat : BoardSeat) : Type 0 where
  pub sound : IsEditor seat
  pub table : seat.table ≡ lock
  pub seen : seat.seen ≡ []
  pub mine : seat.mine ≡ []
  pub joined : seat.joined ≡ []
  pub parts : seat.parts + workers ≡ all_parts

-- so many of the workers have come
pub record IsGathering (lock : TableId) (count : ℕ) (editor : BoardSeat) (workers : List BoardSeat) : Type 0 where
  pub begins : IsBeginner lock (length workers) editor
  pub fresh : All (IsFresh lock) workers
  pub few : length workers ≤ count

-- a team of so many workers
pub record IsGathered (count : ℕ) (team : Team) : Type 0 where
  pub editor : IsBeginner team.lock count team.editor
  pub workers : All (IsFresh team.lock) team.workers.items
  pub all : length team.workers.items ≡ count

-- what a seat brings to the one that it is joined into
abbrev pub brought : BoardSeat → List (Joined BoardCall BoardReply)
brought seat = record { number = seat.number; mine = seat.mine } ∷ seat.joined

-- the seats were joined into the editor's, which is else as before and may see more
pub record HasJoined (before : BoardSeat) (others : List BoardSeat) (after : BoardSeat) : Type 0 where
  pub sound : IsEditor after
  pub seen : Begins before.seen after.seen
  pub mine : after.mine ≡ before.mine
  pub table : after.table ≡ before.table
  pub parts : after.parts ≡ before.parts + sum_by (λ seat. seat.parts) others
  pub joined : after.joined ≡ before.joined ++ flat_map brought others

-- as many seats were joined into the editor's, each of whose workers has ended
pub record HasJoinedAll (lock : TableId) (before : BoardSeat) (count : ℕ) (after : BoardSeat) : Type 0 where
  pub others : List BoardSeat
  pub joins : HasJoined before others after
  pub back : All (IsBack lock) others
  pub all : length others ≡ count
