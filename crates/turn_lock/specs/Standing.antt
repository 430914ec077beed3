-- What callers see of a seat, and how each call changes it.
use Rattle.std.specs.Prelude.{◌≡◌, ◌≢◌, ℕ, ◌+◌, ◌^◌, ◌<◌, ◌≤◌, List, [], ◌∷◌, ◌++◌, map, length, All, AllPairs, Contains, unwrap_or, if◌then◌else◌, nat_lt}
use Rattle.atomic_table.specs.Seated.{TableId}
use Rattle.turn_lock.specs.declared.entry.Entry.{Entry}
use Rattle.turn_lock.specs.declared.entry.Joined.{Joined}
use Rattle.turn_lock.specs.declared.view.View.{View}
use Rattle.turn_lock.specs.History.{IsLegal, entries_of, entry, StepRelation, Permission}

-- a seat: whose it is, its number, the history that it has seen, its own entries, its parts of the right to know the
-- whole, and the seats that were joined into it
pub record Standing (C R : Type 0) : Type 0 where
  pub table : TableId
  pub number : ℕ
  pub seen : List (Entry C R)
  pub mine : List (Entry C R)
  pub parts : ℕ
  pub joined : List (Joined C R)

-- how a seat at this table is seen, of which the proofs know so much
abbrev pub standing : {C R : Type 0} → TableId → View C R → Standing C R
standing table known = record {
  table = table;
  number = unwrap_or known.name 0;
  seen = known.seen;
  mine = known.mine;
  parts = known.parts;
  joined = known.joined;
}

-- all parts together
abbrev pub all_parts : ℕ
all_parts = 2 ^ 64

-- the numbers under which a seat knows what was done: its own, and those joined into it
abbrev pub numbers_of : {C R : Type 0} → Standing C R → List ℕ
numbers_of seat = seat.number ∷ map (λ j. j.number) seat.joined

-- what holds of every seat
pub record SeatIsSound {S C R : Type 0} (start : S) (steps : StepRelation S C R) (may : Permission C R)
    (seat : Standing C R) : Type 0 where
  -- it has seen a legal history
  pub legal : IsLegal start steps may seat.seen
  -- the numbers joined differ from each other and from its own
  pub numbers_differ : AllPairs ◌≢◌ (numbers_of seat)
  -- the entries of its own number in `seen` are its own
  pub own_entries : entries_of seat.number seat.seen ≡ seat.mine
  -- the entries of a joined number in `seen` are those beside that number
  pub joined_entries : All (λ j. entries_of j.number seat.seen ≡ j.mine) seat.joined
  -- it has a part at least, and all of them at most
  pub some_part : 1 ≤ seat.parts
  pub few_parts : seat.parts ≤ all_parts
  -- with all parts, every entry of `seen` is of its own number or of a joined one
  pub none_else : seat.parts ≡ all_parts → All (λ e. Contains (numbers_of seat) e.number) seat.seen

-- the first seat of a lock, which has all parts, and nothing was done yet
abbrev pub first_standing : {C R : Type 0} → TableId → Standing C R
first_standing table = record { table = table; number = 0; seen = []; mine = []; parts = all_parts; joined = [] }

-- a number above all that the seat knows
pub record IsNew {C R : Type 0} (number : ℕ) (seat : Standing C R) : Type 0 where
  pub above_numbers : All (λ n. n < number) (numbers_of seat)
  pub above_entries : All (λ e. e.number < number) seat.seen

-- a new seat of the same lock: a number of its own, one part, it sees what the old one sees, and has done nothing
abbrev pub newcomer : {C R : Type 0} → ℕ → Standing C R → Standing C R
newcomer number seat = record {
  table = seat.table;
  number = number;
  seen = seat.seen;
  mine = [];
  parts = 1;
  joined = [];
}

-- the longer of two lists
abbrev pub longer : {X : Type 0} → List X → List X → List X
longer xs ys = if nat_lt (length xs) (length ys) then ys else xs

-- the seat takes in another, with its parts and all that was joined into it, and sees the longer of the two lists
abbrev pub taken_in : {C R : Type 0} → Standing C R → Standing C R → Standing C R
taken_in seat other = record {
  table = seat.table;
  number = seat.number;
  seen = longer seat.seen other.seen;
  mine = seat.mine;
  parts = seat.parts + other.parts;
  joined = seat.joined ++ record { number = other.number; mine = other.mine } ∷ other.joined;
}

-- the seat made this one call more: it saw what others alone did in between, and then its own entry, at the end
pub record HasCalled {C R : Type 0} (before : Standing C R) (call : C) (reply : R) (after : Standing C R) : Type 0 where
  pub between : List (Entry C R)
  pub others : entries_of before.number between ≡ []
  pub seen : after.seen ≡ (before.seen ++ between) ++ entry before.number call reply ∷ []
  pub mine : after.mine ≡ before.mine ++ entry before.number call reply ∷ []
  pub table : after.table ≡ before.table
  pub number : after.number ≡ before.number
  pub parts : after.parts ≡ before.parts
  pub joined : after.joined ≡ before.joined
