-- The rule between steps: what is true of the words, the slot and all views whenever no step is under way.
-- It follows from its counts that the tickets of two views differ, that the tickets out are as many as from the one
-- served to the last one drawn, that one view at most is in turn, and that no two views have a number in common.
use Rattle.std.specs.Prelude.{◌≡◌, ℕ, ◌<◌, ◌≤◌, ◌⊎◌, ◌==◌, List, [], ◌∷◌, ◌++◌, length, All, Option, Some, None, sum_by, count_by, if◌then◌else◌}
use mathlib.Core.Option.{Option as Maybe, none, some}
use lib.ListN.{get_elem?}
use Rattle.atomic_table.specs.Table.{State}
use Rattle.turn_lock.specs.declared.entry.Entry.{Entry}
use Rattle.turn_lock.specs.declared.entry.Joined.{Joined}
use Rattle.turn_lock.specs.declared.view.View.{View}
use Rattle.turn_lock.specs.declared.view.Phase.{Phase}
use Rattle.turn_lock.specs.declared.view.Phase.TheVariants.{Free, Waiting, InTurn}
use Rattle.turn_lock.specs.History.{Begins, entries_of, IsRun, IsLegal, StepRelation, Permission}
use Rattle.turn_lock.specs.Standing.{all_parts}

-- n is 1 where x is one of low, low + 1, .., high - 1, and else 0
abbrev pub IsOneWithin : ℕ → ℕ → ℕ → ℕ → Type 0
IsOneWithin low high x n = (low ≤ x → x < high → n ≡ 1) × (x < low → n ≡ 0) × (high ≤ x → n ≡ 0)

-- 1 where the two numbers are the same, and else 0
abbrev pub one_if_same : ℕ → ℕ → ℕ
one_if_same m n = if m == n then 1 else 0

-- how often a seat in this phase has the ticket: once or not at all
abbrev pub tickets_in : ℕ → Phase → ℕ
tickets_in ticket Free = 0
tickets_in ticket (Waiting mine) = one_if_same mine ticket
tickets_in ticket (InTurn mine) = one_if_same mine ticket

-- 1 where a seat in this phase has the machine, and else 0
abbrev pub machines_in : Phase → ℕ
machines_in Free = 0
machines_in (Waiting _) = 0
machines_in (InTurn _) = 1

module _ {C R : Type 0} where
  abbrev pub own_claim : Option ℕ → List (Entry C R) → List (Joined C R)
  own_claim None mine = []
  own_claim (Some number) mine = record { number = number; mine = mine } ∷ []

  -- the numbers that a view has, each beside what was done under it: its own, and those joined into it
  abbrev pub claims : View C R → List (Joined C R)
  claims v = own_claim v.name v.mine ++ v.joined

  -- how often a view has the ticket, has the number, has the machine
  abbrev pub tickets : ℕ → View C R → ℕ
  tickets ticket v = tickets_in ticket v.phase

  abbrev pub uses : ℕ → View C R → ℕ
  uses number v = count_by (λ j. j.number == number) (claims v)

  abbrev pub machines : View C R → ℕ
  machines v = machines_in v.phase

  abbrev pub parts_of : View C R → ℕ
  parts_of v = v.parts

  -- what is true of one view, where this is the history and all numbers in use are below `next`
  pub record Fits (history : List (Entry C R)) (next : ℕ) (v : View C R) : Type 0 where
    -- it has seen a beginning of the history
    pub seen : Begins v.seen history
    -- what was done under its numbers is all that the history has of them, and it has seen all of that
    pub done : All (λ j. entries_of j.number history ≡ j.mine) (claims v)
    pub done_seen : All (λ j. entries_of j.number v.seen ≡ j.mine) (claims v)
    -- without a number it has done nothing, and waits for nothing
    pub unnamed : v.name ≡ None → (v.mine ≡ []) × (v.joined ≡ []) × (v.phase ≡ Free)
    -- in turn it has the ticket that is served, and has seen the whole history
    pub in_turn : (ticket : ℕ) → v.phase ≡ InTurn ticket → (ticket ≡ length history) × (v.seen ≡ history)
    -- all numbers that it knows are below its bound
    pub bound : v.bound ≤ next
    pub numbers_below : All (λ j. j.number < v.bound) (claims v)
    pub entries_below : All (λ e. e.number < v.bound) v.seen
    pub beside : Begins v.beside v.seen
    -- without a part it is spent, and knows nothing
    pub spent : v.parts ≡ 0 → (claims v ≡ []) × (v.seen ≡ [])

module _ {M S C R : Type 0} (state : M → S) (start : S) (steps : StepRelation S C R) (may : Permission C R) where
  -- the slot is out while a view has the machine, and else it holds a machine at the run of the history
  abbrev pub FitsSlot : List (Maybe (Option M)) → List (Entry C R) → ℕ → Type 0
  FitsSlot homes history count =
      ((homes ≡ none ∷ []) × (count ≡ 1))
      ⊎ ((machine : M) × (homes ≡ some (Some machine) ∷ [])
      × IsRun start steps may history (state machine) × (count ≡ 0))

  pub record IsKept (table : State (Option M) (View C R)) : Type 0 where
    pub history : List (Entry C R)
    -- the next ticket to be drawn, and the next number
    pub drawn : ℕ
    pub next : ℕ
    -- the words are the next ticket, the ticket that is served, which is the length of the history, and the next number
    pub words : table.words ≡ drawn ∷ length history ∷ next ∷ []
    pub served : length history ≤ drawn
    pub legal : IsLegal start steps may history
    -- some view has seen the whole history
    pub known : (seat : ℕ) × (v : View C R) × (get_elem? table.views seat ≡ some v) × (v.seen ≡ history)
    -- each ticket from the one served to the last one drawn is with one view, and there are no others
    pub tickets_out : (ticket : ℕ) → IsOneWithin (length history) drawn ticket (sum_by (tickets ticket) table.views)
    -- each number below the next one is with one view, and there are no others
    pub numbers_out : (number : ℕ) → IsOneWithin 0 next number (sum_by (uses number) table.views)
    pub parts_out : sum_by parts_of table.views ≡ all_parts
    pub slot : FitsSlot table.homes history (sum_by machines table.views)
    pub each_fits : (seat : ℕ) (v : View C R) → get_elem? table.views seat ≡ some v → Fits history next v

-- the view of the first seat
abbrev pub first_view : {C R : Type 0} → View C R
first_view = record {
  name = Some 0;
  seen = [];
  mine = [];
  parts = all_parts;
  joined = [];
  bound = 1;
  beside = [];
  phase = Free;
}
