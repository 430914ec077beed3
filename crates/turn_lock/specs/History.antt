-- Histories: the calls of a machine in the order in which it answered them.
use Rattle.std.specs.Prelude.{◌≡◌, ℕ, ◌==◌, List, [], ◌∷◌, ◌++◌, filter}
use Rattle.turn_lock.specs.declared.entry.Entry.{Entry}

-- the second list begins with the first
pub record Begins {X : Type 0} (front all : List X) : Type 0 where
  pub rest : List X
  pub is : all ≡ front ++ rest

-- what the seat of this number did, in its order
abbrev pub entries_of : {C R : Type 0} → ℕ → List (Entry C R) → List (Entry C R)
entries_of number history = filter (λ e. e.number == number) history

-- one answered call
abbrev pub entry : {C R : Type 0} → ℕ → C → R → Entry C R
entry number call reply = record { number = number; call = call; reply = reply }

-- what a machine may do: of the state before, the call, the reply and the state after
abbrev pub StepRelation : Type 0 → Type 0 → Type 0 → Type 1
StepRelation S C R = S → C → R → S → Type 0

-- what a seat may ask: of its number, its own entries so far, and the call
abbrev pub Permission : Type 0 → Type 0 → Type 1
Permission C R = ℕ → List (Entry C R) → C → Type 0

-- the entries, one after another, lead from the first state to the second
abbrev pub Leads : {S C R : Type 0} → StepRelation S C R → S → List (Entry C R) → S → Type 0
Leads steps from [] to = from ≡ to
Leads {S} steps from (e ∷ es) to = (next : S) × steps from e.call e.reply next × Leads steps next es to

-- after the entries `before`, each further entry is one that its seat may ask, by the seat's own entries before it
abbrev pub EachAllowed : {C R : Type 0} → Permission C R → List (Entry C R) → List (Entry C R) → Type 0
EachAllowed may before [] = Unit {0}
EachAllowed may before (e ∷ es) =
    may e.number (entries_of e.number before) e.call × EachAllowed may (before ++ e ∷ []) es

-- the history is a run of the machine, from its start to this state, in which each seat asked only what it may
pub record IsRun {S C R : Type 0} (start : S) (steps : StepRelation S C R) (may : Permission C R)
    (history : List (Entry C R)) (state : S) : Type 0 where
  pub allowed : EachAllowed may [] history
  pub leads : Leads steps start history state

-- the history is legal: it is a run that ends in some state
abbrev pub IsLegal : {S C R : Type 0} → S → StepRelation S C R → Permission C R → List (Entry C R) → Type 0
IsLegal {S} start steps may history = (state : S) × IsRun start steps may history state

-- after every run a call that its seat may ask is one that the machine can answer
abbrev pub Lawful : {S C R : Type 0} → S → StepRelation S C R → (S → C → Type 0) → Permission C R → Type 0
Lawful {S} {C} {R} start steps can may =
    (history : List (Entry C R)) (state : S) (number : ℕ) (call : C)
    → IsRun start steps may history state → may number (entries_of number history) call → can state call
