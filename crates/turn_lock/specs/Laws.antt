-- What a lock's callers conclude from a history: how its last entry came about, how it runs through any place in it,
-- and what holds at its end.
use Rattle.std.specs.Prelude.{◌≡◌, ℕ, List, [], ◌∷◌, ◌++◌, All}
use Rattle.turn_lock.specs.declared.entry.Entry.{Entry}
use Rattle.turn_lock.specs.History.{Leads, EachAllowed, IsRun, entries_of, StepRelation, Permission}

-- The last entry was asked after a run of what came before it, by a seat that might ask it, and the machine's step led
-- to its reply.
pub record HasLastStep {S C R : Type 0} (start : S) (steps : StepRelation S C R) (may : Permission C R)
    (before : List (Entry C R)) (last : Entry C R) (after : S) : Type 0 where
  pub state : S
  pub run : IsRun start steps may before state
  pub allowed : may last.number (entries_of last.number before) last.call
  pub step : steps state last.call last.reply after

-- a run with an entry at its end
abbrev pub LastStep : {S C R : Type 0} → S → StepRelation S C R → Permission C R → Type 0
LastStep {S} {C} {R} start steps may =
    (before : List (Entry C R)) (last : Entry C R) (after : S)
    → IsRun start steps may (before ++ last ∷ []) after → HasLastStep start steps may before last after

-- A run goes through a state between its front and its back: the front is a run to there, and the back leads on from
-- there, by entries that their seats might ask.
pub record RunsBetween {S C R : Type 0} (start : S) (steps : StepRelation S C R) (may : Permission C R)
    (front back : List (Entry C R)) (after : S) : Type 0 where
  pub state : S
  pub run : IsRun start steps may front state
  pub allowed : EachAllowed may front back
  pub leads : Leads steps state back after

-- a run cut at any place
abbrev pub RunThrough : {S C R : Type 0} → S → StepRelation S C R → Permission C R → Type 0
RunThrough {S} {C} {R} start steps may =
    (front back : List (Entry C R)) (after : S)
    → IsRun start steps may (front ++ back) after → RunsBetween start steps may front back after

-- a fact of states that each allowed step keeps, after any run, where its entry is of some kind
abbrev pub IsKeptByEach : {S C R : Type 0} → S → StepRelation S C R → Permission C R
    → (Entry C R → Type 0) → (S → Type 0) → Type 0
IsKeptByEach {S} {C} {R} start steps may OfKind Holds =
    (history : List (Entry C R)) (before after : S) (e : Entry C R)
    → IsRun start steps may history before → may e.number (entries_of e.number history) e.call
    → steps before e.call e.reply after
    → OfKind e → Holds before → Holds after

-- What holds after the front of a run, and is kept by each entry behind it, holds at the end.
abbrev pub KeptWhere : {S C R : Type 0} → S → StepRelation S C R → Permission C R
    → (Entry C R → Type 0) → (S → Type 0) → Type 0
KeptWhere {S} {C} {R} start steps may OfKind Holds =
    IsKeptByEach start steps may OfKind Holds
    → (front back : List (Entry C R)) (between after : S)
    → IsRun start steps may front between → EachAllowed may front back → Leads steps between back after
    → All OfKind back → Holds between → Holds after

-- Where a front and the whole list have the same entries of a number, none of that number stands behind the front.
abbrev pub BetweenNone : (C R : Type 0) → Type 0
BetweenNone C R =
    (number : ℕ) (front between : List (Entry C R))
    → entries_of number (front ++ between) ≡ entries_of number front → entries_of number between ≡ []
