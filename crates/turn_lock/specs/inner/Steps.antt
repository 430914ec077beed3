-- The kinds of step: what each does to the view of the seat that makes it, and what the seat is told.
use Rattle.std.specs.Prelude.{◌≡◌, ◌≢◌, ℕ, ◌+◌, ◌-◌, ◌<◌, ◌≤◌, List, [], ◌∷◌, ◌++◌, map, length, All, AllPairs, Contains, Option, Some, None, if◌then◌else◌, nat_lt, max}
use Rattle.atomic_table.specs.Table.{Me, Step, rest}
use Rattle.turn_lock.specs.declared.entry.Entry.{Entry}
use Rattle.turn_lock.specs.declared.view.View.{View}
use Rattle.turn_lock.specs.declared.view.Phase.{Phase}
use Rattle.turn_lock.specs.declared.view.Phase.TheVariants.{Free, Waiting, InTurn}
use Rattle.turn_lock.specs.History.{Begins, entries_of, IsRun, IsLegal, StepRelation, Permission}
use Rattle.turn_lock.specs.Standing.{all_parts, longer}
use Rattle.turn_lock.specs.inner.Rule.{claims}

module _ {C R : Type 0} where
  abbrev pub in_phase : Phase → View C R → View C R
  in_phase phase v = record v { phase = phase }

  -- the history so far was seen, and this ticket is served
  abbrev pub in_turn : ℕ → List (Entry C R) → ℕ → View C R → View C R
  in_turn ticket history bound v = record v { seen = history; bound = bound; beside = []; phase = InTurn ticket }

  -- the entries were made, and the turn is over
  abbrev pub with_entries : List (Entry C R) → View C R → View C R
  with_entries added v = record v { seen = v.seen ++ added; mine = v.mine ++ added; phase = Free }

  abbrev pub with_name : ℕ → View C R → View C R
  with_name number v = record v { name = Some number; bound = number + 1 }

  -- a split leaves one part less, and gives the new seat that part, all that was seen, and no number yet
  abbrev pub with_part_less : View C R → View C R
  with_part_less v = record v { parts = v.parts - 1 }

  abbrev pub unnamed : View C R → View C R
  unnamed v = record {
    name = None;
    seen = v.seen;
    mine = [];
    parts = 1;
    joined = [];
    bound = v.bound;
    beside = [];
    phase = Free;
  }

  -- the shorter of the two lists, where `longer` gives the other
  abbrev pub shorter : List (Entry C R) → List (Entry C R) → List (Entry C R)
  shorter xs ys = if nat_lt (length xs) (length ys) then xs else ys

  -- a join gives the one view all that the other has, and leaves that one spent
  abbrev pub merged : View C R → View C R → View C R
  merged v w = record {
    name = v.name;
    seen = longer v.seen w.seen;
    mine = v.mine;
    parts = v.parts + w.parts;
    joined = v.joined ++ claims w;
    bound = max v.bound w.bound;
    beside = shorter v.seen w.seen;
    phase = v.phase;
  }

  abbrev pub spent : View C R
  spent = record { name = None; seen = []; mine = []; parts = 0; joined = []; bound = 0; beside = []; phase = Free }

  -- the numbers that a view has
  abbrev pub names : View C R → List ℕ
  names v = map (λ j. j.number) (claims v)

module _ {S C R : Type 0} (start : S) (steps : StepRelation S C R) (may : Permission C R) where
  -- what follows from the rule for one view alone
  pub record Knows (v : View C R) : Type 0 where
    pub legal : IsLegal start steps may v.seen
    pub names_differ : AllPairs ◌≢◌ (names v)
    pub done_seen : All (λ j. entries_of j.number v.seen ≡ j.mine) (claims v)
    pub none_else : v.parts ≡ all_parts → All (λ e. Contains (names v) e.number) v.seen
    pub some_parts : v.parts ≤ all_parts
    pub without_part : v.parts ≡ 0 → claims v ≡ []
    pub numbers_below : All (λ j. j.number < v.bound) (claims v)
    pub entries_below : All (λ e. e.number < v.bound) v.seen
    pub beside : Begins v.beside v.seen

module _ {M C R : Type 0} where
  -- draw: the ticket was found as expected, and is the seat's; or nothing changed
  abbrev pub Draws : Step (Option M) → Me (Option M) (View C R) → ℕ → Me (Option M) (View C R) → Type 0
  Draws step before found after =
      (found ≡ step.first → after ≡ (in_phase (Waiting found) before.0, before.1))
      × (found ≢ step.first → after ≡ before)

-- its turn has come: it has seen the history so far, which has of its numbers what it did, and it holds the slot, in
-- which this value is; the machine is at the run of that history
pub record HasTurn {M S C R : Type 0} (state : M → S) (start : S) (steps : StepRelation S C R) (may : Permission C R)
    (ticket : ℕ) (before : Me (Option M) (View C R)) (machine : M) (slot : Option M)
    (after : Me (Option M) (View C R)) : Type 0 where
  pub history : List (Entry C R)
  pub bound : ℕ
  pub me : after ≡ (in_turn ticket history bound before.0, (0, slot) ∷ before.1)
  pub seen : Begins before.0.seen history
  pub done : All (λ j. entries_of j.number history ≡ j.mine) (claims before.0)
  pub run : IsRun start steps may history (state machine)

module _ {M S C R : Type 0} (state : M → S) (start : S) (steps : StepRelation S C R) (may : Permission C R) where
  -- load served: where the seat's ticket is served it has the machine, at the run of the history, which it has seen;
  -- else nothing changed
  pub record Serves (step : Step (Option M)) (before : Me (Option M) (View C R)) (found : ℕ)
      (after : Me (Option M) (View C R)) : Type 0 where
    pub served : before.0.phase ≡ Waiting found
        → (machine : M) × HasTurn state start steps may found before machine (Some machine) after
    pub others : (ticket : ℕ) → before.0.phase ≡ Waiting ticket → found ≢ ticket → after ≡ before

  -- pass on: the entries join the history, the machine is back in its slot, and the next ticket is served
  abbrev pub PassesOn : List (Entry C R) → Step (Option M) → Me (Option M) (View C R) → ℕ
      → Me (Option M) (View C R) → Type 0
  PassesOn added step before found after =
      (after ≡ (with_entries added before.0, rest before.1)) × Knows start steps may after.0

  -- number: the number was found as expected, and is the seat's; or nothing changed
  abbrev pub Numbers : Step (Option M) → Me (Option M) (View C R) → ℕ → Me (Option M) (View C R) → Type 0
  Numbers step before found after =
      (found ≡ step.first
      → (after ≡ (with_name found before.0, before.1)) × (before.0.bound ≤ found) × Knows start steps may after.0)
      × (found ≢ step.first → after ≡ before)

  -- look: nothing changed, and the seat is told what it knows
  abbrev pub Looks : Step (Option M) → Me (Option M) (View C R) → ℕ → Me (Option M) (View C R) → Type 0
  Looks step before found after = (after ≡ before) × Knows start steps may after.0
