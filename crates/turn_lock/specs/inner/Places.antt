-- What the lock's own functions ask of a seat at its table, and what they leave.
use Rattle.std.specs.Prelude.{◌≡◌, ℕ, ◌≤◌, [], ◌∷◌, Option, Some, None}
use Rattle.atomic_table.specs.Table.{Me}
use Rattle.atomic_table.specs.declared.shared.Seat.{Seat}
use Rattle.turn_lock.specs.declared.view.View.{View}
use Rattle.turn_lock.specs.declared.view.Phase.TheVariants.{Free, Waiting, InTurn}
use Rattle.turn_lock.specs.History.{IsRun, StepRelation, Permission}
use Rattle.turn_lock.specs.inner.Steps.{in_phase, with_name, Knows}

-- a seat between two calls: it has a number, waits for nothing, holds nothing, and knows what the rule says of it
pub record IsSeated {M S C R : Type 0} (start : S) (steps : StepRelation S C R) (may : Permission C R)
    (me : Me (Option M) (View C R)) : Type 0 where
  pub number : ℕ
  pub name : me.0.name ≡ Some number
  pub free : me.0.phase ≡ Free
  pub empty : me.1 ≡ []
  pub knows : Knows start steps may me.0

-- the same seat of the same table
abbrev pub IsSamePlace : {S V : Type 0} → Seat S V → Seat S V → Type 0
IsSamePlace before after = (after.table_id ≡ before.table_id) × (after.id ≡ before.id)

-- a seat that a split just made
pub record IsUnnamed {M C R : Type 0} (me : Me (Option M) (View C R)) : Type 0 where
  pub name : me.0.name ≡ None
  pub parts : me.0.parts ≡ 1
  pub mine : me.0.mine ≡ []
  pub joined : me.0.joined ≡ []
  pub free : me.0.phase ≡ Free
  pub empty : me.1 ≡ []

-- it drew a number, which is at least the bound that it was made with
pub record HasDrawn {M S C R : Type 0} (start : S) (steps : StepRelation S C R) (may : Permission C R)
    (before after : Me (Option M) (View C R)) : Type 0 where
  pub number : ℕ
  pub me : after ≡ (with_name number before.0, before.1)
  pub above : before.0.bound ≤ number
  pub knows : Knows start steps may after.0

-- it waits with this ticket
abbrev pub IsWaiting : {M C R : Type 0} → ℕ → Me (Option M) (View C R) → Me (Option M) (View C R) → Type 0
IsWaiting ticket before after = after ≡ (in_phase (Waiting ticket) before.0, before.1)

-- it may end its turn with this entry
pub record MayEnd {M S C R : Type 0} (state : M → S) (start : S) (steps : StepRelation S C R) (may : Permission C R)
    (ticket : ℕ) (call : C) (reply : R) (machine : M) (me : Me (Option M) (View C R)) : Type 0 where
  pub number : ℕ
  pub name : me.0.name ≡ Some number
  pub phase : me.0.phase ≡ InTurn ticket
  pub slot : me.1 ≡ (0, None) ∷ []
  pub allowed : may number me.0.mine call
  pub before : M
  pub run : IsRun start steps may me.0.seen (state before)
  pub step : steps (state before) call reply (state machine)

-- it has a number, waits for nothing and holds nothing
pub record IsFree {M C R : Type 0} (me : Me (Option M) (View C R)) : Type 0 where
  pub number : ℕ
  pub name : me.0.name ≡ Some number
  pub phase : me.0.phase ≡ Free
  pub empty : me.1 ≡ []

-- it has a number and waits with this ticket, and holds nothing
pub record Waits {M C R : Type 0} (ticket : ℕ) (me : Me (Option M) (View C R)) : Type 0 where
  pub number : ℕ
  pub name : me.0.name ≡ Some number
  pub phase : me.0.phase ≡ Waiting ticket
  pub empty : me.1 ≡ []
