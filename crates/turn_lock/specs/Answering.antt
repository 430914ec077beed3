-- A closure that takes the place of a machine's step for one call.
use Rattle.turn_lock.specs.History.{StepRelation}
use Rattle.std.specs.Borrow.{MutBor}
use Rattle.std.specs.Fn.{Once}

-- from every state in which the call can be answered, f may be called;
-- what it answers and leaves is a step for the call
pub record AnswersAs {F M S C R : Type 0}
    (g : Once F (MutBor M × (C × Unit {0})) (R × (MutBor M × Unit {0}))) (state : M → S)
    (can : S → C → Type 0) (steps : StepRelation S C R) (f : F) (call : C) : Type 0 where
  pub may_be_called : (machine : MutBor M) → can (state machine.now) call → g.pre f (machine, (call, tt))
  pub makes_a_step : (machine left : MutBor M) (reply : R) → can (state machine.now) call
      → g.post f (machine, (call, tt)) (reply, (left, tt)) → steps (state machine.now) call reply (state left.now)
