-- What a seat owes: jobs come in at the end of a list, and go off it again.
use Rattle.std.specs.Prelude.{◌≡◌, List, [], ◌∷◌, ◌++◌, All}
use Rattle.receiver_workers.specs.declared.calls.Taken.{Taken}
use Rattle.receiver_workers.specs.declared.calls.Taken.TheVariants.{Job, Idle, Finished}

-- the job that a take answered, if it answered one
abbrev pub job_in : {J : Type 0} → Taken J → List J
job_in (Job job) = job ∷ []
job_in Idle = []
job_in Finished = []

-- the last item of which P holds is taken off the list
pub record LosesLast {X : Type 0} (P : X → Type 0) (before after : List X) : Type 0 where
  pub front : List X
  pub item : X
  pub back : List X
  pub before_is : before ≡ front ++ item ∷ back
  pub item_fits : P item
  pub none_behind : All (λ x. P x → ⊥) back
  pub after_is : after ≡ front ++ back
