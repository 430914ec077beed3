use Rattle.std.proofs.Common.{List, subst, sym}
use Rattle.std.specs.Prelude.{ℕ}
use Rattle.edge_chain.specs.declared.hand.Hand.TheVariants.{Left, Right}
use Rattle.path_calc.specs.inner.Strings.{IsStretched, corners_at}
use Rattle.path_calc.proofs.lateral.strings.Strings.clear.Goals as goal

pub returns-clause-stretched : goal.returns-clause-stretched
returns-clause-stretched c = λ ends obstacles. record {
  left = subst (λ (ns : List ℕ). IsStretched c.clear-3.new.self ends obstacles (corners_at obstacles ns) Left) (sym c.clear.ensures.items) (c.clear-3.ensures.stretched ends obstacles Left);
  right = subst (λ (ns : List ℕ). IsStretched c.clear-4.new.self ends obstacles (corners_at obstacles ns) Right) (sym c.clear.ensures.items) (c.clear-4.ensures.stretched ends obstacles Right);
}

pub returns-clause-measured : goal.returns-clause-measured
returns-clause-measured c = λ ends d. record { left = c.clear-3.ensures.measured ends d; right = c.clear-4.ensures.measured ends d }
