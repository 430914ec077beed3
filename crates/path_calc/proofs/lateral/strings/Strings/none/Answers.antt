use Rattle.std.proofs.Common.{List, subst, sym}
use Rattle.std.specs.Prelude.{ℕ}
use Rattle.edge_chain.specs.declared.hand.Hand.TheVariants.{Left, Right}
use Rattle.path_calc.specs.inner.Strings.{IsStretched, corners_at}
use Rattle.path_calc.proofs.lateral.strings.Strings.none.Goals as goal

pub returns-clause-stretched : goal.returns-clause-stretched
returns-clause-stretched c = λ ends obstacles. record {
  left = subst (λ (ns : List ℕ). IsStretched c.none.result ends obstacles (corners_at obstacles ns) Left) (sym c.new.ensures.items) (c.none.ensures.stretched ends obstacles Left);
  right = subst (λ (ns : List ℕ). IsStretched c.none-2.result ends obstacles (corners_at obstacles ns) Right) (sym c.new.ensures.items) (c.none-2.ensures.stretched ends obstacles Right);
}

pub returns-clause-measured : goal.returns-clause-measured
returns-clause-measured c = λ ends d. record { left = c.none.ensures.measured ends d; right = c.none-2.ensures.measured ends d }
