use Rattle.path_shape.proofs.Lengths.{direct-square, reflected-square}
use Rattle.path_shape.proofs.laws.plan_squares_are_close.Goals as goal

pub returns-clause-direct : goal.returns-clause-direct
returns-clause-direct c = direct-square

pub returns-clause-reflected : goal.returns-clause-reflected
returns-clause-reflected c = reflected-square
