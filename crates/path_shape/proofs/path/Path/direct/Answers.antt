use Rattle.path_shape.proofs.Lengths.{direct-zero-or-more}
use Rattle.path_shape.proofs.path.Path.direct.Goals as goal

pub returns-clause-least : goal.returns-clause-least
returns-clause-least c = rw c.plan_length.ensures (direct-zero-or-more c.args.s c.args.r)
