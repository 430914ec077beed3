use Rattle.std.proofs.Common.{arith}
use Rattle.std.specs.Int.{w128}
use Rattle.std.proofs.lemmas.Int.{to_z_pos}
use Rattle.term_ground.proofs.Decaying.{ratio-low}
use Rattle.term_ground.proofs.decays.decay.Goals as goal

pub exp_neg-requires : goal.exp_neg-requires
exp_neg-requires c =
    rw (c.ratio.ensures, to_z_pos w128 c.args.p (omega arith)) (ratio-low c.args.p _ c.requires.numerator)
