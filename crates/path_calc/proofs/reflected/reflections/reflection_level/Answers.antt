use Rattle.std.proofs.Common.{rules}
use Rattle.std.specs.Int.{w128}
use Rattle.std.proofs.Math.Facts.{to_z-of_z}
use Rattle.path_calc.specs.Contributions.{reflection_level}
use Rattle.path_calc.proofs.Bounds.{ratio-positive, level-reflected}
use Rattle.path_calc.proofs.reflected.reflections.reflection_level.Goals as goal

pub lg-requires : goal.lg-requires
lg-requires c =
    let into = to_z-of_z {w = w128} {z = c.into.result} (search rules) in
    rw (c.ratio.ensures, into, c.into.ensures) (ratio-positive c.args.rho c.requires.reflects c.requires.no_more)

pub returns-clause-bounds : goal.returns-clause-bounds
unfolding reflection_level
returns-clause-bounds c = λ strong.
    let into = to_z-of_z {w = w128} {z = c.into.result} (search rules) in
    rw (c.mul.ensures, c.exact.ensures, c.lg.ensures.value, c.ratio.ensures, into, c.into.ensures) (level-reflected c.args.rho strong c.requires.no_more)
