use Rattle.std.proofs.Common.{rules}
use Rattle.std.specs.Int.{w32}
use Rattle.std.proofs.Math.Facts.{to_z-of_z}
use Rattle.path_calc.proofs.Bounds.{emission-within}
use Rattle.path_calc.proofs.prepared.emission.Goals as goal

pub returns-clause-bounds : goal.returns-clause-bounds
returns-clause-bounds c =
    let power = to_z-of_z {w = w32} {z = c.args.power} (search rules) in
    rw (c.add.ensures, c.hundredths.ensures, power) (emission-within c.args.power c.args.directivity c.requires.power c.requires.directivity)
