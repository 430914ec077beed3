use Rattle.std.proofs.Common.{◌*◌, ◌^◌, arith}
use Rattle.fix_interval.specs.Units.{unit-is}
use Rattle.fix_interval.proofs.Ceilings.{div_ceil-added}
use Rattle.fix_interval.proofs.roots.hypotenuse.Size.squared.Goals as goal

pub returns-clause-low : goal.returns-clause-low
returns-clause-low c = rw (c.from-least.ensures, unit-is)

pub returns-clause-high : goal.returns-clause-high
returns-clause-high c =
    let greatest = c.args.self.greatest in
    rw (c.from-greatest.ensures, unit-is) (div_ceil-added (greatest * greatest) (2 ^ 32) (omega arith))
