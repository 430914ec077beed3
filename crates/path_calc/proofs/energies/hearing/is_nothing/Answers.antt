use Rattle.std.proofs.Common.{◌≡◌, pos, rules}
use Rattle.std.specs.Prelude.{Some}
use Rattle.path_calc.proofs.Sums.{nothing-by-ends}
use Rattle.path_calc.proofs.energies.hearing.is_nothing.Goals as goal

pub returns-in-Some-eq0-Some-eq0 : goal.returns-in-Some-eq0-Some-eq0
returns-in-Some-eq0-Some-eq0 c holds =
    let low : c.args.i.lo ≡ Some (pos 0) = search rules in
    let high : c.args.i.hi ≡ Some (pos 0) = search rules in
    nothing-by-ends c.args.i low high
