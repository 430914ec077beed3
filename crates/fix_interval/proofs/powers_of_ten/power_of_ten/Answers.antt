use Rattle.std.proofs.Common.{◌^◌, ◌+◌, refl, ap, ◌∙◌, zero-add, arith}
use Rattle.std.proofs.Math.Nat.{one-le-pow}
use Rattle.fix_interval.specs.declared.powers_of_ten.TheConstants.{POWERS}
use Rattle.fix_interval.proofs.Powers.{are_powers-at}
use Rattle.fix_interval.proofs.powers_of_ten.power_of_ten.Goals as goal

pub returns-clause-value : goal.returns-clause-value
returns-clause-value c = are_powers-at POWERS 0 c.args.exponent _ refl c.requires ∙ ap (λ i. 10 ^ i) (zero-add c.args.exponent)

pub returns-clause-positive : goal.returns-clause-positive
returns-clause-positive c =
    let e = are_powers-at POWERS 0 c.args.exponent 0 refl c.requires in
    omega (arith, e, one-le-pow (0 + c.args.exponent) 10 (omega arith))
