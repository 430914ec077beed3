use Rattle.std.proofs.Common.{◌≡◌, ◌∙◌, ℤ, pos, ◌*ℤ◌, to_z, of_z, ap, refl, arith}
use Rattle.std.specs.Int.{w128}
use Rattle.std.proofs.lemmas.Int.{ints, to_z-of_z}
use Rattle.fix_interval.specs.Units.{unit, unit-is}
use Rattle.fix_interval.specs.Round.{floor_of, ceil_of}
use Rattle.fix_interval.proofs.Ratios.{floor_of-whole, ceil_of-whole}
use Rattle.fix_interval.proofs.quotients.units_over.Goals as goal

pub returns-then-d-eq0-clause-floor : goal.returns-then-d-eq0-clause-floor
returns-then-d-eq0-clause-floor c =
    c.rounded.ensures.floor
    ∙ floor_of-whole c.args.x _ c.args.d _ (to_z-of_z w128 c.args.x c.ranges.x) refl c.if-d-eq0.true c.requires.divisor

pub returns-then-d-eq0-clause-ceil : goal.returns-then-d-eq0-clause-ceil
returns-then-d-eq0-clause-ceil c =
    c.rounded.ensures.ceil
    ∙ ceil_of-whole c.args.x _ c.args.d _ (to_z-of_z w128 c.args.x c.ranges.x) refl c.if-d-eq0.true c.requires.divisor

pub returns-else-d-eq0-clause-floor : goal.returns-else-d-eq0-clause-floor
returns-else-d-eq0-clause-floor c =
    let units : to_z w128 (of_z w128 (to_z w128 (of_z w128 c.args.x) *ℤ pos 4294967296)) ≡ c.args.x *ℤ pos unit =
    rw unit-is (omega (arith, ints)) in
    c.rounded-else-d-eq0.ensures.floor ∙ ap (λ (z : ℤ). floor_of z c.args.d) units

pub returns-else-d-eq0-clause-ceil : goal.returns-else-d-eq0-clause-ceil
returns-else-d-eq0-clause-ceil c =
    let units : to_z w128 (of_z w128 (to_z w128 (of_z w128 c.args.x) *ℤ pos 4294967296)) ≡ c.args.x *ℤ pos unit =
    rw unit-is (omega (arith, ints)) in
    c.rounded-else-d-eq0.ensures.ceil ∙ ap (λ (z : ℤ). ceil_of z c.args.d) units
