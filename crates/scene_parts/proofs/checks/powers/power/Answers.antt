use Rattle.std.proofs.Common.{◌≡◌, refl, arith, w32, w64, to_z, of_z}
use Rattle.std.proofs.lemmas.Int.{ints}
use Rattle.scene_parts.specs.Checking.{power_within}
use Rattle.scene_parts.proofs.checks.powers.power.Goals as goal

pub returns-in_ok-within-in-Some : goal.returns-in_ok-within-in-Some
unfolding power_within
returns-in_ok-within-in-Some c =
    let low : to_z w64 (of_z w64 c.from.result) ≡ c.args.low = omega (arith, ints) in
    let high : to_z w64 (of_z w64 c.from-in-Some.result) ≡ c.args.high = omega (arith, ints) in
    let level : to_z w32 (of_z w32 (to_z w64 (of_z w64 c.in_ok-within-in-Some.field-0))) ≡ c.in_ok-within-in-Some.field-0 = omega (arith, ints, low, high, c.in_ok-within-in-Some.ensures.low, c.in_ok-within-in-Some.ensures.high) in
    let given : to_z w64 (of_z w64 c.in-Some.level) ≡ c.in-Some.level = omega (arith, ints) in
    rw (level, c.in-Some.is) (rw (← (rw (low, high, given) at c.in_ok-within-in-Some.ensures.value)) refl)
