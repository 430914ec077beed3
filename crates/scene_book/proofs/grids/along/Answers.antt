use Rattle.std.proofs.Common.{ℕ, ◌-◌, ◌*◌, ◌<◌, ◌≤◌, arith}
use Rattle.std.proofs.lemmas.Int.{ints}
use Rattle.std.proofs.Math.Nat.{mul-le-mul_left}
use Rattle.scene_book.proofs.grids.along.Goals as goal

-- from the first receiver of a grid to another it is at most as far as to the last
no_farther : (step index count : ℕ) → index < count → step * index ≤ step * (count - 1)
no_farther step index count h = mul-le-mul_left step (omega arith)

pub overflow_mul-step : goal.overflow_mul-step
overflow_mul-step c =
    let last = no_farther c.args.step c.args.index c.args.count c.requires.index in
    omega (arith, ints, last)

pub overflow_add-result : goal.overflow_add-result
overflow_add-result c =
    let last = no_farther c.args.step c.args.index c.args.count c.requires.index in
    omega (arith, ints, last)

pub returns-clause-value : goal.returns-clause-value
returns-clause-value c =
    let last = no_farther c.args.step c.args.index c.args.count c.requires.index in
    omega (arith, ints, last)

pub returns-clause-in_plan : goal.returns-clause-in_plan
returns-clause-in_plan c =
    let last = no_farther c.args.step c.args.index c.args.count c.requires.index in
    record { low = omega (arith, ints, last); high = omega (arith, ints, last) }
