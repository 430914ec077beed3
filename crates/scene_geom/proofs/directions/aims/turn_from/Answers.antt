use Rattle.std.proofs.Common.{◌≡◌, ◌≤◌, arith, ap, ◌∙◌}
use Rattle.std.specs.Prelude.{ℤ, ◌-ℤ◌, ◌*ℤ◌, unsigned_abs}
use Rattle.scene_geom.proofs.Whole.{kept, restored, abs-sub, difference_kept, difference_fits}
use Rattle.scene_geom.proofs.directions.aims.turn_from.Goals as goal
use mir.Syntax.{w64, w128}
use mir.Val.{to_z, of_z}

-- a product of numbers that were passed on
passed : (r x y : ℤ) → unsigned_abs x ≤ 2110000000000000000 → unsigned_abs y ≤ 8000000 → r ≡ to_z w128 (of_z w128 x) *ℤ to_z w64 (of_z w64 y) → r ≡ x *ℤ y
passed r x y hx hy e = e ∙ ap (λ (z : ℤ). z *ℤ to_z w64 (of_z w64 y)) (kept x 2110000000000000000 hx (omega arith)) ∙ ap (λ (z : ℤ). x *ℤ z) (restored y (omega (arith, hy)))

pub overflow_sub-result : goal.overflow_sub-result
overflow_sub-result c = difference_fits c.times.result c.times-2.result (omega (arith, c.times.ensures.within)) (omega (arith, c.times-2.ensures.within))

pub returns-clause-value : goal.returns-clause-value
returns-clause-value c =
    let dir = c.args.dir in let step = c.args.step in
    difference_kept c.times.result c.times-2.result (omega (arith, c.times.ensures.within)) (omega (arith, c.times-2.ensures.within))
    ∙ ap (λ (z : ℤ). z -ℤ c.times-2.result) (passed c.times.result dir.x step.y c.requires.x_within step.y_within c.times.ensures.value)
    ∙ ap (λ (z : ℤ). dir.x *ℤ step.y -ℤ z) (passed c.times-2.result dir.y step.x c.requires.y_within step.x_within c.times-2.ensures.value)

pub returns-clause-within : goal.returns-clause-within
returns-clause-within c =
    rw (difference_kept c.times.result c.times-2.result (omega (arith, c.times.ensures.within)) (omega (arith, c.times-2.ensures.within)))
    (abs-sub c.times.result c.times-2.result 16880000000000000000000000 16880000000000000000000000 c.times.ensures.within c.times-2.ensures.within)
