use Rattle.std.proofs.Common.{◌≡◌, ◌≤◌, arith, ap, ◌∙◌}
use Rattle.std.specs.Prelude.{ℤ, ◌-ℤ◌, ◌*ℤ◌, pos, int_lt, unsigned_abs}
use Rattle.std.proofs.lemmas.Int.{ints}
use Rattle.scene_geom.specs.Plan.{InPlan}
use Rattle.scene_geom.proofs.Whole.{kept}
use Rattle.term_ground.proofs.coverage.beside.leaves_left.Goals as goal
use mir.Syntax.{w32, w64, w128}
use mir.Val.{to_z, of_z}

-- the difference of two coordinates of the plan in 64 bits
difference : (a b r s : ℤ) → InPlan a → InPlan b → r ≡ to_z w32 (of_z w32 a) → s ≡ to_z w32 (of_z w32 b)
    → (to_z w64 (of_z w64 (to_z w64 (of_z w64 r) -ℤ to_z w64 (of_z w64 s))) ≡ a -ℤ b) × (unsigned_abs (a -ℤ b) ≤ 8000000)
difference a b r s h k e f = (omega (arith, ints, h.low, h.high, k.low, k.high, e, f), omega (arith, ints, h.low, h.high, k.low, k.high))

-- a product of two numbers that were passed on
passed : (r x t y : ℤ) → unsigned_abs x ≤ 2110000000000000000 → t ≡ y → r ≡ to_z w128 (of_z w128 x) *ℤ t → r ≡ x *ℤ y
passed r x t y h e f = f ∙ ap (λ (z : ℤ). z *ℤ t) (kept x 2110000000000000000 h (omega arith)) ∙ ap (λ (z : ℤ). x *ℤ z) e

-- two such products compared
above : (x y : ℤ) → int_lt y x ≡ int_lt (pos 0) (x -ℤ y)
above x y = grind (arith, ints)

compared : (a b x y : ℤ) → unsigned_abs a ≤ 16880000000000000000000000 → unsigned_abs b ≤ 16880000000000000000000000 → a ≡ x → b ≡ y
    → int_lt (to_z w128 (of_z w128 b)) (to_z w128 (of_z w128 a)) ≡ int_lt (pos 0) (x -ℤ y)
compared a b x y h k e f =
    rw (kept a 16880000000000000000000000 h (omega arith), kept b 16880000000000000000000000 k (omega arith), e, f) (above x y)

pub times-requires-2-clause-difference : goal.times-requires-2-clause-difference
times-requires-2-clause-difference c =
    let d = difference c.args.corner.x c.args.leg.now.start.x c.from.result c.from-2.result c.args.corner.x_in_plan c.args.leg.now.start.x_in_plan c.from.ensures c.from-2.ensures in
    rw (d.0) d.1

pub returns : goal.returns
returns c =
    let leg = c.args.leg.now in
    let across = difference c.args.corner.x leg.start.x c.from.result c.from-2.result c.args.corner.x_in_plan leg.start.x_in_plan c.from.ensures c.from-2.ensures in
    let up = difference c.args.corner.y leg.start.y c.from-3.result c.from-4.result c.args.corner.y_in_plan leg.start.y_in_plan c.from-3.ensures c.from-4.ensures in
    compared c.times.result c.times-2.result (leg.dir.x *ℤ (c.args.corner.y -ℤ leg.start.y)) (leg.dir.y *ℤ (c.args.corner.x -ℤ leg.start.x)) c.times.ensures.within c.times-2.ensures.within
    (passed c.times.result leg.dir.x _ _ leg.dir_fits.x_within up.0 c.times.ensures.value)
    (passed c.times-2.result leg.dir.y _ _ leg.dir_fits.y_within across.0 c.times-2.ensures.value)
