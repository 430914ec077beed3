use Rattle.std.proofs.Common.{◌≡◌, ◌+◌, ◌*◌, ◌∙◌, sym, refl, arith}
use Rattle.std.specs.Prelude.{ℤ, pos, negsuc, ◌+ℤ◌, ◌*ℤ◌, unsigned_abs}
use Rattle.std.proofs.lemmas.Int.{ints}
use Rattle.scene_geom.proofs.Whole.{restored}
use Rattle.term_barrier.proofs.single.components.squared_length.Goals as goal

-- the sum of two squares, without signs
squares : (x y : ℤ) → unsigned_abs (x *ℤ x +ℤ y *ℤ y) ≡ unsigned_abs x * unsigned_abs x + unsigned_abs y * unsigned_abs y
squares (pos x) (pos y) = omega (arith, ints)
squares (pos x) (negsuc y) = omega (arith, ints)
squares (negsuc x) (pos y) = omega (arith, ints)
squares (negsuc x) (negsuc y) = omega (arith, ints)

pub returns : goal.returns
returns c =
    let x = restored c.step-x.result.0 (omega (arith, c.step-x.ensures.x_within)) in
    let y = restored c.step-x.result.1 (omega (arith, c.step-x.ensures.y_within)) in
    rw (c.square.ensures.value, c.square-2.ensures.value, c.unsigned_abs.ensures.value, c.unsigned_abs-2.ensures.value, x, y)
    (sym (squares c.step-x.result.0 c.step-x.result.1) ∙ rw (c.step-x.ensures.x, c.step-x.ensures.y) refl)
