use Rattle.std.proofs.Common.{◌≡◌, ◌∙◌, refl, arith}
use Rattle.std.specs.Prelude.{ℤ, pos, ◌+ℤ◌, ◌-ℤ◌, ◌*ℤ◌, neg_ℤ, unsigned_abs}
use Rattle.std.proofs.lemmas.Int.{ints}
use Rattle.scene_geom.proofs.Walls.{mul-neg}
use Rattle.scene_geom.proofs.Whole.{restored}
use Rattle.term_barrier.proofs.single.components.advance.Goals as goal
use mir.Syntax.{w64}
use mir.Val.{to_z, of_z}

away : (p q : ℤ) → (p -ℤ neg_ℤ q) ≡ (p +ℤ q)
away p q = omega (arith, ints)

turned : (a b x y : ℤ) → unsigned_abs (a *ℤ x -ℤ b *ℤ neg_ℤ y) ≡ unsigned_abs (a *ℤ x +ℤ b *ℤ y)
turned a b x y = rw (mul-neg b y, away) refl

pub returns-clause-value : goal.returns-clause-value
returns-clause-value c =
    let x = restored c.args.x (omega (arith, c.requires.x)) in
    let y : to_z w64 (of_z w64 (pos 0 -ℤ to_z w64 (of_z w64 c.args.y))) ≡ neg_ℤ c.args.y = omega (arith, ints, c.requires.y) in
    c.turn.ensures.value ∙ rw (x, y) (turned c.args.dir.x c.args.dir.y c.args.x c.args.y)
