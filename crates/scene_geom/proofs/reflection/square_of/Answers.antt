use Rattle.std.proofs.Common.{◌≡◌, ◌≤◌, ◌+◌, ◌^◌, ℕ, arith, ap, ◌∙◌}
use Rattle.std.specs.Prelude.{ℤ, pos, unsigned_abs}
use Rattle.std.proofs.lemmas.Int.{ints}
use Rattle.scene_geom.specs.Vector.{Vector, dot}
use Rattle.scene_geom.proofs.Whole.{kept, restored, widened}
use Rattle.scene_geom.proofs.Crossings.{over_eq}
use Rattle.scene_geom.proofs.Walls.{off}
use Rattle.scene_geom.proofs.reflection.square_of.Goals as goal
use mir.Syntax.{w64, w128}
use mir.Val.{to_z, of_z}

-- a square that was widened
read : (r z : ℤ) (n : ℕ) → unsigned_abs z ≤ 128000000000000 → r ≡ to_z w64 (of_z w64 z) → z ≡ pos n → to_z w128 (of_z w128 r) ≡ pos n
read r z n h e f =
    let same = widened r z 128000000000000 h (omega arith) e in
    kept r 128000000000000 (rw same h) (omega arith) ∙ same ∙ f

dots : (u v u' v' : Vector) → u ≡ u' → v ≡ v' → dot u v ≡ dot u' v'
dots u v u' v' e f = ap (λ (w : Vector). dot w v) e ∙ ap (λ (w : Vector). dot u' w) f

pub fraction-requires-clause-divides : goal.fraction-requires-clause-divides
fraction-requires-clause-divides c e =
    let some = off c.args.side c.args.s c.args.r c.requires in
    let is = read _ _ _ c.wall_square.ensures.within c.into.ensures c.wall_square.ensures.value in
    omega (arith, ints, e, is, some.wall)

sum : (n a b d a' b' d' : ℕ) → n ≡ (a + b) ^ 2 + d ^ 2 → a ≡ a' → b ≡ b' → d ≡ d' → n ≡ (a' + b') ^ 2 + d' ^ 2
sum n a b d a' b' d' e f g h = rw (← f, ← g, ← h) e

pub returns : goal.returns
returns c =
    let dot_is = restored c.dot-ahead.result c.dot-ahead.ensures.within ∙ c.dot-ahead.ensures.value ∙ dots _ _ _ _ c.between.ensures c.between-2.ensures in
    let squares = sum _ _ _ _ _ _ _ c.squares.ensures.value c.distance.ensures.value c.distance-2.ensures.value (c.unsigned_abs.ensures.value ∙ ap unsigned_abs dot_is) in
    c.fraction.ensures
    ∙ over_eq _ _ _ _ (kept _ (2 ^ 97) (omega (arith, ints, c.squares.ensures.within)) (omega arith) ∙ ap pos squares)
    (read _ _ _ c.wall_square.ensures.within c.into.ensures c.wall_square.ensures.value)
