use Rattle.std.proofs.Common.{◌≡◌, ◌≤◌, ℕ, arith, ap, refl, ◌∙◌}
use Rattle.std.specs.Prelude.{ℤ, pos}
use Rattle.std.proofs.lemmas.Int.{ints}
use Rattle.scene_geom.proofs.Whole.{kept}
use Rattle.scene_geom.proofs.Crossings.{over_eq}
use Rattle.scene_geom.proofs.Walls.{off}
use Rattle.scene_geom.proofs.reflection.specular_place.Goals as goal
use mir.Syntax.{w128}
use mir.Val.{to_z, of_z}

-- a distance that was widened
read : (r : ℤ) (n m : ℕ) → n ≤ 256000000000000 → r ≡ pos n → n ≡ m → to_z w128 (of_z w128 r) ≡ pos m
read r n m h e f = kept r 256000000000000 (rw e h) (omega arith) ∙ e ∙ ap pos f

pub fraction-requires-clause-divides : goal.fraction-requires-clause-divides
fraction-requires-clause-divides c e =
    let some = off c.args.side c.args.s c.args.r c.requires in
    let is = read _ _ _ (omega (arith, c.distance-before.ensures.within, c.distance.ensures.within)) c.into-2.ensures refl in
    omega (arith, ints, e, is, some.source, c.distance-before.ensures.value, c.distance.ensures.value)

pub returns : goal.returns
returns c =
    c.fraction.ensures
    ∙ over_eq _ _ _ _
    (read _ _ _ (omega (arith, c.distance-before.ensures.within)) c.into.ensures c.distance-before.ensures.value)
    (read _ _ _ (omega (arith, c.distance-before.ensures.within, c.distance.ensures.within)) c.into-2.ensures (omega (arith, c.distance-before.ensures.value, c.distance.ensures.value)))
