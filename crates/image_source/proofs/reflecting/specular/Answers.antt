use Rattle.std.proofs.Common.{◌≡◌, ◌<◌, ◌≤◌, ◌∙◌, ℕ, to_z, of_z, true, arith}
use Rattle.std.specs.Prelude.{ℤ, pos, unsigned_abs}
use Rattle.std.proofs.lemmas.Int.{ints}
use mir.Syntax.{w128}
use Rattle.scene_geom.specs.declared.plan.Pt.{Pt}
use Rattle.scene_geom.specs.declared.plan.Side.{Side}
use Rattle.scene_geom.specs.Point.{orient_of}
use Rattle.scene_geom.specs.Reflection.{are_on_one_side, off_wall}
use Rattle.image_source.proofs.Even.{still}
use Rattle.image_source.proofs.Walls.{signs-some, total-is, fraction-is, part-fits}
use Rattle.image_source.proofs.reflecting.specular.Goals as goal

-- both ends are off the line
some : (side : Side) (s r : Pt) → are_on_one_side side s r ≡ true → (0 < off_wall side s) × (0 < off_wall side r)
some side s r h = signs-some (orient_of side.from side.to s) (orient_of side.from side.to r) h

start : (x : ℤ) (n : ℕ) → unsigned_abs x ≤ 128000000000000 → x ≡ pos n → to_z w128 (of_z w128 x) ≡ pos n
start x n h e = still x (omega (arith, h)) ∙ e

few : (x : ℤ) (n : ℕ) → unsigned_abs x ≤ 128000000000000 → x ≡ pos n → n ≤ 128000000000000
few x n h e = omega (arith, ints)

pub invariant_of-result : goal.invariant_of-result
invariant_of-result c =
    let off = some c.args.side c.args.s c.args.r c.requires in
    let total = total-is c.off-before.result c.off.result _ _ c.off-before.ensures.value c.off.ensures.value c.off-before.ensures.within c.off.ensures.within in
    record { positive = rw total (omega (arith, ints, off.0)) }

pub returns-clause-value : goal.returns-clause-value
returns-clause-value c =
    fraction-is _ _ _ _ _ (start c.off-before.result _ c.off-before.ensures.within c.off-before.ensures.value)
    (total-is c.off-before.result c.off.result _ _ c.off-before.ensures.value c.off.ensures.value c.off-before.ensures.within c.off.ensures.within)

pub returns-clause-fits : goal.returns-clause-fits
returns-clause-fits c =
    let off = some c.args.side c.args.s c.args.r c.requires in
    part-fits _ _ _ _ _ (start c.off-before.result _ c.off-before.ensures.within c.off-before.ensures.value)
    (total-is c.off-before.result c.off.result _ _ c.off-before.ensures.value c.off.ensures.value c.off-before.ensures.within c.off.ensures.within)
    off.0 off.1 (few _ _ c.off-before.ensures.within c.off-before.ensures.value) (few _ _ c.off.ensures.within c.off.ensures.value)
