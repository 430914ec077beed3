-- A leg of a path by way of a wall leads to the image of the path's other end.
use Rattle.std.proofs.Common.{◌≡◌, arith, ap, ◌∙◌, sym}
use Rattle.std.specs.Prelude.{ℤ, pos, neg_ℤ, ◌+ℤ◌, ◌-ℤ◌, ◌*ℤ◌}
use Rattle.std.proofs.lemmas.Int.{ints}
use Rattle.std.proofs.Math.IntN.{*ℤ_comm}
use Rattle.scene_geom.specs.declared.plan.Pt.{Pt}
use Rattle.scene_geom.specs.declared.plan.Side.{Side}
use Rattle.scene_geom.specs.Vector.{Vector, cross, dot, scaled, minus, turned_left}
use Rattle.scene_geom.specs.Point.{from_to, along, orient_of}
use Rattle.scene_geom.specs.Direction.{way, dir_over}
use Rattle.scene_geom.specs.Reflection.{squared_length}
use Rattle.scene_geom.specs.Laws.{LegsLeadToImages}
use Rattle.scene_geom.proofs.Whole.{mul_add, mul_sub}
use Rattle.scene_geom.proofs.Vectors.{cross-between, vector_eq}
use Rattle.scene_geom.proofs.CommonPoint.{mul_assoc, cross-difference, dot-difference}
use Rattle.scene_geom.proofs.Walls.{dot-abs, mul-neg, dir_over-x, dir_over-y}

way-is : (v : Vector) (w : ℤ) → way (dir_over v w) ≡ v
way-is v w = vector_eq _ _ (dir_over-x v w) (dir_over-y v w)

-- ---- products of a vector with a way and the vector turned left

cross-turned : (w : Vector) → cross w (turned_left w) ≡ dot w w
cross-turned w = omega (arith, ints, mul-neg w.y w.y)

dot-turned : (w : Vector) → dot w (turned_left w) ≡ pos 0
dot-turned w = omega (arith, ints, mul-neg w.x w.y, *ℤ_comm w.x w.y)

-- w times the difference of b and a, less 2 b times w, is less than 0 by w times their sum
both : (w a b : ℤ) → w *ℤ (b -ℤ a) -ℤ pos 2 *ℤ b *ℤ w ≡ neg_ℤ (w *ℤ (a +ℤ b))
both w a b =
    let twice : pos 2 *ℤ b *ℤ w ≡ pos 2 *ℤ (w *ℤ b) = mul_assoc (pos 2) b w ∙ ap (λ (z : ℤ). pos 2 *ℤ z) (*ℤ_comm b w) in
    ready (w *ℤ (b -ℤ a)) (pos 2 *ℤ b *ℤ w) (w *ℤ (a +ℤ b)) (w *ℤ a) (w *ℤ b) (mul_sub b a w) twice (mul_add a b w)
  where
    ready : (l m r p q : ℤ) → l ≡ q -ℤ p → m ≡ pos 2 *ℤ q → r ≡ p +ℤ q → l -ℤ m ≡ neg_ℤ r
    ready l m r p q e f g = omega (arith, ints)

times-zero : (a b c : ℤ) → b ≡ pos 0 → c -ℤ a *ℤ b ≡ c
times-zero a b c e = rw e (omega (arith, ints))

-- ---- the two products of the direction

across-is : (side : Side) (p q : Pt) → cross (along side) (minus (scaled (pos (squared_length side)) (from_to p q)) (scaled (pos 2 *ℤ orient_of side.from side.to q) (turned_left (along side))))
    ≡ neg_ℤ (pos (squared_length side) *ℤ (orient_of side.from side.to p +ℤ orient_of side.from side.to q))
across-is side p q =
    let w = along side in
    let square = pos (squared_length side) in
    let a = orient_of side.from side.to p in
    let b = orient_of side.from side.to q in
    cross-difference w.x w.y square (pos 2 *ℤ b) (from_to p q).x (from_to p q).y (turned_left w).x (turned_left w).y
    ∙ ap (λ (z : ℤ). square *ℤ z -ℤ pos 2 *ℤ b *ℤ cross w (turned_left w)) (sym (cross-between w side.from p q))
    ∙ ap (λ (z : ℤ). square *ℤ (b -ℤ a) -ℤ pos 2 *ℤ b *ℤ z) (cross-turned w ∙ dot-abs w)
    ∙ both square a b

ahead-is : (side : Side) (p q : Pt) → dot (along side) (minus (scaled (pos (squared_length side)) (from_to p q)) (scaled (pos 2 *ℤ orient_of side.from side.to q) (turned_left (along side))))
    ≡ pos (squared_length side) *ℤ dot (along side) (from_to p q)
ahead-is side p q =
    let w = along side in
    let square = pos (squared_length side) in
    let b = orient_of side.from side.to q in
    dot-difference w.x w.y square (pos 2 *ℤ b) (from_to p q).x (from_to p q).y (turned_left w).x (turned_left w).y
    ∙ times-zero (pos 2 *ℤ b) (dot w (turned_left w)) (square *ℤ dot w (from_to p q)) (dot-turned w)

pub legs-lead_to_images : LegsLeadToImages
legs-lead_to_images side p q =
    let w = pos (squared_length side) in
    let v = minus (scaled w (from_to p q)) (scaled (pos 2 *ℤ orient_of side.from side.to q) (turned_left (along side))) in
    record {
      across = ap (cross (along side)) (way-is v w) ∙ across-is side p q;
      ahead = ap (dot (along side)) (way-is v w) ∙ ahead-is side p q;
    }
