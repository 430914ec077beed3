-- A side that crosses a segment has cells that meet its walk.
use Rattle.std.proofs.Common.{◌≡◌, ℕ, zero, suc, ◌+◌, ◌-◌, ◌*◌, ◌/◌, ◌<◌, ◌≤◌, Bool, true, false, arith, ap, subst, ◌∙◌, sym, refl}
use Rattle.std.specs.Prelude.{ℤ, pos, negsuc, ◌+ℤ◌, ◌-ℤ◌, ◌*ℤ◌, neg_ℤ, int_lt, Option, Some, None, unsigned_abs}
use Rattle.std.specs.Bool.{then_some}
use Rattle.std.specs.Option.{option_and_then}
use Rattle.std.proofs.lemmas.Int.{ints}
use Rattle.std.proofs.lemmas.Bool.{and_parts, and_from, both_ways}
use Rattle.scene_geom.specs.declared.plan.Pt.{Pt}
use Rattle.scene_geom.specs.declared.plan.Side.{Side}
use Rattle.scene_geom.specs.declared.fractions.fraction.Frac.{Frac}
use Rattle.scene_geom.specs.Plan.{InPlan}
use Rattle.scene_geom.specs.Vector.{cross}
use Rattle.scene_geom.specs.Point.{from_to, along}
use Rattle.scene_geom.specs.Fraction.{over, inner, is_inside, is_ahead}
use Rattle.scene_geom.specs.Crossing.{is_split, crosses_of}
use Rattle.scene_geom.proofs.Whole.{mul_sub}
use Rattle.scene_geom.proofs.Vectors.{cross-between}
use Rattle.scene_geom.proofs.Blocking.{uncrossed_is_unblocked}
use Rattle.part_grid.specs.Span.{has, overlap}
use Rattle.part_grid.specs.Cells.{cell, from_edge, columns_of, rows_of, columns_between, covers, walk_rows, cells_meet_of}
use Rattle.part_grid.specs.Laws.{UnmetAreApart}
use Rattle.part_grid.proofs.Means.{mean, mean-between}
use Rattle.part_grid.proofs.Rows.{row-walked}
use Rattle.part_grid.proofs.Spans.{any-line, has-from, overlap-from}
use Rattle.part_grid.proofs.Shared.{are-weights, shared-x, shared-y}

-- ---- a shared point, counted from the edge of the plan
edge-is : (z : ℤ) → InPlan z → z ≡ pos (from_edge z) -ℤ pos 4063232
edge-is z h = omega (arith, ints, h.low)

-- one coordinate: p and q are the ends of the segment, a and b those of the side
weights-of : (n m k l P Q A B : ℕ) (p q a b : ℤ) → p ≡ pos P -ℤ pos 4063232 → q ≡ pos Q -ℤ pos 4063232 → a ≡ pos A -ℤ pos 4063232 → b ≡ pos B -ℤ pos 4063232 → m + n ≡ l + k
    → pos n *ℤ (q -ℤ p) ≡ pos (m + n) *ℤ (a -ℤ p) +ℤ pos k *ℤ (b -ℤ a) → P * m + Q * n ≡ A * l + B * k
weights-of n m k l P Q A B p q a b ep eq ea eb same e =
    let qp : q -ℤ p ≡ pos Q -ℤ pos P = omega (arith, ints) in
    let ap_ : a -ℤ p ≡ pos A -ℤ pos P = omega (arith, ints) in
    let ba : b -ℤ a ≡ pos B -ℤ pos A = omega (arith, ints) in
    let x : pos n *ℤ (q -ℤ p) ≡ pos (n * Q) -ℤ pos (n * P) = ap (λ (z : ℤ). pos n *ℤ z) qp ∙ mul_sub (pos Q) (pos P) (pos n) in
    let y : pos (m + n) *ℤ (a -ℤ p) ≡ pos ((m + n) * A) -ℤ pos ((m + n) * P) = ap (λ (z : ℤ). pos (m + n) *ℤ z) ap_ ∙ mul_sub (pos A) (pos P) (pos (m + n)) in
    let z : pos k *ℤ (b -ℤ a) ≡ pos (k * B) -ℤ pos (k * A) = ap (λ (w : ℤ). pos k *ℤ w) ba ∙ mul_sub (pos B) (pos A) (pos k) in
    let sum : n * Q + (m + n) * P + k * A ≡ n * P + (m + n) * A + k * B =
    gathered _ _ _ (n * Q) (n * P) ((m + n) * A) ((m + n) * P) (k * B) (k * A) e x y z in
    omega (arith, sum, ap (λ (w : ℕ). w * A) same)
  where
    gathered : (r s t : ℤ) (x1 x2 y1 y2 z1 z2 : ℕ) → r ≡ s +ℤ t → r ≡ pos x1 -ℤ pos x2 → s ≡ pos y1 -ℤ pos y2 → t ≡ pos z1 -ℤ pos z2 → x1 + y2 + z2 ≡ x2 + y1 + z1
    gathered r s t x1 x2 y1 y2 z1 z2 e f g h = omega (arith, ints)

-- the cells of a side and of a segment with a common point meet
met : (side : Side) (p q : Pt) (m n l k : ℕ) → 0 < m + n → m + n ≡ l + k
    → from_edge p.x * m + from_edge q.x * n ≡ from_edge side.from.x * l + from_edge side.to.x * k
    → from_edge p.y * m + from_edge q.y * n ≡ from_edge side.from.y * l + from_edge side.to.y * k
    → cells_meet_of side p q ≡ true
met side p q m n l k some same ex ey =
    let column = mean (from_edge p.x) (from_edge q.x) m n in
    let row = mean (from_edge p.y) (from_edge q.y) m n in
    let column_is : column ≡ mean (from_edge side.from.x) (from_edge side.to.x) l k = ap (λ (w : ℕ). w / ((m + n) * cell)) ex ∙ ap (λ (w : ℕ). (from_edge side.from.x * l + from_edge side.to.x * k) / (w * cell)) same in
    let row_is : row ≡ mean (from_edge side.from.y) (from_edge side.to.y) l k = ap (λ (w : ℕ). w / ((m + n) * cell)) ey ∙ ap (λ (w : ℕ). (from_edge side.from.y * l + from_edge side.to.y * k) / (w * cell)) same in
    let walk = mean-between (from_edge p.x) (from_edge q.x) m n some in
    let columns = mean-between (from_edge side.from.x) (from_edge side.to.x) l k (omega arith) in
    let rows = mean-between (from_edge side.from.y) (from_edge side.to.y) l k (omega arith) in
    let walked = row-walked p q m n some in
    any-line (λ c. covers side c (walk_rows p q c)) (columns_between p q) column
    (has-from (columns_between p q) column walk.least walk.greatest)
    (and_from (has (columns_of side) column) (overlap (rows_of side) (walk_rows p q column))
    (has-from (columns_of side) column (rw column_is columns.least) (rw column_is columns.greatest))
    (overlap-from (rows_of side) (walk_rows p q column) (omega (arith, rows.least, row_is, walked.1)) (omega (arith, rows.greatest, row_is, walked.0))))

-- ---- what a crossing tells
some-is : (b : Bool) (x y : Frac) → then_some b x ≡ Some y → b ≡ true
some-is true x y e = refl
some-is false x y e = absurd (cc)

found : (b : Bool) (hit place : Frac) → option_and_then inner (then_some b hit) ≡ Some place → (b ≡ true) × (is_inside hit (over (pos 1) (pos 1)) ≡ true)
found true hit place e = (refl, some-is (is_inside hit (over (pos 1) (pos 1))) hit place e)
found false hit place e = absurd (cc)

-- a place before 1 has no greater numerator than its divisor
numerator-le : (n d : ℤ) → is_inside (over n d) (over (pos 1) (pos 1)) ≡ true → 0 < unsigned_abs d → unsigned_abs n ≤ unsigned_abs d
numerator-le n (pos zero) e some = absurd (omega arith)
numerator-le n (pos (suc d)) e some =
    let both = and_parts (int_lt (pos 0) n) (int_lt (n *ℤ pos 1) (pos 1 *ℤ pos (suc d))) e in
    let ahead = both.0 in let before = both.1 in omega (arith, ints)
numerator-le n (negsuc d) e some =
    let both = and_parts (int_lt (pos 0) (neg_ℤ n)) (int_lt (neg_ℤ n *ℤ pos 1) (pos 1 *ℤ pos (suc d))) e in
    let ahead = both.0 in let before = both.1 in omega (arith, ints)

pub crossed-meets : (side : Side) (p q : Pt) (place : Frac) → crosses_of side p q ≡ Some place → cells_meet_of side p q ≡ true
crossed-meets side p q place e =
    let v = from_to p q in let u = along side in let w = from_to p side.from in
    let tells = found (is_split side p v) (over (cross w u *ℤ pos 1) (cross v u)) place e in
    let one : cross w u *ℤ pos 1 ≡ cross w u = omega (arith, ints) in
    let inside : is_inside (over (cross w u) (cross v u)) (over (pos 1) (pos 1)) ≡ true = subst (λ (z : ℤ). is_inside (over z (cross v u)) (over (pos 1) (pos 1)) ≡ true) one tells.1 in
    let both = and_parts (is_ahead (over (cross w u) (cross v u))) (int_lt ((over (cross w u) (cross v u)).n *ℤ pos 1) (pos 1 *ℤ (over (cross w u) (cross v u)).d)) inside in
    let are = are-weights (cross v w) (cross v (from_to p side.to)) (cross w u) (cross v u) (sym (cross-between v p side.from side.to)) tells.0 both.0 in
    let n = unsigned_abs (cross w u) in let k = unsigned_abs (cross v w) in let d = unsigned_abs (cross v u) in
    let below : n ≤ d = numerator-le (cross w u) (cross v u) inside are.some in
    let whole : (d - n) + n ≡ d = omega arith in
    let same : (d - n) + n ≡ (d - k) + k = omega (arith, are.within) in
    let x = shared-x side p v are in let y = shared-y side p v are in
    let a = side.from in let b = side.to in
    met side p q (d - n) n (d - k) k (omega (arith, are.some)) same
    (weights-of n (d - n) k (d - k) (from_edge p.x) (from_edge q.x) (from_edge a.x) (from_edge b.x) p.x q.x a.x b.x (edge-is p.x p.x_in_plan) (edge-is q.x q.x_in_plan) (edge-is a.x a.x_in_plan) (edge-is b.x b.x_in_plan) same
    (x ∙ ap (λ (w : ℕ). pos w *ℤ (a.x -ℤ p.x) +ℤ pos k *ℤ (b.x -ℤ a.x)) (sym whole)))
    (weights-of n (d - n) k (d - k) (from_edge p.y) (from_edge q.y) (from_edge a.y) (from_edge b.y) p.y q.y a.y b.y (edge-is p.y p.y_in_plan) (edge-is q.y q.y_in_plan) (edge-is a.y a.y_in_plan) (edge-is b.y b.y_in_plan) same
    (y ∙ ap (λ (w : ℕ). pos w *ℤ (a.y -ℤ p.y) +ℤ pos k *ℤ (b.y -ℤ a.y)) (sym whole)))

pub unmet-are-apart : UnmetAreApart
unmet-are-apart side p q unmet =
    let uncrossed = none (crosses_of side p q) refl in
    record { uncrossed = uncrossed; unblocked = uncrossed_is_unblocked side p q uncrossed }
  where
    none : (o : Option Frac) → crosses_of side p q ≡ o → crosses_of side p q ≡ None
    none None e = e
    none (Some place) e = absurd (both_ways (cells_meet_of side p q) unmet (crossed-meets side p q place e))
