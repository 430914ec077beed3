-- A side that crosses a way has cells that meet those of the way.
use Rattle.std.proofs.Common.{◌≡◌, ℕ, zero, suc, ◌*◌, ◌<◌, ◌≤◌, max, min, Bool, true, false, arith, ap, subst, ◌∙◌, sym, refl, inl, inr}
use Rattle.std.specs.Prelude.{ℤ, pos, negsuc, ◌+ℤ◌, ◌-ℤ◌, ◌*ℤ◌, ◌<ℤ◌, ◌≤ℤ◌, neg_ℤ, unsigned_abs, ◌==◌, if◌then◌else◌}
use Rattle.std.proofs.lemmas.Int.{ints, clamps}
use Rattle.std.proofs.lemmas.Bool.{and_from, cases_eq, eq-eqb, ne_eqb}
use Rattle.scene_geom.specs.declared.plan.Pt.{Pt}
use Rattle.scene_geom.specs.declared.fractions.fraction.Frac.{Frac}
use Rattle.scene_geom.specs.declared.directions.direction.Dir.{Dir}
use Rattle.scene_geom.specs.Plan.{InPlan, nearest, nearest-in_plan}
use Rattle.scene_geom.specs.Fraction.{over}
use Rattle.part_grid.specs.declared.cells.span.Span.{Span}
use Rattle.part_grid.specs.Span.{between, has, overlap}
use Rattle.part_grid.specs.Cells.{from_edge, line_of, columns_of, rows_of, covers}
use Rattle.part_grid.specs.Ways.{floor_of, end_at, northing_at, nearest_line, way_columns, way_rows, west_of, row_into, rows_in}
use Rattle.part_grid.specs.Laws.{CrossedWaysAreMet}
use Rattle.part_grid.proofs.Spans.{has-from, has-lines, overlap-from, any-line}
use Rattle.part_grid.proofs.Shared.{swapped}
use Rattle.part_grid.proofs.Boxed.{IsCrossing, crosses-way, line-le, mul-neg}
use Rattle.part_grid.proofs.Floors.{floor, times-le, floor-le, floor-above, floor-add, floor-zero, floor-one, floor-over, IsAmid, amid}

-- ---- lines of cells
nearest-le : (y z : ℤ) → y ≤ℤ z → nearest_line y ≤ nearest_line z
nearest-le y z h = line-le (nearest y) (nearest z) (nearest-in_plan y) (nearest-in_plan z) (omega (arith, ints, clamps))

nearest-is : (z : ℤ) → InPlan z → nearest_line z ≡ line_of z
nearest-is z h = let same : nearest z ≡ z = omega (arith, ints, clamps, h.low, h.high) in ap line_of same

-- what lies between two coordinates lies in a line between theirs
amid-lines : (a n b : ℤ) → IsAmid a n b → has (between (nearest_line a) (nearest_line b)) (nearest_line n) ≡ true
amid-lines a n b h =
    elim h [
      | inl up ↦ (let low = nearest-le a n up.0 in let high = nearest-le n b up.1 in has-from (between (nearest_line a) (nearest_line b)) (nearest_line n) (omega arith) (omega arith))
      | inr down ↦ (let low = nearest-le b n down.0 in let high = nearest-le n a down.1 in has-from (between (nearest_line a) (nearest_line b)) (nearest_line n) (omega arith) (omega arith))
    ]

shifted : (s a n b : ℤ) → IsAmid a n b → IsAmid (s +ℤ a) (s +ℤ n) (s +ℤ b)
shifted s a n b h =
    elim h [
      | inl up ↦ (let low = up.0 in let high = up.1 in inl (omega (arith, ints), omega (arith, ints)))
      | inr down ↦ (let low = down.0 in let high = down.1 in inr (omega (arith, ints), omega (arith, ints)))
    ]

-- ---- one coordinate of the crossing, rounded down
abbrev place : ℕ → ℕ → ℤ → ℤ → ℤ
place n d start v = start +ℤ floor (pos n *ℤ v) d

-- it lies between the start of the way and its end
on-way : (n k d w f e : ℕ) (start v a b divisor : ℤ) (end : Frac) → IsCrossing n k d w f e start v a b → end.d *ℤ divisor ≡ pos (f * w) → end.n ≡ pos e
    → IsAmid start (place n d start v) (end_at start v divisor end)
on-way n k d w f e start v a b divisor end is scale far =
    let some : 0 < f * w = some-product f w is.some_f is.some_w in
    let whole : floor_of (over (end.n *ℤ v) (end.d *ℤ divisor)) ≡ floor (pos e *ℤ v) (f * w) =
    ap (λ (z : ℤ). floor_of (over (end.n *ℤ v) z)) scale ∙ ap (λ (z : ℤ). floor_of (over (z *ℤ v) (pos (f * w)))) far ∙ floor-over (pos e *ℤ v) (f * w) some in
    let reached : pos (n * w * f) *ℤ v ≡ (pos n *ℤ v) *ℤ pos (f * w) = ap (λ (m : ℕ). pos m *ℤ v) (regrouped n w f) ∙ swapped (pos n) (pos (f * w)) v in
    let between_ = amid (f * w) d (pos (n * w * f)) (pos n *ℤ v) (pos 0) (pos e) v some is.some (omega (arith, ints)) (omega (arith, ints, is.before)) reached in
    let moved = shifted start (floor (pos 0 *ℤ v) (f * w)) (floor (pos n *ℤ v) d) (floor (pos e *ℤ v) (f * w)) between_ in
    subst (λ (z : ℤ). IsAmid start (place n d start v) (start +ℤ z)) (sym whole)
    (subst (λ (z : ℤ). IsAmid z (place n d start v) (start +ℤ floor (pos e *ℤ v) (f * w))) (ap (λ (z : ℤ). start +ℤ z) (floor-zero v (f * w)) ∙ nothing start) moved)
  where
    some-product : (f w : ℕ) → 0 < f → 0 < w → 0 < f * w
    some-product (suc f) (suc w) h k = omega arith
    some-product zero w h k = absurd (omega arith)
    some-product (suc f) zero h k = absurd (omega arith)

    regrouped : (n w f : ℕ) → n * w * f ≡ n * (f * w)
    regrouped n w f = omega arith

    nothing : (s : ℤ) → s +ℤ pos 0 ≡ s
    nothing s = omega (arith, ints)

-- and between the ends of the side
on-side : (n k d w f e : ℕ) (start v a b : ℤ) → IsCrossing n k d w f e start v a b → IsAmid a (place n d start v) b
on-side n k d w f e start v a b is =
    let z = pos k *ℤ (b -ℤ a) in
    let whole : place n d start v ≡ a +ℤ floor z d = ap (λ (x : ℤ). start +ℤ floor x d) is.point ∙ ap (λ (x : ℤ). start +ℤ x) (floor-add (a -ℤ start) z d is.some) ∙ back start a (floor z d) in
    let between_ = amid 1 d (pos k) z (pos 0) (pos 1) (b -ℤ a) (omega arith) is.some (omega (arith, ints)) (omega (arith, ints, is.part)) (one z) in
    let moved = shifted a (floor (pos 0 *ℤ (b -ℤ a)) 1) (floor z d) (floor (pos 1 *ℤ (b -ℤ a)) 1) between_ in
    subst (λ (x : ℤ). IsAmid a x b) (sym whole)
    (subst (λ (x : ℤ). IsAmid a (a +ℤ floor z d) x) (ap (λ (x : ℤ). a +ℤ x) (floor-one (b -ℤ a)) ∙ across a b)
    (subst (λ (x : ℤ). IsAmid x (a +ℤ floor z d) (a +ℤ floor (pos 1 *ℤ (b -ℤ a)) 1)) (ap (λ (x : ℤ). a +ℤ x) (floor-zero (b -ℤ a) 1) ∙ nothing a) moved))
  where
    back : (s a x : ℤ) → s +ℤ ((a -ℤ s) +ℤ x) ≡ a +ℤ x
    back s a x = omega (arith, ints)

    one : (z : ℤ) → z ≡ z *ℤ pos 1
    one z = omega (arith, ints)

    across : (a b : ℤ) → a +ℤ (b -ℤ a) ≡ b
    across a b = omega (arith, ints)

    nothing : (s : ℤ) → s +ℤ pos 0 ≡ s
    nothing s = omega (arith, ints)

-- so it is in the plan
amid-plan : (a n b : ℤ) → InPlan a → InPlan b → IsAmid a n b → InPlan n
amid-plan a n b ha hb h =
    let al = ha.low in let ah = ha.high in let bl = hb.low in let bh = hb.high in
    elim h [
      | inl up ↦ (let low = up.0 in let high = up.1 in record { low = omega (arith, ints); high = omega (arith, ints) })
      | inr down ↦ (let low = down.0 in let high = down.1 in record { low = omega (arith, ints); high = omega (arith, ints) })
    ]

-- ---- the row of the crossing, while the way is in its column
-- the line of the way comes to the northing of the crossing between both edges of the column
northing-amid : (from : Pt) (dir : Dir) (n d c : ℕ) → 0 < d → 0 < unsigned_abs dir.x → west_of c ≤ℤ place n d from.x dir.x → place n d from.x dir.x <ℤ west_of (suc c)
    → IsAmid (northing_at from dir (west_of c)) (place n d from.y dir.y) (northing_at from dir (west_of (suc c)))
northing-amid from dir n d c some_d some west east = by_sign dir.x refl where
  A : ℤ
  A = west_of c -ℤ from.x

  B : ℤ
  B = west_of (suc c) -ℤ from.x

  N : ℤ
  N = pos n *ℤ dir.x

  M : ℤ
  M = pos n *ℤ dir.y

  low : (A *ℤ pos d) ≤ℤ N
  low =
      let behind = times-le A (floor N d) d (less (west_of c) from.x (floor N d) west) in
      let is = floor-le N d some_d in
      both (A *ℤ pos d) (floor N d *ℤ pos d) N behind is
    where
      less : (w s q : ℤ) → w ≤ℤ (s +ℤ q) → (w -ℤ s) ≤ℤ q
      less w s q h = omega (arith, ints)

      both : (x y z : ℤ) → x ≤ℤ y → y ≤ℤ z → x ≤ℤ z
      both x y z h k = omega (arith, ints)

  high : N ≤ℤ (B *ℤ pos d)
  high =
      let ahead = times-le (floor N d +ℤ pos 1) B d (more (west_of (suc c)) from.x (floor N d) east) in
      let is = floor-above N d some_d in
      both N ((floor N d +ℤ pos 1) *ℤ pos d) (B *ℤ pos d) is ahead
    where
      more : (w s q : ℤ) → (s +ℤ q) <ℤ w → (q +ℤ pos 1) ≤ℤ (w -ℤ s)
      more w s q h = omega (arith, ints)

      both : (x y z : ℤ) → x <ℤ y → y ≤ℤ z → x ≤ℤ z
      both x y z h k = omega (arith, ints)

  by_sign : (x : ℤ) → dir.x ≡ x → IsAmid (northing_at from dir (west_of c)) (place n d from.y dir.y) (northing_at from dir (west_of (suc c)))
  by_sign (pos zero) e = absurd (omega (arith, ap unsigned_abs e))
  by_sign (pos (suc u)) e =
      let line : N *ℤ dir.y ≡ M *ℤ pos (suc u) = swapped (pos n) dir.x dir.y ∙ ap (λ (z : ℤ). M *ℤ z) e in
      let is = shifted from.y (floor (A *ℤ dir.y) (suc u)) (floor M d) (floor (B *ℤ dir.y) (suc u)) (amid (suc u) d N M A B dir.y (omega arith) some_d low high line) in
      subst (λ (x : ℤ). IsAmid (from.y +ℤ floor_of (over (A *ℤ dir.y) x)) (place n d from.y dir.y) (from.y +ℤ floor_of (over (B *ℤ dir.y) x))) (sym e) is
  by_sign (negsuc u) e =
      let line : N *ℤ neg_ℤ dir.y ≡ M *ℤ pos (suc u) =
      mul-neg N dir.y ∙ ap neg_ℤ (swapped (pos n) dir.x dir.y ∙ ap (λ (z : ℤ). M *ℤ z) e) ∙ sym (mul-neg M (negsuc u)) in
      let is = shifted from.y (floor (A *ℤ neg_ℤ dir.y) (suc u)) (floor M d) (floor (B *ℤ neg_ℤ dir.y) (suc u)) (amid (suc u) d N M A B (neg_ℤ dir.y) (omega arith) some_d low high line) in
      subst (λ (x : ℤ). IsAmid (from.y +ℤ floor_of (over (A *ℤ dir.y) x)) (place n d from.y dir.y) (from.y +ℤ floor_of (over (B *ℤ dir.y) x))) (sym e)
      (subst (λ (x : ℤ). IsAmid (from.y +ℤ floor (neg_ℤ (A *ℤ dir.y)) (suc u)) (place n d from.y dir.y) (from.y +ℤ floor x (suc u))) (mul-neg B dir.y)
      (subst (λ (x : ℤ). IsAmid (from.y +ℤ floor x (suc u)) (place n d from.y dir.y) (from.y +ℤ floor (B *ℤ neg_ℤ dir.y) (suc u))) (mul-neg A dir.y) is))

-- a row of the way that lies between two others lies between those of them that the way has
clamped : (rows : Span) (x y r : ℕ) → has rows r ≡ true → has (between x y) r ≡ true
    → has (between (max rows.low (min rows.high x)) (max rows.low (min rows.high y))) r ≡ true
clamped rows x y r h k =
    let in_rows = has-lines rows r h in let in_line = has-lines (between x y) r k in
    has-from (between (max rows.low (min rows.high x)) (max rows.low (min rows.high y))) r (omega (arith, in_rows.0, in_rows.1, in_line.0, in_line.1)) (omega (arith, in_rows.0, in_rows.1, in_line.0, in_line.1))

row-met : (from : Pt) (dir : Dir) (rows : Span) (n d c : ℕ) → 0 < d → west_of c ≤ℤ place n d from.x dir.x → place n d from.x dir.x <ℤ west_of (suc c)
    → has rows (nearest_line (place n d from.y dir.y)) ≡ true → has (rows_in from dir rows c) (nearest_line (place n d from.y dir.y)) ≡ true
row-met from dir rows n d c some west east in_rows =
    let r = nearest_line (place n d from.y dir.y) in
    elim (cases_eq (unsigned_abs dir.x) 0) [
      | inl vertical ↦ rw (eq-eqb (unsigned_abs dir.x) 0 vertical) in_rows
      | inr slanted ↦
          (let line = amid-lines (northing_at from dir (west_of c)) (place n d from.y dir.y) (northing_at from dir (west_of (suc c))) (northing-amid from dir n d c some (omega (arith, slanted)) west east) in
          rw (ne_eqb (unsigned_abs dir.x) 0 slanted)
          (clamped rows (nearest_line (northing_at from dir (west_of c))) (nearest_line (northing_at from dir (west_of (suc c)))) r in_rows line))
    ]

-- ---- all of it
-- a coordinate of the plan lies between the edges of its line
in-line : (z : ℤ) → InPlan z → (west_of (line_of z) ≤ℤ z) × (z <ℤ west_of (suc (line_of z)))
in-line z h =
    let edge : z ≡ pos (from_edge z) -ℤ pos 4063232 = omega (arith, ints, h.low) in
    (omega (arith, ints), omega (arith, ints))

overlap-has : (a b : Span) (n : ℕ) → has a n ≡ true → has b n ≡ true → overlap a b ≡ true
overlap-has a b n h k = let x = has-lines a n h in let y = has-lines b n k in overlap-from a b (omega (arith, x.0, y.1)) (omega (arith, x.1, y.0))

-- a coordinate between two of the plan lies in a line between theirs
plan-lines : (a n b : ℤ) → InPlan a → InPlan b → IsAmid a n b → has (between (line_of a) (line_of b)) (line_of n) ≡ true
plan-lines a n b ha hb h =
    let hn = amid-plan a n b ha hb h in
    subst (λ (x : ℕ). has (between x (line_of b)) (line_of n) ≡ true) (nearest-is a ha)
    (subst (λ (x : ℕ). has (between (nearest_line a) x) (line_of n) ≡ true) (nearest-is b hb)
    (subst (λ (x : ℕ). has (between (nearest_line a) (nearest_line b)) x ≡ true) (nearest-is n hn) (amid-lines a n b h)))

start-lines : (a n b : ℤ) → InPlan a → IsAmid a n b → has (between (line_of a) (nearest_line b)) (nearest_line n) ≡ true
start-lines a n b ha h = subst (λ (x : ℕ). has (between x (nearest_line b)) (nearest_line n) ≡ true) (nearest-is a ha) (amid-lines a n b h)

pub crossed-ways-are-met : CrossedWaysAreMet
crossed-ways-are-met side from dir end point hit inside =
    let is = crosses-way side from dir end point hit inside in
    let a = side.from in let b = side.to in
    let X = place is.n is.d from.x dir.x in let Y = place is.n is.d from.y dir.y in
    let side_x = on-side is.n is.k is.d is.w is.f is.e from.x dir.x a.x b.x is.x in
    let side_y = on-side is.n is.k is.d is.w is.f is.e from.y dir.y a.y b.y is.y in
    let plan_x = amid-plan a.x X b.x a.x_in_plan b.x_in_plan side_x in
    let plan_y = amid-plan a.y Y b.y a.y_in_plan b.y_in_plan side_y in
    let way_x = on-way is.n is.k is.d is.w is.f is.e from.x dir.x a.x b.x dir.w end is.x is.scale is.far in
    let way_y = on-way is.n is.k is.d is.w is.f is.e from.y dir.y a.y b.y dir.w end is.y is.scale is.far in
    let edges = in-line X plan_x in
    let column = line_of X in
    let rows = rows_in from dir (way_rows from dir end) column in
    let row = row-met from dir (way_rows from dir end) is.n is.d column is.x.some edges.0 edges.1 (start-lines from.y Y (end_at from.y dir.y dir.w end) from.y_in_plan way_y) in
    any-line (λ c. covers side c (rows_in from dir (way_rows from dir end) c)) (way_columns from dir end) column
    (subst (λ (c : ℕ). has (way_columns from dir end) c ≡ true) (nearest-is X plan_x) (start-lines from.x X (end_at from.x dir.x dir.w end) from.x_in_plan way_x))
    (and_from (has (columns_of side) column) (overlap (rows_of side) rows)
    (plan-lines a.x X b.x a.x_in_plan b.x_in_plan side_x)
    (overlap-has (rows_of side) rows (line_of Y) (plan-lines a.y Y b.y a.y_in_plan b.y_in_plan side_y)
    (subst (λ (r : ℕ). has rows r ≡ true) (nearest-is Y plan_y) row)))

-- the rows of a way are from a lesser to a greater
pub rows-ordered : (from : Pt) (dir : Dir) (end : Frac) (rows : Span) (column : ℕ) → rows ≡ way_rows from dir end → (rows_in from dir rows column).low ≤ (rows_in from dir rows column).high
rows-ordered from dir end rows column is =
    at-test (unsigned_abs dir.x == 0) rows (between (row_into from dir rows column) (row_into from dir rows (suc column)))
    (subst (λ (s : Span). s.low ≤ s.high) (sym is) (omega arith)) (omega arith)
  where
    at-test : (b : Bool) (r s : Span) → r.low ≤ r.high → s.low ≤ s.high → (if b then r else s).low ≤ (if b then r else s).high
    at-test true r s h k = h
    at-test false r s h k = k
