-- A side that crosses a way has cells that meet those of a box that holds the way.
use Rattle.std.proofs.Common.{◌≡◌, ℕ, zero, suc, ◌+◌, ◌-◌, ◌*◌, ◌<◌, ◌≤◌, Bool, true, false, arith, ap, subst, ◌∙◌, sym, refl, inl, inr}
use Rattle.std.specs.Prelude.{ℤ, pos, negsuc, ◌+ℤ◌, ◌-ℤ◌, ◌*ℤ◌, ◌<ℤ◌, ◌≤ℤ◌, neg_ℤ, int_lt, Some, unsigned_abs}
use Rattle.std.specs.Bool.{then_some}
use Rattle.std.proofs.Math.Nat.{mul-le-mul, mul-le-mul_left, mul-le-mul_right}
use Rattle.std.proofs.Math.IntN.{*ℤ_comm}
use Rattle.std.proofs.lemmas.Int.{ints, unsigned_abs-mul, by_lt_z}
use Rattle.std.proofs.lemmas.Bool.{and_parts, and_from, cases_lt}
use Rattle.scene_geom.specs.declared.plan.Pt.{Pt}
use Rattle.scene_geom.specs.declared.plan.Side.{Side}
use Rattle.scene_geom.specs.declared.fractions.fraction.Frac.{Frac}
use Rattle.scene_geom.specs.declared.directions.direction.Dir.{Dir}
use Rattle.scene_geom.specs.Plan.{InPlan}
use Rattle.scene_geom.specs.Vector.{cross}
use Rattle.scene_geom.specs.Point.{from_to, along}
use Rattle.scene_geom.specs.Fraction.{over, is_ahead, is_inside}
use Rattle.scene_geom.specs.Direction.{way}
use Rattle.scene_geom.specs.Crossing.{is_split, hits_of}
use Rattle.scene_geom.proofs.Whole.{add_mul, sub_mul, mul_sub}
use Rattle.scene_geom.proofs.Turning.{neg-mul}
use Rattle.scene_geom.proofs.Vectors.{cross-between}
use Rattle.part_grid.specs.Span.{overlap, between}
use Rattle.part_grid.specs.Cells.{from_edge, line_of, columns_of, rows_of, columns_between, rows_between}
use Rattle.part_grid.specs.Laws.{LiesBetween, CrossedWaysAreBoxed}
use Rattle.part_grid.proofs.Spans.{overlap-from}
use Rattle.part_grid.proofs.Shared.{are-weights, shared-x, shared-y}

-- ---- how far the shared point lies along the way: at the place n / d of it, times the divisor w, before the end e / f
no-further : (n w f e d h v : ℕ) → 0 < w → 0 < f → n * w * f < e * d → e * v ≤ h * (f * w) → n * v ≤ h * d
no-further n w f e d h v some_w some_f before end = elim (cases_lt (h * d) (n * v)) [ inl beyond ↦ absurd (none beyond) | inr within ↦ within ]
  where
    none : h * d < n * v → ⊥
    none beyond =
        let some : 1 * 1 ≤ f * w = mul-le-mul some_f some_w in
        let more : (h * d + 1) * (f * w) ≤ n * v * (f * w) = mul-le-mul_right (f * w) (omega arith) in
        let place : (n * w * f) * v ≤ (e * d) * v = mul-le-mul_right v (omega arith) in
        let all : (e * v) * d ≤ h * (f * w) * d = mul-le-mul_right d end in
        omega (arith, some, more, place, all)

reach : (n w f e d h : ℕ) (v : ℤ) → 0 < w → 0 < f → n * w * f < e * d → (pos e *ℤ v) ≤ℤ pos (h * (f * w)) → (pos n *ℤ v) ≤ℤ pos (h * d)
reach n w f e d h (pos v) some_w some_f before end = let within : n * v ≤ h * d = no-further n w f e d h v some_w some_f before (omega (arith, ints)) in omega (arith, ints)
reach n w f e d h (negsuc v) some_w some_f before end = omega (arith, ints)

-- ---- a mean of two numbers that are both beyond a bound is beyond it
beyond : (n k d h : ℕ) (v a b : ℤ) → (pos n *ℤ v) ≤ℤ pos (h * d) → pos n *ℤ v ≡ pos d *ℤ a +ℤ pos k *ℤ (b -ℤ a) → k ≤ d → 0 < d → pos h <ℤ a → pos h <ℤ b → ⊥
beyond n k d h v (negsuc a) b within e part some ha hb = omega (arith, ints)
beyond n k d h v (pos a) (negsuc b) within e part some ha hb = omega (arith, ints)
beyond n k d h v (pos a) (pos b) within e part some ha hb =
    let z : pos k *ℤ (pos b -ℤ pos a) ≡ pos (k * b) -ℤ pos (k * a) = mul_sub (pos b) (pos a) (pos k) in
    let sum : d * a + k * b ≤ h * d + k * a = gathered (pos n *ℤ v) (pos k *ℤ (pos b -ℤ pos a)) (d * a) (k * b) (k * a) (h * d) within e z in
    let split : (d - k) + k ≡ d = omega arith in
    let first : (d - k) * (h + 1) ≤ (d - k) * a = mul-le-mul_left (d - k) (omega (arith, ints)) in
    let second : k * (h + 1) ≤ k * b = mul-le-mul_left k (omega (arith, ints)) in
    omega (arith, sum, first, second, ap (λ (w : ℕ). w * a) split, ap (λ (w : ℕ). w * h) split)
  where
    gathered : (r t : ℤ) (x y z s : ℕ) → r ≤ℤ pos s → r ≡ pos x +ℤ t → t ≡ pos y -ℤ pos z → x + y ≤ s + z
    gathered r t x y z s h e f = omega (arith, ints)

-- ---- one coordinate
-- what a side's crossing of a way tells of one coordinate: its place n / d in units of the way, where it lies before the
-- end e / f, and its place k / d on the side from a to b
pub record IsCrossing (n k d w f e : ℕ) (start v a b : ℤ) : Type 0 where
  pub some_w : 0 < w
  pub some_f : 0 < f
  pub before : n * w * f < e * d
  pub part : k ≤ d
  pub some : 0 < d
  pub point : pos n *ℤ v ≡ pos d *ℤ (a -ℤ start) +ℤ pos k *ℤ (b -ℤ a)

pub above-none : (n k d w f e : ℕ) (start v a b high : ℤ) → IsCrossing n k d w f e start v a b → start ≤ℤ high
    → (start *ℤ pos (f * w) +ℤ pos e *ℤ v) ≤ℤ (high *ℤ pos (f * w)) → high <ℤ a → high <ℤ b → ⊥
above-none n k d w f e start v a b high is from to ha hb =
    let h = unsigned_abs (high -ℤ start) in
    let high_is : high ≡ start +ℤ pos h = omega (arith, ints) in
    let end : (pos e *ℤ v) ≤ℤ pos (h * (f * w)) =
    left (start *ℤ pos (f * w)) (pos e *ℤ v) (high *ℤ pos (f * w)) (h * (f * w)) to (ap (λ (z : ℤ). z *ℤ pos (f * w)) high_is ∙ add_mul start (pos h) (pos (f * w))) in
    beyond n k d h v (a -ℤ start) (b -ℤ start) (reach n w f e d h v is.some_w is.some_f is.before end)
    (is.point ∙ ap (λ (z : ℤ). pos d *ℤ (a -ℤ start) +ℤ pos k *ℤ z) (apart a b start)) is.part is.some (omega (arith, ints)) (omega (arith, ints))
  where
    left : (s t r : ℤ) (x : ℕ) → (s +ℤ t) ≤ℤ r → r ≡ s +ℤ pos x → t ≤ℤ pos x
    left s t r x h e = omega (arith, ints)

    apart : (x y z : ℤ) → y -ℤ x ≡ (y -ℤ z) -ℤ (x -ℤ z)
    apart x y z = omega (arith, ints)

pub mul-neg : (x y : ℤ) → x *ℤ neg_ℤ y ≡ neg_ℤ (x *ℤ y)
mul-neg x y = *ℤ_comm x (neg_ℤ y) ∙ neg-mul y x ∙ ap neg_ℤ (*ℤ_comm y x)

pub below-none : (n k d w f e : ℕ) (start v a b low : ℤ) → IsCrossing n k d w f e start v a b → low ≤ℤ start
    → (low *ℤ pos (f * w)) ≤ℤ (start *ℤ pos (f * w) +ℤ pos e *ℤ v) → a <ℤ low → b <ℤ low → ⊥
below-none n k d w f e start v a b low is from to ha hb =
    let h = unsigned_abs (start -ℤ low) in
    let low_is : low ≡ start -ℤ pos h = omega (arith, ints) in
    let end : (pos e *ℤ neg_ℤ v) ≤ℤ pos (h * (f * w)) =
    right (start *ℤ pos (f * w)) (pos e *ℤ v) (low *ℤ pos (f * w)) (pos e *ℤ neg_ℤ v) (h * (f * w)) to (ap (λ (z : ℤ). z *ℤ pos (f * w)) low_is ∙ sub_mul start (pos h) (pos (f * w))) (mul-neg (pos e) v) in
    beyond n k d h (neg_ℤ v) (start -ℤ a) (start -ℤ b) (reach n w f e d h (neg_ℤ v) is.some_w is.some_f is.before end)
    (mirrored (pos n *ℤ v) (pos n *ℤ neg_ℤ v) (pos d *ℤ (a -ℤ start)) (pos d *ℤ (start -ℤ a)) (pos k *ℤ (b -ℤ a)) (pos k *ℤ ((start -ℤ b) -ℤ (start -ℤ a))) is.point (mul-neg (pos n) v)
    (ap (λ (z : ℤ). pos d *ℤ z) (back start a) ∙ mul-neg (pos d) (a -ℤ start)) (ap (λ (z : ℤ). pos k *ℤ z) (across start a b) ∙ mul-neg (pos k) (b -ℤ a)))
    is.part is.some (omega (arith, ints)) (omega (arith, ints))
  where
    right : (s t r t' : ℤ) (x : ℕ) → r ≤ℤ (s +ℤ t) → r ≡ s -ℤ pos x → t' ≡ neg_ℤ t → t' ≤ℤ pos x
    right s t r t' x h e f = omega (arith, ints)

    back : (x y : ℤ) → x -ℤ y ≡ neg_ℤ (y -ℤ x)
    back x y = omega (arith, ints)

    across : (x y z : ℤ) → (x -ℤ z) -ℤ (x -ℤ y) ≡ neg_ℤ (z -ℤ y)
    across x y z = omega (arith, ints)

    mirrored : (x x' y y' z z' : ℤ) → x ≡ y +ℤ z → x' ≡ neg_ℤ x → y' ≡ neg_ℤ y → z' ≡ neg_ℤ z → x' ≡ y' +ℤ z'
    mirrored x x' y y' z z' e f g h = omega (arith, ints)

-- lines rise with coordinates
pub line-le : (y z : ℤ) → InPlan y → InPlan z → y ≤ℤ z → line_of y ≤ line_of z
line-le y z hy hz h =
    let edge : from_edge y ≤ from_edge z = omega (arith, ints, hy.low, hz.low) in omega arith

-- the lines of the side are among those of the box, and the other way round
coordinate : (n k d w f e : ℕ) (low high start v a b divisor : ℤ) (end : Frac) → InPlan low → InPlan high → InPlan a → InPlan b → IsCrossing n k d w f e start v a b
    → end.d *ℤ divisor ≡ pos (f * w) → end.n ≡ pos e → LiesBetween low high start v divisor end
    → overlap (between (line_of a) (line_of b)) (between (line_of low) (line_of high)) ≡ true
coordinate n k d w f e low high start v a b divisor end hl hh ha hb is ed en lies =
    overlap-from (between (line_of a) (line_of b)) (between (line_of low) (line_of high))
    (by_lt_z high a (λ x. by_lt_z high b (λ y. absurd (above-none n k d w f e start v a b high is lies.below_at_start to_high x y)) (λ y. let le = line-le b high hb hh y in omega arith)) (λ x. let le = line-le a high ha hh x in omega arith))
    (by_lt_z a low (λ x. by_lt_z b low (λ y. absurd (below-none n k d w f e start v a b low is lies.above_at_start to_low x y)) (λ y. let le = line-le low b hl hb y in omega arith)) (λ x. let le = line-le low a hl ha x in omega arith))
  where
    to_high : (start *ℤ pos (f * w) +ℤ pos e *ℤ v) ≤ℤ (high *ℤ pos (f * w))
    to_high = subst (λ (z : ℤ). (start *ℤ pos (f * w) +ℤ z *ℤ v) ≤ℤ (high *ℤ pos (f * w))) en (subst (λ (z : ℤ). (start *ℤ z +ℤ end.n *ℤ v) ≤ℤ (high *ℤ z)) ed lies.below_at_end)

    to_low : (low *ℤ pos (f * w)) ≤ℤ (start *ℤ pos (f * w) +ℤ pos e *ℤ v)
    to_low = subst (λ (z : ℤ). (low *ℤ pos (f * w)) ≤ℤ (start *ℤ pos (f * w) +ℤ z *ℤ v)) en (subst (λ (z : ℤ). (low *ℤ z) ≤ℤ (start *ℤ z +ℤ end.n *ℤ v)) ed lies.above_at_end)

-- ---- what a hit inside the way tells
then-is : (b : Bool) (x y : Frac) → then_some b x ≡ Some y → (b ≡ true) × (y ≡ x)
then-is true x y e = (refl, cc)
then-is false x y e = absurd (cc)

positive-is : (z : ℤ) → pos 0 <ℤ z → z ≡ pos (unsigned_abs z)
positive-is z h = omega (arith, ints)

some-positive : (z : ℤ) → pos 0 <ℤ z → 0 < unsigned_abs z
some-positive z h = omega (arith, ints)

ahead-one : (r : ℤ) (w : ℕ) → 0 < w → int_lt (pos 0) (r *ℤ pos w) ≡ true → int_lt (pos 0) r ≡ true
ahead-one (pos zero) w some h = absurd (omega (arith, ints))
ahead-one (pos (suc r)) w some h = sym (omega (arith, ints))
ahead-one (negsuc r) w some h = absurd (omega (arith, ints))

ahead-unscaled : (r d : ℤ) (w : ℕ) → 0 < w → is_ahead (over (r *ℤ pos w) d) ≡ true → is_ahead (over r d) ≡ true
ahead-unscaled r (pos zero) w some h = ahead-one r w some h
ahead-unscaled r (pos (suc d)) w some h = ahead-one r w some h
ahead-unscaled r (negsuc d) w some h = ahead-one (neg_ℤ r) w some (subst (λ (z : ℤ). int_lt (pos 0) z ≡ true) (sym (neg-mul r (pos w))) h)

over-abs : (n d : ℤ) → unsigned_abs (over n d).n ≡ unsigned_abs n
over-abs n (pos zero) = refl
over-abs n (pos (suc d)) = refl
over-abs n (negsuc d) = omega (arith, ints)

over-divisor : (n d : ℤ) → 0 < unsigned_abs d → (over n d).d ≡ pos (unsigned_abs d)
over-divisor n (pos zero) some = absurd (omega arith)
over-divisor n (pos (suc d)) some = refl
over-divisor n (negsuc d) some = refl

-- the end lies ahead, since a place does before it
before-end : (n f d : ℕ) (e : ℤ) → 0 < d → int_lt (pos n *ℤ pos f) (e *ℤ pos d) ≡ true → (e ≡ pos (unsigned_abs e)) × (n * f < unsigned_abs e * d)
before-end n f d (pos e) some h = (refl, omega (arith, ints))
before-end n f d (negsuc e) some h = absurd (omega (arith, ints))

-- both coordinates of the crossing, and the end of the way over one divisor
pub record CrossesWay (side : Side) (from : Pt) (dir : Dir) (end : Frac) : Type 0 where
  pub n : ℕ
  pub k : ℕ
  pub d : ℕ
  pub w : ℕ
  pub f : ℕ
  pub e : ℕ
  pub x : IsCrossing n k d w f e from.x dir.x side.from.x side.to.x
  pub y : IsCrossing n k d w f e from.y dir.y side.from.y side.to.y
  pub scale : end.d *ℤ dir.w ≡ pos (f * w)
  pub far : end.n ≡ pos e

pub crosses-way : (side : Side) (from : Pt) (dir : Dir) (end place : Frac) → hits_of side from dir ≡ Some place → is_inside place end ≡ true → CrossesWay side from dir end
crosses-way side from dir end place hit inside =
    let v = way dir in let u = along side in let way_to = from_to from side.from in
    let reached = cross way_to u in let divisor = cross v u in
    let w = unsigned_abs dir.w in let f = unsigned_abs end.d in let e = unsigned_abs end.n in
    let n = unsigned_abs reached in let k = unsigned_abs (cross v way_to) in let d = unsigned_abs divisor in
    let dir_w = positive-is dir.w dir.positive in let end_d = positive-is end.d end.positive in
    let some_w = some-positive dir.w dir.positive in let some_f = some-positive end.d end.positive in
    let tells = then-is (is_split side from v) (over (reached *ℤ dir.w) divisor) place hit in
    let place_is : place ≡ over (reached *ℤ pos w) divisor = tells.1 ∙ ap (λ (z : ℤ). over (reached *ℤ z) divisor) dir_w in
    let both = and_parts (is_ahead place) (int_lt (place.n *ℤ end.d) (end.n *ℤ place.d)) inside in
    let ahead : is_ahead (over (reached *ℤ pos w) divisor) ≡ true = subst (λ (x : Frac). is_ahead x ≡ true) place_is both.0 in
    let are = are-weights (cross v way_to) (cross v (from_to from side.to)) reached divisor (sym (cross-between v from side.from side.to)) tells.0 (ahead-unscaled reached divisor w some_w ahead) in
    let number : place.n ≡ pos (n * w) = above place.n both.0 ∙ ap pos (ap (λ (x : Frac). unsigned_abs x.n) place_is ∙ over-abs (reached *ℤ pos w) divisor ∙ unsigned_abs-mul reached (pos w)) in
    let below : place.d ≡ pos d = ap (λ (x : Frac). x.d) place_is ∙ over-divisor (reached *ℤ pos w) divisor are.some in
    let less : int_lt (pos (n * w) *ℤ pos f) (end.n *ℤ pos d) ≡ true =
    subst (λ (z : ℤ). int_lt (pos (n * w) *ℤ z) (end.n *ℤ pos d) ≡ true) end_d
    (subst (λ (z : ℤ). int_lt (pos (n * w) *ℤ end.d) (end.n *ℤ z) ≡ true) below (subst (λ (z : ℤ). int_lt (z *ℤ end.d) (end.n *ℤ place.d) ≡ true) number both.1)) in
    let before = before-end (n * w) f d end.n are.some less in
    record {
      n = n;
      k = k;
      d = d;
      w = w;
      f = f;
      e = e;
      x = record { some_w = some_w; some_f = some_f; before = before.1; part = are.within; some = are.some; point = shared-x side from v are };
      y = record { some_w = some_w; some_f = some_f; before = before.1; part = are.within; some = are.some; point = shared-y side from v are };
      scale = ap (λ (z : ℤ). z *ℤ dir.w) end_d ∙ ap (λ (z : ℤ). pos f *ℤ z) dir_w;
      far = before.0;
    }
  where
    above : (z : ℤ) → int_lt (pos 0) z ≡ true → z ≡ pos (unsigned_abs z)
    above z h = omega (arith, ints)

pub crossed-ways-are-boxed : CrossedWaysAreBoxed
crossed-ways-are-boxed side low high from dir end place holds hit inside =
    let is = crosses-way side from dir end place hit inside in
    let a = side.from in let b = side.to in
    and_from (overlap (columns_of side) (columns_between low high)) (overlap (rows_of side) (rows_between low high))
    (coordinate is.n is.k is.d is.w is.f is.e low.x high.x from.x dir.x a.x b.x dir.w end low.x_in_plan high.x_in_plan a.x_in_plan b.x_in_plan is.x is.scale is.far holds.x)
    (coordinate is.n is.k is.d is.w is.f is.e low.y high.y from.y dir.y a.y b.y dir.w end low.y_in_plan high.y_in_plan a.y_in_plan b.y_in_plan is.y is.scale is.far holds.y)
