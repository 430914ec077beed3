-- Fractions rounded down.
use Rattle.std.proofs.Common.{◌≡◌, ℕ, zero, suc, ◌*◌, ◌/◌, ◌<◌, arith, ap, ◌∙◌, sym, refl, ◌⊎◌, inl, inr, subst}
use Rattle.std.specs.Prelude.{ℤ, pos, negsuc, ◌+ℤ◌, ◌-ℤ◌, ◌*ℤ◌, ◌<ℤ◌, ◌≤ℤ◌, neg_ℤ, unsigned_abs}
use Rattle.std.specs.Int.{int_div_euclid}
use Rattle.std.proofs.Math.Nat.{div-mul-le_self, lt-div-mul-add, div-one, zero-div}
use Rattle.std.proofs.Math.IntN.{*ℤ_comm}
use Rattle.std.proofs.lemmas.Int.{ints, by_lt_z}
use Rattle.scene_geom.specs.Fraction.{over}
use Rattle.scene_geom.proofs.Whole.{add_mul}
use Rattle.scene_geom.proofs.Turning.{neg-mul}
use Rattle.part_grid.specs.Ways.{floor_of}
use Rattle.part_grid.proofs.Shared.{swapped}
use Rattle.part_grid.proofs.Boxed.{mul-neg}

-- z over d, rounded down
abbrev pub floor : ℤ → ℕ → ℤ
floor z d = int_div_euclid z (pos d)

-- ---- products by a positive number
pub times-le : (x y : ℤ) (d : ℕ) → x ≤ℤ y → (x *ℤ pos d) ≤ℤ (y *ℤ pos d)
times-le x y d h =
    let k = unsigned_abs (y -ℤ x) in
    let is : y ≡ x +ℤ pos k = omega (arith, ints) in
    let product : y *ℤ pos d ≡ x *ℤ pos d +ℤ pos (k * d) = ap (λ (z : ℤ). z *ℤ pos d) is ∙ add_mul x (pos k) (pos d) in
    more (x *ℤ pos d) (y *ℤ pos d) (k * d) product
  where
    more : (s t : ℤ) (r : ℕ) → t ≡ s +ℤ pos r → s ≤ℤ t
    more s t r e = omega (arith, ints)

pub times-cancel : (x y : ℤ) (d : ℕ) → 0 < d → (x *ℤ pos d) ≤ℤ (y *ℤ pos d) → x ≤ℤ y
times-cancel x y d some h = by_lt_z y x (λ less. absurd (none less)) (λ le. le) where
  none : y <ℤ x → ⊥
  none less =
      let more : ((y +ℤ pos 1) *ℤ pos d) ≤ℤ (x *ℤ pos d) = times-le (y +ℤ pos 1) x d (omega (arith, ints)) in
      let next : (y +ℤ pos 1) *ℤ pos d ≡ y *ℤ pos d +ℤ pos 1 *ℤ pos d = add_mul y (pos 1) (pos d) in
      let one : pos 1 *ℤ pos d ≡ pos d = omega (arith, ints) in
      beyond (y *ℤ pos d) (x *ℤ pos d) ((y +ℤ pos 1) *ℤ pos d) (pos 1 *ℤ pos d) d some h more next one
    where
      beyond : (s t r q : ℤ) (d : ℕ) → 0 < d → t ≤ℤ s → r ≤ℤ t → r ≡ s +ℤ q → q ≡ pos d → ⊥
      beyond s t r q d some h k e f = omega (arith, ints)

-- ---- what a fraction rounded down is
pub floor-le : (z : ℤ) (d : ℕ) → 0 < d → (floor z d *ℤ pos d) ≤ℤ z
floor-le (pos a) d some = omega (arith, ints, div-mul-le_self a d)
floor-le (negsuc a) d some = omega (arith, ints, lt-div-mul-add {a = a} {b = d} some)

pub floor-above : (z : ℤ) (d : ℕ) → 0 < d → z <ℤ ((floor z d +ℤ pos 1) *ℤ pos d)
floor-above (pos a) d some = omega (arith, ints, lt-div-mul-add {a = a} {b = d} some)
floor-above (negsuc a) d some =
    let product : (negsuc (a / d) +ℤ pos 1) *ℤ pos d ≡ negsuc (a / d) *ℤ pos d +ℤ pos 1 *ℤ pos d = add_mul (negsuc (a / d)) (pos 1) (pos d) in
    omega (arith, ints, product, div-mul-le_self a d)

-- a whole number that isn't above the fraction, and one that is
pub floor-from : (x z : ℤ) (d : ℕ) → 0 < d → (x *ℤ pos d) ≤ℤ z → x ≤ℤ floor z d
floor-from x z d some h = by_lt_z (floor z d) x (λ less. absurd (none less)) (λ le. le) where
  none : floor z d <ℤ x → ⊥
  none less =
      let up = floor-above z d some in
      let more = times-le (floor z d +ℤ pos 1) x d (omega (arith, ints)) in
      beyond z ((floor z d +ℤ pos 1) *ℤ pos d) (x *ℤ pos d) up more h
    where
      beyond : (z s t : ℤ) → z <ℤ s → s ≤ℤ t → t ≤ℤ z → ⊥
      beyond z s t h k l = omega (arith, ints)

pub floor-below : (x z : ℤ) (d : ℕ) → 0 < d → z <ℤ (x *ℤ pos d) → floor z d <ℤ x
floor-below x z d some h = by_lt_z (floor z d) x (λ less. less) (λ le. absurd (none le)) where
  none : x ≤ℤ floor z d → ⊥
  none le =
      let down = floor-le z d some in
      let more = times-le x (floor z d) d le in
      beyond z (x *ℤ pos d) (floor z d *ℤ pos d) h more down
    where
      beyond : (z s t : ℤ) → z <ℤ s → s ≤ℤ t → t ≤ℤ z → ⊥
      beyond z s t h k l = omega (arith, ints)

-- whole numbers are added after rounding
pub floor-add : (s z : ℤ) (d : ℕ) → 0 < d → floor (pos d *ℤ s +ℤ z) d ≡ s +ℤ floor z d
floor-add s z d some =
    let q = floor z d in
    let low : ((s +ℤ q) *ℤ pos d) ≤ℤ (pos d *ℤ s +ℤ z) = under (s *ℤ pos d) (q *ℤ pos d) (pos d *ℤ s) ((s +ℤ q) *ℤ pos d) z (*ℤ_comm s (pos d)) (add_mul s q (pos d)) (floor-le z d some) in
    let next : (s +ℤ q) +ℤ pos 1 ≡ s +ℤ (q +ℤ pos 1) = omega (arith, ints) in
    let high : (pos d *ℤ s +ℤ z) <ℤ (((s +ℤ q) +ℤ pos 1) *ℤ pos d) =
    over_ (s *ℤ pos d) ((q +ℤ pos 1) *ℤ pos d) (pos d *ℤ s) (((s +ℤ q) +ℤ pos 1) *ℤ pos d) z (*ℤ_comm s (pos d)) (ap (λ (x : ℤ). x *ℤ pos d) next ∙ add_mul s (q +ℤ pos 1) (pos d)) (floor-above z d some) in
    same (floor (pos d *ℤ s +ℤ z) d) (s +ℤ q) (floor-from (s +ℤ q) (pos d *ℤ s +ℤ z) d some low) (floor-below ((s +ℤ q) +ℤ pos 1) (pos d *ℤ s +ℤ z) d some high)
  where
    under : (a b a' t z : ℤ) → a ≡ a' → t ≡ a +ℤ b → b ≤ℤ z → t ≤ℤ (a' +ℤ z)
    under a b a' t z e f h = omega (arith, ints)

    over_ : (a b a' t z : ℤ) → a ≡ a' → t ≡ a +ℤ b → z <ℤ b → (a' +ℤ z) <ℤ t
    over_ a b a' t z e f h = omega (arith, ints)

    same : (x y : ℤ) → y ≤ℤ x → x <ℤ (y +ℤ pos 1) → x ≡ y
    same x y h k = omega (arith, ints)

pub floor-zero : (v : ℤ) (d : ℕ) → floor (pos 0 *ℤ v) d ≡ pos 0
floor-zero v d = ap (λ (z : ℤ). floor z d) none ∙ ap pos (zero-div d) where
  none : pos 0 *ℤ v ≡ pos 0
  none = omega (arith, ints)

pub floor-one : (v : ℤ) → floor (pos 1 *ℤ v) 1 ≡ v
floor-one v = ap (λ (z : ℤ). floor z 1) one ∙ whole v where
  one : pos 1 *ℤ v ≡ v
  one = omega (arith, ints)

  whole : (v : ℤ) → floor v 1 ≡ v
  whole (pos a) = ap pos (div-one a)
  whole (negsuc a) = ap negsuc (div-one a)

-- a fraction with a positive divisor
pub floor-over : (z : ℤ) (d : ℕ) → 0 < d → floor_of (over z (pos d)) ≡ floor z d
floor-over z zero some = absurd (omega arith)
floor-over z (suc d) some = refl

-- ---- places of a line
-- a whole number lies between two others, in either order
abbrev pub IsAmid : ℤ → ℤ → ℤ → Type 0
IsAmid low n high = ((low ≤ℤ n) × (n ≤ℤ high)) ⊎ ((high ≤ℤ n) × (n ≤ℤ low))

-- the place N / d lies between A and B; the line rises by v over u, and reaches M / d there
rising-from : (u d v : ℕ) (N M A : ℤ) → 0 < u → 0 < d → (A *ℤ pos d) ≤ℤ N → N *ℤ pos v ≡ M *ℤ pos u → floor (A *ℤ pos v) u ≤ℤ floor M d
rising-from u d v N M A some_u some_d from e =
    let q = floor (A *ℤ pos v) u in
    let low : ((q *ℤ pos u) *ℤ pos d) ≤ℤ ((A *ℤ pos v) *ℤ pos d) = times-le (q *ℤ pos u) (A *ℤ pos v) d (floor-le (A *ℤ pos v) u some_u) in
    let more : ((A *ℤ pos d) *ℤ pos v) ≤ℤ (N *ℤ pos v) = times-le (A *ℤ pos d) N v from in
    floor-from q M d some_d
    (times-cancel (q *ℤ pos d) M u some_u
    (chained ((q *ℤ pos d) *ℤ pos u) ((q *ℤ pos u) *ℤ pos d) ((A *ℤ pos v) *ℤ pos d) ((A *ℤ pos d) *ℤ pos v) (N *ℤ pos v) (M *ℤ pos u)
    (swapped q (pos d) (pos u)) low (swapped A (pos v) (pos d)) more e))
  where
    chained : (a b c d e f : ℤ) → a ≡ b → b ≤ℤ c → c ≡ d → d ≤ℤ e → e ≡ f → a ≤ℤ f
    chained a b c d e f p q r s t = omega (arith, ints)

rising-to : (u d v : ℕ) (N M B : ℤ) → 0 < u → 0 < d → N ≤ℤ (B *ℤ pos d) → N *ℤ pos v ≡ M *ℤ pos u → floor M d ≤ℤ floor (B *ℤ pos v) u
rising-to u d v N M B some_u some_d to e =
    let q = floor M d in
    let low : ((q *ℤ pos d) *ℤ pos u) ≤ℤ (M *ℤ pos u) = times-le (q *ℤ pos d) M u (floor-le M d some_d) in
    let more : (N *ℤ pos v) ≤ℤ ((B *ℤ pos d) *ℤ pos v) = times-le N (B *ℤ pos d) v to in
    floor-from q (B *ℤ pos v) u some_u
    (times-cancel (q *ℤ pos u) (B *ℤ pos v) d some_d
    (chained ((q *ℤ pos u) *ℤ pos d) ((q *ℤ pos d) *ℤ pos u) (M *ℤ pos u) (N *ℤ pos v) ((B *ℤ pos d) *ℤ pos v) ((B *ℤ pos v) *ℤ pos d)
    (swapped q (pos u) (pos d)) low (sym e) more (swapped B (pos d) (pos v))))
  where
    chained : (a b c d e f : ℤ) → a ≡ b → b ≤ℤ c → c ≡ d → d ≤ℤ e → e ≡ f → a ≤ℤ f
    chained a b c d e f p q r s t = omega (arith, ints)

-- so it lies between what the line reaches at A and at B
turned-product : (x : ℤ) (v : ℕ) → neg_ℤ x *ℤ pos (suc v) ≡ x *ℤ negsuc v
turned-product x v = neg-mul x (pos (suc v)) ∙ sym (mul-neg x (pos (suc v)))

pub amid : (u d : ℕ) (N M A B v : ℤ) → 0 < u → 0 < d → (A *ℤ pos d) ≤ℤ N → N ≤ℤ (B *ℤ pos d) → N *ℤ v ≡ M *ℤ pos u → IsAmid (floor (A *ℤ v) u) (floor M d) (floor (B *ℤ v) u)
amid u d N M A B (pos v) some_u some_d from to e = inl (rising-from u d v N M A some_u some_d from e, rising-to u d v N M B some_u some_d to e)
amid u d N M A B (negsuc v) some_u some_d from to e =
    let turned : neg_ℤ N *ℤ pos (suc v) ≡ M *ℤ pos u = turned-product N v ∙ e in
    inr (
      subst (λ (z : ℤ). floor z u ≤ℤ floor M d) (turned-product B v) (rising-from u d (suc v) (neg_ℤ N) M (neg_ℤ B) some_u some_d (back (B *ℤ pos d) N (neg_ℤ B *ℤ pos d) (neg-mul B (pos d)) to) turned),
      subst (λ (z : ℤ). floor M d ≤ℤ floor z u) (turned-product A v) (rising-to u d (suc v) (neg_ℤ N) M (neg_ℤ A) some_u some_d (forth (A *ℤ pos d) N (neg_ℤ A *ℤ pos d) (neg-mul A (pos d)) from) turned),
    )
  where
    back : (x y x' : ℤ) → x' ≡ neg_ℤ x → y ≤ℤ x → x' ≤ℤ neg_ℤ y
    back x y x' e h = omega (arith, ints)

    forth : (x y x' : ℤ) → x' ≡ neg_ℤ x → x ≤ℤ y → neg_ℤ y ≤ℤ x'
    forth x y x' e h = omega (arith, ints)
