-- That 128 bits hold what changes evenly along a path.
use Rattle.std.proofs.Common.{◌≡◌, ℕ, ◌+◌, ◌*◌, ◌^◌, ◌≤◌, ◌<◌, arith, ap, ◌∙◌}
use Rattle.std.specs.Prelude.{ℤ, ◌+ℤ◌, ◌-ℤ◌, ◌*ℤ◌, unsigned_abs}
use Rattle.std.proofs.lemmas.Int.{ints, to_z-of_z, fits_signed_from_abs}
use Rattle.scene_geom.specs.declared.fractions.fraction.Frac.{Frac}
use Rattle.scene_geom.proofs.Whole.{kept, abs-mul, abs-sub}
use Rattle.scene_geom.specs.Plan.{InPlan}
use Rattle.image_source.specs.Mirrors.{at_place}
use mir.Syntax.{w32, w64, w128}
use mir.Val.{SFits, to_z, of_z}

-- a number that 128 bits keep
pub record Kept (z : ℤ) : Type 0 where
  pub fits : SFits w128 z
  pub is : to_z w128 (of_z w128 z) ≡ z

pub within : (z : ℤ) (m : ℕ) → unsigned_abs z ≤ m → m < 2 ^ 127 → Kept z
within z m h k = record { fits = fits_signed_from_abs w128 z (omega arith); is = kept z m h k }

pub abs-add : (a b : ℤ) (m n : ℕ) → unsigned_abs a ≤ m → unsigned_abs b ≤ n → unsigned_abs (a +ℤ b) ≤ m + n
abs-add a b m n h k = omega (arith, ints)

-- all that is calculated of it
pub record FitsEven (x y : ℤ) (t : Frac) : Type 0 where
  pub from : Kept x
  pub to : Kept y
  pub n : Kept t.n
  pub d : Kept t.d
  pub way : Kept (y -ℤ x)
  pub start : Kept (x *ℤ t.d)
  pub rise : Kept (t.n *ℤ (y -ℤ x))
  pub whole : Kept (at_place x y t)

pub evens : (x y : ℤ) (t : Frac) (m k : ℕ) → unsigned_abs x ≤ m → unsigned_abs y ≤ m → unsigned_abs t.n ≤ k → unsigned_abs t.d ≤ k
    → m + m < 2 ^ 127 → k < 2 ^ 127 → m * k < 2 ^ 127 → k * (m + m) < 2 ^ 127 → m * k + k * (m + m) < 2 ^ 127 → FitsEven x y t
evens x y t m k hx hy hn hd twice few first second both =
    let way = abs-sub y x m m hy hx in
    let start = abs-mul x t.d m k hx hd in
    let rise = abs-mul t.n (y -ℤ x) k (m + m) hn way in
    record {
      from = within x m hx (omega (arith, twice));
      to = within y m hy (omega (arith, twice));
      n = within t.n k hn few;
      d = within t.d k hd few;
      way = within (y -ℤ x) (m + m) way twice;
      start = within (x *ℤ t.d) (m * k) start first;
      rise = within (t.n *ℤ (y -ℤ x)) (k * (m + m)) rise second;
      whole = within (at_place x y t) (m * k + k * (m + m)) (abs-add (x *ℤ t.d) (t.n *ℤ (y -ℤ x)) (m * k) (k * (m + m)) start rise) both;
    }

-- ---- what the code calculates

pub rise-fits : (x y : ℤ) (t : Frac) → FitsEven x y t
    → SFits w128 (to_z w128 (of_z w128 t.n) *ℤ to_z w128 (of_z w128 (to_z w128 (of_z w128 y) -ℤ to_z w128 (of_z w128 x))))
rise-fits x y t f = rw (f.n.is, f.to.is, f.from.is, f.way.is) f.rise.fits

pub way-fits : (x y : ℤ) (t : Frac) → FitsEven x y t → SFits w128 (to_z w128 (of_z w128 y) -ℤ to_z w128 (of_z w128 x))
way-fits x y t f = rw (f.to.is, f.from.is) f.way.fits

pub start-fits : (x y : ℤ) (t : Frac) → FitsEven x y t → SFits w128 (to_z w128 (of_z w128 x) *ℤ to_z w128 (of_z w128 t.d))
start-fits x y t f = rw (f.from.is, f.d.is) f.start.fits

pub whole-fits : (x y : ℤ) (t : Frac) → FitsEven x y t
    → SFits w128
    (to_z w128 (of_z w128 (to_z w128 (of_z w128 x) *ℤ to_z w128 (of_z w128 t.d)))
    +ℤ to_z w128 (of_z w128 (to_z w128 (of_z w128 t.n) *ℤ to_z w128 (of_z w128 (to_z w128 (of_z w128 y) -ℤ to_z w128 (of_z w128 x))))))
whole-fits x y t f = rw (f.n.is, f.d.is, f.to.is, f.from.is, f.way.is, f.start.is, f.rise.is) f.whole.fits

pub whole-is : (x y : ℤ) (t : Frac) → FitsEven x y t
    → to_z w128
    (of_z w128
    (to_z w128 (of_z w128 (to_z w128 (of_z w128 x) *ℤ to_z w128 (of_z w128 t.d)))
    +ℤ to_z w128 (of_z w128 (to_z w128 (of_z w128 t.n) *ℤ to_z w128 (of_z w128 (to_z w128 (of_z w128 y) -ℤ to_z w128 (of_z w128 x)))))))
    ≡ at_place x y t
whole-is x y t f = rw (f.n.is, f.d.is, f.to.is, f.from.is, f.way.is, f.start.is, f.rise.is) f.whole.is

pub at_place_eq : (x y x' y' : ℤ) (t : Frac) → x ≡ x' → y ≡ y' → at_place x y t ≡ at_place x' y' t
at_place_eq x y x' y' t e f = ap (λ (z : ℤ). at_place z y t) e ∙ ap (λ (z : ℤ). at_place x' z t) f

-- ---- ways

-- a way between two coordinates that were passed on in 32 bits
pub way-is : (r a b : ℤ) → InPlan a → InPlan b → r ≡ to_z w32 (of_z w32 b) -ℤ to_z w32 (of_z w32 a) → r ≡ b -ℤ a
way-is r a b ha hb e = omega (arith, ints, ha.low, ha.high, hb.low, hb.high, e)

-- a result of the code that is read again
pub still : (z : ℤ) → unsigned_abs z < 2 ^ 127 → to_z w128 (of_z w128 z) ≡ z
still z h = (within z (unsigned_abs z) (omega arith) h).is

-- and one in 64 bits
pub still-short : (z : ℤ) → unsigned_abs z ≤ 128000000000000 → to_z w64 (of_z w64 z) ≡ z
still-short z h =
    let fits = fits_signed_from_abs w64 z (omega (arith, h)) in
    simp to_z-of_z
