-- Lengths round corners: how long they are, and how close the ends of their intervals.
use Rattle.std.proofs.Common.{◌≡◌, ℕ, ◌+◌, ◌*◌, ◌<◌, ◌≤◌, ◌^◌, pos, ◌*ℤ◌, ◌+ℤ◌, ◌≤ℤ◌, refl, sym, subst, arith, List, [], ◌∷◌, length, map, fold}
use Rattle.std.specs.Prelude.{Some}
use Rattle.std.proofs.lemmas.Int.{ints}
use Rattle.fix_interval.specs.Units.{unit, unit-is}
use Rattle.fix_interval.specs.Interval.{Interval}
use Rattle.fix_interval.specs.Bounds.{IsBetween, AreBetween}
use Rattle.fix_interval.specs.Round.{floor_of, ceil_of}
use Rattle.fix_interval.specs.Values.{ratio_of, add_of}
use Rattle.fix_interval.specs.Ranges.{square_root, root_range, root_limit}
use Rattle.fix_interval.specs.Tree.{Const, enc}
use Rattle.fix_interval.proofs.Ratios.{ratio_of-small}
use Rattle.fix_interval.proofs.Rounding.{ceil_of-mono, floor_of-le-ceil_of}
use Rattle.fix_interval.proofs.RangedFormulas.{between, part-between}
use Rattle.fix_interval.proofs.Dividing.{≤ℤ_trans}
use Rattle.fix_interval.proofs.Multiplying.{end_of-small}
use Rattle.scene_geom.specs.declared.plan.Pt.{Pt}
use Rattle.scene_geom.specs.Direction.{direct}
use Rattle.path_shape.specs.declared.legs.Legs.TheVariants.{One}
use Rattle.path_shape.specs.Shape.{plan_square, plan_length}
use Rattle.path_shape.proofs.Lengths.{path-found, plan_square-within}
use Rattle.term_barrier.specs.Diffraction.{whole}
use Rattle.term_barrier.specs.Lateral.{steps, between_corners}
use Rattle.term_barrier.proofs.Cornering.{sum-is}

-- both ends are at most so great, and at most so far apart
pub record Near (apart limit : ℕ) (i : Interval) : Type 0 where
  pub low : ℕ
  pub high : ℕ
  pub lo_is : i.lo ≡ Some (pos low)
  pub hi_is : i.hi ≡ Some (pos high)
  pub ordered : low ≤ high
  pub within : high ≤ limit
  pub close : high ≤ low + apart

-- ---- one length

square-between : (n : ℕ) → n ≤ 128000000000000 → AreBetween (pos 0) (pos (2 ^ 59)) (ratio_of (pos n) 1000000)
square-between n few =
    let floor : pos 0 ≤ℤ floor_of (pos n *ℤ pos unit) 1000000 = omega (arith, ints) in
    let order = floor_of-le-ceil_of (pos n *ℤ pos unit) 1000000 (omega arith) in
    let top : ceil_of (pos n *ℤ pos unit) 1000000 ≤ℤ pos (2 ^ 59) =
    ≤ℤ_trans _ (ceil_of (pos (1000000 * 2 ^ 59)) 1000000) _ (ceil_of-mono (pos n *ℤ pos unit) (pos (1000000 * 2 ^ 59)) 1000000 (omega arith) (rw unit-is (omega (arith, ints)))) (omega (arith, ints)) in
    rw (ratio_of-small (pos n) 1000000 (omega arith))
    (record { lo = (floor, ≤ℤ_trans _ _ _ order top); hi = (≤ℤ_trans _ _ _ floor order, top) })

length-between : (p q : Pt) → AreBetween (pos 0) (pos (2 ^ 46)) (enc (plan_length p q))
unfolding root_range root_limit unit
length-between p q =
    between (pos 0) (pos (2 ^ 46)) {t = plan_length p q}
    (square_root (part-between (pos 0) (pos (2 ^ 59)) {t = Const (pos (plan_square p q)) 1000000} (square-between (plan_square p q) (plan_square-within p q)))) refl

pub near-length : (p q : Pt) → Near 65537 (2 ^ 46) (enc (plan_length p q))
near-length p q =
    let f = path-found (One (direct p q)) p q (enc (plan_length p q)) (refl, refl) in
    let high : IsBetween (pos 0) (pos (2 ^ 46)) (Some (pos f.high)) = subst (IsBetween (pos 0) (pos (2 ^ 46))) f.hi_is (length-between p q).hi in
    record { low = f.low; high = f.high; lo_is = f.lo_is; hi_is = f.hi_is; ordered = f.ordered; within = omega (arith, ints, high.1); close = f.close }

-- ---- sums

pub near-sum : (v w l m : ℕ) (i k : Interval) → Near v l i → Near w m k → l + m < 2 ^ 126 → Near (v + w) (l + m) (add_of i k)
unfolding add_of
near-sum v w l m i k a b small =
    record {
      low = a.low + b.low;
      high = a.high + b.high;
      lo_is = rw (a.lo_is, b.lo_is) (end_of-small (pos a.low +ℤ pos b.low) (omega (arith, ints, a.ordered, b.ordered, a.within, b.within)));
      hi_is = rw (a.hi_is, b.hi_is) (end_of-small (pos a.high +ℤ pos b.high) (omega (arith, ints, a.within, b.within)));
      ordered = omega (arith, a.ordered, b.ordered);
      within = omega (arith, a.within, b.within);
      close = omega (arith, a.close, b.close);
    }

pub near-wider : (v w l m : ℕ) (i : Interval) → Near v l i → v ≤ w → l ≤ m → Near w m i
near-wider v w l m i a h k =
    record { low = a.low; high = a.high; lo_is = a.lo_is; hi_is = a.hi_is; ordered = a.ordered; within = omega (arith, a.within); close = omega (arith, a.close) }

near-zero : Near 0 0 (enc (whole 0))
unfolding ratio_of unit
near-zero = record { low = 0; high = 0; lo_is = refl; hi_is = refl; ordered = omega arith; within = omega arith; close = omega arith }

near-steps : (n : ℕ) (e : Interval) (corner : Pt) (others : List Pt) → n + length others ≤ 65536 → Near (n * 65537) (n * 2 ^ 46) e
    → Near ((n + length others) * 65537) ((n + length others) * 2 ^ 46) (fold add_of e (map enc (steps corner others)))
near-steps n e corner [] few h = near-wider _ _ _ _ e h (omega arith) (omega arith)
near-steps n e corner (next ∷ others) few h =
    let more = near-wider _ ((n + 1) * 65537) _ ((n + 1) * 2 ^ 46) _ (near-sum (n * 65537) 65537 (n * 2 ^ 46) (2 ^ 46) e (enc (plan_length corner next)) h (near-length corner next) (omega (arith, few))) (omega arith) (omega arith) in
    let all = near-steps (n + 1) (add_of e (enc (plan_length corner next))) next others (omega (arith, few)) more in
    near-wider _ _ _ _ _ all (omega arith) (omega arith)

-- from the first corner to the last of at most 2^16
pub near-corners : (first : Pt) (others : List Pt) → length others < 2 ^ 16 → Near (2 ^ 33) (2 ^ 62) (enc (between_corners first others))
near-corners first others few =
    let sum = near-steps 0 (enc (whole 0)) first others (omega (arith, few)) (near-wider _ _ _ _ _ near-zero (omega arith) (omega arith)) in
    subst (Near (2 ^ 33) (2 ^ 62)) (sym (sum-is (whole 0) (steps first others)))
    (near-wider _ _ _ _ _ sum (omega (arith, few)) (omega (arith, few)))

pub near-between : (apart limit : ℕ) (i : Interval) → Near apart limit i → AreBetween (pos 0) (pos limit) i
near-between apart limit i a =
    record { lo = rw a.lo_is (omega (arith, ints), omega (arith, ints, a.ordered, a.within)); hi = rw a.hi_is (omega (arith, ints), omega (arith, ints, a.within)) }
