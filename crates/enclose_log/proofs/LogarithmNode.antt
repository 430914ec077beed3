-- The logarithm as a node of a formula: at every interval its value is an interval, and encloses the node.
use Rattle.std.proofs.Common.{◌≡◌, ◌⊎◌, inl, inr, false, refl, arith, ℤ, pos, Option, Some, None}
use Rattle.std.proofs.lemmas.Int.{ints, by_lt_z}
use Rattle.std.specs.Prelude.{int_le}
use Rattle.fix_interval.specs.Interval.{All, IsInterval}
use Rattle.fix_interval.specs.Lawful.{IsLawful}
use Rattle.fix_interval.specs.Lg.{lg_of}
use Rattle.fix_interval.specs.Tree.{Lg}
use Rattle.fix_interval.specs.Encloses.{everything, logarithm}
use Rattle.enclose_log.proofs.LgInterval.{IsPositive, lg_of-interval, lg_of-holds}

-- at an interval that does not lie above 0 nothing is claimed
not-positive : (lo hi : Option ℤ) → (IsPositive lo → ⊥) → lg_of (record { lo = lo; hi = hi }) ≡ All
unfolding lg_of
not-positive None hi never = refl
not-positive (Some z) hi never =
    by_lt_z z (pos 1) (λ below. let e : int_le (pos 1) z ≡ false = grind (arith, ints) in rw e refl) (λ above. absurd (never above))

positive-or-not : (end : Option ℤ) → IsPositive end ⊎ (IsPositive end → ⊥)
positive-or-not None = inr (λ h. h)
positive-or-not (Some z) = by_lt_z z (pos 1) (λ below. inr (λ above. omega (arith, ints, below, above))) (λ above. inl above)

All-interval : IsInterval All
All-interval = record { low_end = tt; high_end = tt; ordered = tt }

pub Lg-lawful : IsLawful Lg lg_of
Lg-lawful = record {
  interval = λ i whole. elim (positive-or-not i.lo) [
    | inl above ↦ lg_of-interval i whole above
    | inr never ↦ rw (not-positive i.lo i.hi never) All-interval
  ];
  encloses = λ a i whole part. elim (positive-or-not i.lo) [
    | inl above ↦ logarithm part (lg_of-holds i whole above)
    | inr never ↦ rw (not-positive i.lo i.hi never) everything
  ];
}
