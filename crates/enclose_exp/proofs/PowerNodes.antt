-- The two powers as nodes of a formula: at every interval their values are intervals, and enclose the nodes.
use Rattle.std.proofs.Common.{◌≡◌, ◌⊎◌, inl, inr, false, refl, arith, ℤ, pos, Option, Some, None}
use Rattle.std.proofs.lemmas.Int.{ints, by_lt_z}
use Rattle.std.specs.Prelude.{int_le}
use Rattle.fix_interval.specs.Interval.{All, IsInterval}
use Rattle.fix_interval.specs.Lawful.{IsLawful}
use Rattle.fix_interval.specs.Ten.{ten_of}
use Rattle.fix_interval.specs.ExpNeg.{exp_neg_of}
use Rattle.fix_interval.specs.Tree.{Ten, ExpNeg}
use Rattle.fix_interval.specs.Encloses.{everything, ten_power, decay}
use Rattle.enclose_exp.proofs.TenInterval.{ten_of-interval, ten_of-holds}
use Rattle.enclose_exp.proofs.DecayInterval.{IsNotNegative, exp_neg_of-interval, exp_neg_of-holds}

pub Ten-lawful : IsLawful Ten ten_of
Ten-lawful = record {
  interval = ten_of-interval;
  encloses = λ a i whole part. ten_power part (ten_of-holds i);
}

-- at an interval that reaches below 0 nothing is claimed of the decay
negative : (lo hi : Option ℤ) → (IsNotNegative lo → ⊥) → exp_neg_of (record { lo = lo; hi = hi }) ≡ All
unfolding exp_neg_of
negative None hi never = refl
negative (Some z) hi never =
    by_lt_z z (pos 0) (λ below. let e : int_le (pos 0) z ≡ false = grind (arith, ints) in rw e refl) (λ above. absurd (never above))

negative-or-not : (end : Option ℤ) → IsNotNegative end ⊎ (IsNotNegative end → ⊥)
negative-or-not None = inr (λ h. h)
negative-or-not (Some z) = by_lt_z z (pos 0) (λ below. inr (λ above. omega (arith, ints, below, above))) (λ above. inl above)

All-interval : IsInterval All
All-interval = record { low_end = tt; high_end = tt; ordered = tt }

pub ExpNeg-lawful : IsLawful ExpNeg exp_neg_of
ExpNeg-lawful = record {
  interval = λ i whole. elim (negative-or-not i.lo) [
    | inl start ↦ exp_neg_of-interval i whole start
    | inr never ↦ rw (negative i.lo i.hi never) All-interval
  ];
  encloses = λ a i whole part. elim (negative-or-not i.lo) [
    | inl start ↦ decay part (exp_neg_of-holds i whole start)
    | inr never ↦ rw (negative i.lo i.hi never) everything
  ];
}
