-- When a fault may be answered: where the count of faults of the object that was handed in rose.
use Rattle.std.specs.Prelude.{◌≡◌, ◌+◌, ◌-◌, ◌^◌, ◌≤◌, min, ℕ, Result, OnOk, OnErr}

-- a count of 64 bits goes up, and stands still at its last value
abbrev pub one_more : ℕ → ℕ
one_more n = min (n + 1) (2 ^ 64 - 1)

-- A count of faults rose, or it stands at the last value of its 64 bits.
abbrev pub Rose : ℕ → ℕ → Type 0
Rose before now = one_more before ≤ now

-- A count of faults is as before where the call was answered, and rose where it failed. It never falls.
pub record HasCause {T E : Type 0} (before now : ℕ) (result : Result T E) : Type 0 where
  pub answered : OnOk result (now ≡ before)
  pub failed : OnErr result (Rose before now)
  pub later : before ≤ now
