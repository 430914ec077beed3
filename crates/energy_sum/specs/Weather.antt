-- The meteorological correction (ISO 9613-2, clause 8, equations 21 and 22), in dB. Heights are in mm.
use Rattle.std.specs.Prelude.{ℕ, ◌<◌, ◌≤◌, ◌+◌, ◌*◌, ◌^◌, pos, neg_ℤ, ◌+ℤ◌, ◌≤ℤ◌, IsSomeAnd}
use Rattle.fix_interval.specs.Interval.{Interval}
use Rattle.fix_interval.specs.Bounds.{AreBetween}
use Rattle.fix_interval.specs.Tree.{Tree, Const, Sub, Mul, Div, Pick}

-- 10 (h_s + h_r), in metres: the correction begins where the plan length is greater
abbrev pub correction_from : ℕ → ℕ → Tree
correction_from hs hr = Const (pos (10 * (hs + hr))) 1000

-- C_met: C_0 (1 - 10 (h_s + h_r) / d_p) of a path whose plan length d_p is beyond that, and 0 of a shorter one, with
-- C_0 in hundredths of a dB
unfoldable pub correction : Tree → ℕ → ℕ → ℕ → Tree
correction dp hs hr c0 =
    Pick
    dp
    (correction_from hs hr)
    (Mul (Const (pos c0) 100) (Sub (Const (pos 1) 1) (Div (correction_from hs hr) dp)))
    (Const (pos 0) 1)

-- a plan length from 0 m to 2^24 m, both ends at most 2^-15 m apart
pub record IsLengthInPlan (dp : Interval) : Type 0 where
  pub bounds : AreBetween (pos 0) (pos (2 ^ 56)) dp
  pub close : IsSomeAnd dp.lo (λ low. IsSomeAnd dp.hi (λ high. high ≤ℤ (low +ℤ pos (2 ^ 17))))

-- source and receiver are at most 100 m above ground, and not both on it, and C_0 is at most 10 dB
pub record IsCorrectable (hs hr c0 : ℕ) : Type 0 where
  pub source : hs ≤ 100000
  pub receiver : hr ≤ 100000
  pub above_ground : 0 < hs + hr
  pub most : c0 ≤ 1000

-- from -1 dB to 10 dB: that it isn't negative can't be seen where d_p and 10 (h_s + h_r) can't be told apart
abbrev pub IsWeatherCorrection : Interval → Type 0
IsWeatherCorrection = AreBetween (neg_ℤ (pos (2 ^ 32))) (pos (10 * 2 ^ 32))
