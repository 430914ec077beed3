-- Within what limits the attenuation by screening lies.
use Rattle.std.specs.Prelude.{ℕ, ◌*◌, ◌^◌, ℤ, pos, neg_ℤ}
use Rattle.fix_interval.specs.Interval.{Interval}
use Rattle.fix_interval.specs.Bounds.{AreBetween}

-- D_z is at most 25 dB
abbrev pub most_top : ℤ
most_top = pos (25 * 2 ^ 32)

-- so many corners at most are looked at round the sides
abbrev pub most_corners : ℕ
most_corners = 2 ^ 16

-- a distance of at most 2^28 m
abbrev pub IsDistance : Interval → Type 0
IsDistance distance = AreBetween (pos 0) (pos (2 ^ 60)) distance

-- an attenuation by the ground from -16 dB to 2^26 dB
abbrev pub IsGroundEffect : Interval → Type 0
IsGroundEffect attenuation = AreBetween (neg_ℤ (pos (2 ^ 36))) (pos (2 ^ 58)) attenuation

-- an attenuation by screening from 0 dB to 48 dB
abbrev pub IsScreening : Interval → Type 0
IsScreening attenuation = AreBetween (pos 0) (pos (48 * 2 ^ 32)) attenuation
