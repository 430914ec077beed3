-- Between which bounds the quantities of a path lie.
use Rattle.std.specs.Prelude.{ℕ, ◌+◌, ◌-◌, ◌*◌, ◌^◌, ℤ, pos, neg_ℤ, ◌≤ℤ◌, ◌≤◌, List, All, IfSome, length, unsigned_abs}
use Rattle.fix_interval.specs.Interval.{Interval}
use Rattle.fix_interval.specs.Bounds.{AreBetween}
use Rattle.term_barrier.specs.Limits.{IsScreening}
use Rattle.scene_geom.specs.declared.plan.Pt.{Pt}
use Rattle.scene_geom.specs.declared.fractions.fraction.Frac.{Frac}
use Rattle.scene_geom.specs.Reflection.{longest_wall}
use Rattle.scene_book.specs.Book.{most_sides}
use Rattle.edge_chain.specs.Laws.{way_along_axes}
use Rattle.path_calc.specs.declared.lateral.LateralScreening.{LateralScreening}
use Rattle.path_calc.specs.declared.energies.paths.Paths.{Paths}
use Rattle.path_calc.specs.inner.Propagations.{IsPropagation}

-- a sound power level and a directivity correction in range, in 0.01 dB
pub record IsPower (z : ℤ) : Type 0 where
  pub low : neg_ℤ (pos 2000) ≤ℤ z
  pub high : z ≤ℤ pos 16000

pub record IsDirectivity (z : ℤ) : Type 0 where
  pub low : neg_ℤ (pos 3000) ≤ℤ z
  pub high : z ≤ℤ pos 2000

-- a directivity correction from -30 dB to 20 dB, an A-weight from -30 dB to 2 dB
abbrev pub IsCorrection : Interval → Type 0
IsCorrection correction = AreBetween (neg_ℤ (pos (30 * 2 ^ 32))) (pos (20 * 2 ^ 32)) correction

abbrev pub IsWeight : Interval → Type 0
IsWeight weight = AreBetween (neg_ℤ (pos (30 * 2 ^ 32))) (pos (2 * 2 ^ 32)) weight

-- a distance of at most 2^15 m, which is more than between any two places of the map
abbrev pub IsOnMap : Interval → Type 0
IsOnMap distance = AreBetween (pos 0) (pos (2 ^ 47)) distance

-- corners that lead no farther than a chain does, in mm
abbrev pub IsShort : List Pt → Type 0
IsShort corners = way_along_axes corners ≤ 48000000

-- an attenuation by screening round each side, where sound goes there
pub record IsLateralScreening (lateral : LateralScreening) : Type 0 where
  pub left : IfSome lateral.left IsScreening
  pub right : IfSome lateral.right IsScreening

-- all paths; those by way of walls are no more than a scene has sides
pub record AreInRange (paths : Paths) : Type 0 where
  pub direct : IsPropagation paths.direct
  pub lateral : All IsLateralScreening paths.lateral.items
  pub few : length paths.reflected.items ≤ most_sides

-- the square of the plan length of a path, in mm²: of at most 25,299 m
pub record IsPathSquare (square : Frac) : Type 0 where
  pub from_zero : pos 0 ≤ℤ square.n
  pub length : unsigned_abs square.n ≤ 640000000000000 * unsigned_abs square.d
  pub wall : unsigned_abs square.d ≤ longest_wall ^ 2

-- a level before screening and one at a receiver, at most 185 dB, and one of which there is an energy, at most 189 dB
abbrev pub IsUnscreened : Interval → Type 0
IsUnscreened level = AreBetween (neg_ℤ (pos (2 ^ 60 - 80 * 2 ^ 32))) (pos (185 * 2 ^ 32)) level

-- one past what screens it, from which foliage takes off 25 dB at most
abbrev pub IsScreened : Interval → Type 0
IsScreened level = AreBetween (neg_ℤ (pos (2 ^ 60 - 32 * 2 ^ 32))) (pos (185 * 2 ^ 32)) level

abbrev pub IsAtReceiver : Interval → Type 0
IsAtReceiver level = AreBetween (neg_ℤ (pos (2 ^ 60))) (pos (185 * 2 ^ 32)) level

abbrev pub IsHearable : Interval → Type 0
IsHearable level = AreBetween (neg_ℤ (pos (2 ^ 61))) (pos (189 * 2 ^ 32)) level

-- the greatest energy of a sound, in units of 2^-32
abbrev pub sound_limit : ℕ
sound_limit = 2 ^ 96

-- so many sounds reach a receiver in a band at most: one over the top, one round each side, and one by way of each side
-- of an obstacle
abbrev pub most_sounds : ℕ
most_sounds = 3 + most_sides

-- the sum of the energies of so many sounds
abbrev pub IsSumOf : ℕ → Interval → Type 0
IsSumOf count e = AreBetween (pos 0) (pos (count * sound_limit)) e

-- both ends are at most 2^120 units from 0, so that the ends of a sum and of a difference are bounded
abbrev pub IsSmall : Interval → Type 0
IsSmall i = AreBetween (neg_ℤ (pos (2 ^ 120))) (pos (2 ^ 120)) i
