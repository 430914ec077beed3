-- A_s or A_r of Table 3 as the code keeps it, once for all bands from
-- 2 kHz on, and without that of 63 Hz.
use Rattle.std.specs.Prelude.{◌≡◌, ℕ, pos, Some, List}
use Rattle.fix_interval.specs.Interval.{Interval}
use Rattle.fix_interval.specs.Tree.{Tree, Known, enc}
use Rattle.path_shape.specs.declared.path.Path.{Path}
use Rattle.term_ground.specs.declared.attenuation.EndRegion.{EndRegion}
use Rattle.term_ground.specs.declared.legs.stretch.Regional.{Regional}
use Rattle.term_ground.specs.Ground.{a_prime, b_prime, c_prime, d_prime, end_region_below_2khz, end_region_from_2khz, minus_one_and_a_half, attenuations}

-- with the ground factor of the region, the height at its end, and the plan length
pub record IsEndRegion (region : EndRegion) (share : Interval) (h : ℕ) (dp : Tree) : Type 0 where
  pub at_125 : region.at_125 ≡ enc (end_region_below_2khz (Known share) (a_prime h dp))
  pub at_250 : region.at_250 ≡ enc (end_region_below_2khz (Known share) (b_prime h dp))
  pub at_500 : region.at_500 ≡ enc (end_region_below_2khz (Known share) (c_prime h dp))
  pub at_1000 : region.at_1000 ≡ enc (end_region_below_2khz (Known share) (d_prime h dp))
  pub high : region.high ≡ enc (end_region_from_2khz (Known share))

-- the attenuations, with the ground factors of the regions known
abbrev pub known_attenuations : Regional → Path → List Tree
known_attenuations shares path =
    attenuations (Known shares.source) (Known shares.middle) (Known shares.receiver) path (Known path.dp)

-- no part of the ground is porous
abbrev pub no_factor : Interval
no_factor = record { lo = Some (pos 0); hi = Some (pos 0) }

-- on hard ground
abbrev pub hard : EndRegion
hard = record {
  at_125 = enc minus_one_and_a_half;
  at_250 = enc minus_one_and_a_half;
  at_500 = enc minus_one_and_a_half;
  at_1000 = enc minus_one_and_a_half;
  high = enc minus_one_and_a_half;
}
