-- Bundles whose energies can be added.
use Rattle.std.proofs.Common.{◌<◌, ◌≤◌, ◌^◌, List, length, inl, inr}
use Rattle.std.specs.Prelude.{◌⊎◌, sum_by}
use Rattle.energy_sum.specs.Sums.{units_of}
use Rattle.scene_geom.specs.declared.band.Band.{Band}
use Rattle.path_calc.specs.Bundles.{Bundle, CanBeAdded, few_bundles, energy_in}

pub bands-can : (band : Band) (bundles : List Bundle) → CanBeAdded bundles → (length bundles ≤ few_bundles) ⊎ (sum_by (λ bundle. units_of (energy_in band bundle).hi) bundles < 2 ^ 126)
bands-can band bundles (inl few) = inl few
bands-can band bundles (inr fit) = inr (fit.bands band)

pub long-can : (bundles : List Bundle) → CanBeAdded bundles → (length bundles ≤ few_bundles) ⊎ (sum_by (λ bundle. units_of bundle.long.hi) bundles < 2 ^ 126)
long-can bundles (inl few) = inl few
long-can bundles (inr fit) = inr fit.long
