-- Bundles: all that a receiver has from one source.
use Rattle.std.specs.Prelude.{◌≡◌, ℕ, ◌<◌, ◌≤◌, ◌^◌, ◌⊎◌, pos, ◌≤ℤ◌, ◌<ℤ◌, List, length, map, sum_by, All, IsSomeAnd, slice_index_or}
use Rattle.scene_geom.specs.declared.plan.Pt.{Pt}
use Rattle.scene_parts.specs.Parts.{Source, Receiver, Globals}
use Rattle.scene_book.specs.Book.{Book}
use Rattle.fix_interval.specs.Interval.{Interval}
use Rattle.fix_interval.specs.Tree.{enc}
use Rattle.energy_sum.specs.Sums.{units_of}
use Rattle.scene_geom.specs.declared.band.Band.{Band}
use Rattle.scene_geom.specs.Bands.{all_bands, place_of}
use Rattle.path_calc.specs.declared.bundles.segments.Seg.{Seg}
use Rattle.path_calc.specs.Segments.{FitsSegment}
use Rattle.path_calc.specs.Surroundings.{Surroundings, ends_of, surroundings_of}
use Rattle.path_calc.specs.Trace.{trace_along}
use Rattle.path_calc.specs.Energies.{band_energy, long_energy}

-- What a receiver has from one source. Its levels add up from the downwind energy in each band and the A-weighted
-- energy of a long time over all bands; by the source's name, its place and height in mm and the plan segments along
-- which the scene was read it is known which later edits touch them
pub record Bundle : Type 0 where
  pub source : List ℕ
  pub at : Pt
  pub h : ℕ
  pub segs : List Seg
  pub energy : List Interval
  pub long : Interval

-- the bundle of a source and a receiver, of what holds of the whole scene and of what they read of its parts
abbrev pub bundle_over : Globals → Surroundings → Source → Receiver → Bundle
bundle_over globals around s r = record {
  source = s.name;
  at = s.at;
  h = s.h;
  segs = trace_along around (ends_of s r);
  energy = map (λ band. enc (band_energy globals around s r band)) all_bands;
  long = enc (long_energy globals around s r);
}

-- the bundle of a source and a receiver in a scene
abbrev pub bundle_of : Book → Source → Receiver → Bundle
bundle_of book s r = bundle_over book.globals (surroundings_of book s r) s r

-- every energy of a bundle is below this, in units of 2^-32
abbrev pub energy_limit : ℕ
energy_limit = 2 ^ 114

-- an energy isn't below 0, and is below the limit
pub record IsEnergy (e : Interval) : Type 0 where
  pub low : IsSomeAnd e.lo (λ z. pos 0 ≤ℤ z)
  pub high : IsSomeAnd e.hi (λ z. (pos 0 ≤ℤ z) × (z <ℤ pos energy_limit))

-- what every bundle keeps
pub record IsBundle (bundle : Bundle) : Type 0 where
  pub fit : All FitsSegment bundle.segs
  pub bands : length bundle.energy ≡ 8
  pub energy : All IsEnergy bundle.energy
  pub long : IsEnergy bundle.long

-- the energy in a band
abbrev pub energy_in : Band → Bundle → Interval
energy_in band bundle = slice_index_or bundle.energy (place_of band) bundle.long

-- the sums of high ends over some bundles stay below 2^126, in each band and over all bands
pub record HighEndsFit (bundles : List Bundle) : Type 0 where
  pub bands : (band : Band) → sum_by (λ bundle. units_of (energy_in band bundle).hi) bundles < 2 ^ 126
  pub long : sum_by (λ bundle. units_of bundle.long.hi) bundles < 2 ^ 126

-- so many bundles can be added whatever their energies are
abbrev pub few_bundles : ℕ
few_bundles = 4096

-- bundles that can be added: a few, or such as have energies that fit
abbrev pub CanBeAdded : List Bundle → Type 0
CanBeAdded bundles = (length bundles ≤ few_bundles) ⊎ HighEndsFit bundles
