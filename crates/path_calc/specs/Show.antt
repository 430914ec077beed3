-- What the map shows of a receiver.
use Rattle.std.specs.Prelude.{List, map, filter}
use Rattle.fix_interval.specs.Tree.{Tree}
use Rattle.scene_parts.specs.Parts.{Source, Receiver}
use Rattle.scene_book.specs.Book.{Book}
use Rattle.energy_sum.specs.Energies.{level_form}
use Rattle.scene_geom.specs.declared.band.Band.{Band}
use Rattle.path_calc.specs.Lengths.{is_within}
use Rattle.path_calc.specs.Energies.{sum_form, band_energy_between, long_energy_between}
use Rattle.path_calc.specs.Bundles.{Bundle, bundle_of}
use Rattle.path_calc.specs.Levels.{Levels, levels_of}

-- the sources within reach of a receiver, in the order of the scene
abbrev pub sources_within : Book → Receiver → List Source
sources_within book r = filter (λ s. is_within book.globals.reach s.at r.at) book.sources

-- their bundles
abbrev pub bundles_of : Book → Receiver → List Bundle
bundles_of book r = map (λ s. bundle_of book s r) (sources_within book r)

-- the levels that a receiver has in a scene
unfoldable pub show_of : Book → Receiver → Levels
show_of book r = levels_of (bundles_of book r)

-- The A-weighted long-term level of a receiver as one formula: of all sounds of all sources within reach, in all bands
-- (equations 3 to 6)
unfoldable pub total_form : Book → Receiver → Tree
total_form book r =
    level_form (sum_form (map (λ s. long_energy_between book s r) (sources_within book r)))

-- its level in a band as one formula
unfoldable pub band_form : Book → Receiver → Band → Tree
band_form book r band =
    level_form (sum_form (map (λ s. band_energy_between book s r band) (sources_within book r)))
