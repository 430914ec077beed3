-- The energies that come from a source to a receiver (ISO 9613-2, equation 5).
use Rattle.std.specs.Prelude.{pos, List, map, fold}
use Rattle.fix_interval.specs.Tree.{Tree, Const, Add, Sub, Pick}
use Rattle.scene_parts.specs.Parts.{Source, Receiver, Globals}
use Rattle.scene_book.specs.Book.{Book}
use Rattle.energy_sum.specs.Energies.{energy_form}
use Rattle.energy_sum.specs.Weather.{correction}
use Rattle.scene_geom.specs.declared.band.Band.{Band}
use Rattle.scene_geom.specs.Bands.{all_bands}
use Rattle.path_calc.specs.Weights.{weight_in}
use Rattle.path_calc.specs.Surroundings.{Surroundings, surroundings_of}
use Rattle.path_calc.specs.Contributions.{Counting, Always, WhereGreater, Contribution, contributions}

-- the sum of several quantities, 0 of none
abbrev pub sum_form : List Tree → Tree
sum_form quantities = fold Add (Const (pos 0) 1) quantities

-- an energy where its sound counts, and else 0
abbrev pub where_counting : Counting → Tree → Tree
where_counting Always energy = energy
where_counting (WhereGreater x y) energy = Pick x y energy (Const (pos 0) 1)

-- a level with the A-weight of its band: L + A_f
abbrev pub weighted : Band → Tree → Tree
weighted band level = Add level (Const (weight_in band) 10)

-- that over the weather of a long time (clause 8): L + A_f - C_met
abbrev pub long_term : Band → Tree → Tree → Tree
long_term band c_met level = Sub (weighted band level) c_met

-- C_met of a sound (equations 21 and 22): what its level loses over the weather of a long time, for the distance in
-- plan of its source, or of the source's image in a wall, from the receiver
abbrev pub correction_of : Globals → Source → Receiver → Contribution → Tree
correction_of globals s r sound = correction sound.dp s.h r.h globals.c0

-- the energy of a sound, and its long-term energy in a band, which is A-weighted
abbrev pub energy_of : Contribution → Tree
energy_of sound = where_counting sound.counts (energy_form sound.level)

abbrev pub long_energy_of : Globals → Source → Receiver → Band → Contribution → Tree
long_energy_of globals s r band sound =
    where_counting sound.counts (energy_form (long_term band (correction_of globals s r sound) sound.level))

-- the energy from a source at a receiver in a band
unfoldable pub band_energy : Globals → Surroundings → Source → Receiver → Band → Tree
band_energy globals around s r band = sum_form (map energy_of (contributions globals around s r band))

-- the long-term energy from a source at a receiver in a band, and over all bands
abbrev pub long_energy_in : Globals → Surroundings → Source → Receiver → Band → Tree
long_energy_in globals around s r band =
    sum_form (map (long_energy_of globals s r band) (contributions globals around s r band))

unfoldable pub long_energy : Globals → Surroundings → Source → Receiver → Tree
long_energy globals around s r = sum_form (map (long_energy_in globals around s r) all_bands)

-- the same in a scene
abbrev pub band_energy_between : Book → Source → Receiver → Band → Tree
band_energy_between book s r band = band_energy book.globals (surroundings_of book s r) s r band

abbrev pub long_energy_between : Book → Source → Receiver → Tree
long_energy_between book s r = long_energy book.globals (surroundings_of book s r) s r
