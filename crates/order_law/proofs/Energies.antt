-- That the energies from a source to a receiver are the same for scenes of the same parts.
use Rattle.std.proofs.Common.{◌≡◌, ◌≤◌, pos, sym, ◌∙◌, map}
use Rattle.fix_interval.specs.Values.{less_of}
use Rattle.fix_interval.specs.Tree.{Tree, Const, enc}
use Rattle.energy_sum.specs.Energies.{energy_form}
use Rattle.scene_geom.specs.declared.band.Band.{Band}
use Rattle.scene_geom.specs.Bands.{all_bands}
use Rattle.scene_parts.specs.Parts.{Source, Receiver, Globals}
use Rattle.scene_book.specs.Book.{Book}
use Rattle.path_calc.specs.Contributions.{Counting, Always, WhereGreater, Contribution, contributions, emission_in}
use Rattle.path_calc.specs.Energies.{sum_form, where_counting, long_term, correction_of, energy_of, long_energy_of, band_energy, long_energy_in, long_energy}
use Rattle.path_calc.specs.Surroundings.{surroundings_of}
use Rattle.path_calc.proofs.Alike.{same-lists}
use Rattle.term_barrier.proofs.Lists.{map-map, map-same}
use Rattle.order_law.proofs.Ends.{NotNegative, IsPositive, ratio-positive, ten-positive, pick-keeps}
use Rattle.order_law.proofs.Sums.{sums-alike, sum-positive, each-made}
use Rattle.order_law.proofs.Sounds.{AreAlike, sounds-alike}

-- ---- the energy of a sound

counting-alike : (counts : Counting) (x y : Tree) → enc x ≡ enc y → enc (where_counting counts x) ≡ enc (where_counting counts y)
counting-alike Always x y e = e
counting-alike (WhereGreater p q) x y e = rw e

counting-positive : (counts : Counting) (energy : Tree) → IsPositive (enc energy) → IsPositive (enc (where_counting counts energy))
counting-positive Always energy h = h
counting-positive (WhereGreater x y) energy h = pick-keeps NotNegative (less_of (enc y) (enc x)) (enc energy) (enc (Const (pos 0) 1)) h (ratio-positive 0 1)

energy-by-level : (x y dp : Tree) (counts : Counting) → enc x ≡ enc y → enc (energy_of (record { level = x; dp = dp; counts = counts })) ≡ enc (energy_of (record { level = y; dp = dp; counts = counts }))
energy-by-level x y dp counts e = counting-alike counts (energy_form x) (energy_form y) (rw e)

energy-positive : (sound : Contribution) → IsPositive (enc (energy_of sound))
energy-positive sound = counting-positive sound.counts (energy_form sound.level) (ten-positive _)

module _ (globals : Globals) (s : Source) (r : Receiver) (band : Band) where
  long-by-level : (x y dp : Tree) (counts : Counting) → enc x ≡ enc y
      → enc (long_energy_of globals s r band (record { level = x; dp = dp; counts = counts })) ≡ enc (long_energy_of globals s r band (record { level = y; dp = dp; counts = counts }))
  long-by-level x y dp counts e =
      let c_met = correction_of globals s r (record { level = x; dp = dp; counts = counts }) in
      counting-alike counts (energy_form (long_term band c_met x)) (energy_form (long_term band c_met y)) (rw e)

  long-positive : (sound : Contribution) → IsPositive (enc (long_energy_of globals s r band sound))
  long-positive sound = counting-positive sound.counts (energy_form (long_term band (correction_of globals s r sound) sound.level)) (ten-positive _)

-- ---- sums over the sounds

module _ (a b : Book) (s : Source) (r : Receiver) (globals : Globals) (outside : globals.g ≤ 100) (alike : AreAlike a b) where
  sum-alike : (band : Band) (energy : Contribution → Tree) → ((x y dp : Tree) (counts : Counting) → enc x ≡ enc y → enc (energy (record { level = x; dp = dp; counts = counts })) ≡ enc (energy (record { level = y; dp = dp; counts = counts })))
      → ((sound : Contribution) → IsPositive (enc (energy sound)))
      → enc (sum_form (map energy (contributions globals (surroundings_of a s r) s r band))) ≡ enc (sum_form (map energy (contributions globals (surroundings_of b s r) s r band)))
  sum-alike band energy by-level positive =
      let xs = contributions globals (surroundings_of a s r) s r band in
      let ys = contributions globals (surroundings_of b s r) s r band in
      let heard = sounds-alike (λ sound. enc (energy sound)) by-level a b s r band globals outside alike (emission_in band s) in
      sums-alike (map energy xs) (map energy ys)
      (rw (map-map enc energy xs, map-map enc energy ys) heard)
      (each-made energy positive xs)

  pub band-energy-alike : (band : Band) → enc (band_energy globals (surroundings_of a s r) s r band) ≡ enc (band_energy globals (surroundings_of b s r) s r band)
  unfolding band_energy
  band-energy-alike band = sum-alike band energy_of energy-by-level energy-positive

  long-in-alike : (band : Band) → enc (long_energy_in globals (surroundings_of a s r) s r band) ≡ enc (long_energy_in globals (surroundings_of b s r) s r band)
  long-in-alike band = sum-alike band (long_energy_of globals s r band) (long-by-level globals s r band) (long-positive globals s r band)

  pub long-energy-alike : enc (long_energy globals (surroundings_of a s r) s r) ≡ enc (long_energy globals (surroundings_of b s r) s r)
  unfolding long_energy
  long-energy-alike =
      let there = long_energy_in globals (surroundings_of a s r) s r in
      let here = long_energy_in globals (surroundings_of b s r) s r in
      same-lists (map there all_bands) (map here all_bands)
      (map-map enc there all_bands ∙ map-same (λ band. enc (there band)) (λ band. enc (here band)) long-in-alike all_bands ∙ sym (map-map enc here all_bands))

-- ---- that they aren't negative

module _ (book : Book) (s : Source) (r : Receiver) (globals : Globals) where
  pub band-energy-positive : (band : Band) → IsPositive (enc (band_energy globals (surroundings_of book s r) s r band))
  unfolding band_energy
  band-energy-positive band =
      let sounds = contributions globals (surroundings_of book s r) s r band in sum-positive (map energy_of sounds) (each-made energy_of energy-positive sounds)

  pub long-energy-positive : IsPositive (enc (long_energy globals (surroundings_of book s r) s r))
  unfolding long_energy
  long-energy-positive =
      let long = λ (band : Band). long_energy_in globals (surroundings_of book s r) s r band in
      sum-positive (map long all_bands)
      (each-made long
      (λ band. let sounds = contributions globals (surroundings_of book s r) s r band in sum-positive (map (long_energy_of globals s r band) sounds) (each-made (long_energy_of globals s r band) (long-positive globals s r band) sounds)) all_bands)
