-- That what the map shows of a receiver is the same for scenes of the same parts.
use Rattle.std.proofs.Common.{◌≡◌, ℕ, suc, ◌≤◌, arith, sym, ap, ◌∙◌, List, [], ◌∷◌, map}
use Rattle.std.specs.Prelude.{All}
use Rattle.fix_interval.specs.Interval.{Interval}
use Rattle.fix_interval.specs.Tree.{Tree, enc}
use Rattle.scene_geom.specs.declared.band.Band.{Band}
use Rattle.scene_geom.specs.Bands.{all_bands}
use Rattle.scene_parts.specs.Parts.{Source, Receiver, AreGlobals}
use Rattle.scene_book.specs.Orders.{Shuffled, SameParts}
use Rattle.scene_book.specs.Book.{Book, IsWithin}
use Rattle.scene_undo.specs.Scenes.{IsScene, IsZoneWithin, IsFoliageWithin}
use Rattle.path_calc.specs.Lengths.{is_within}
use Rattle.path_calc.specs.Energies.{sum_form, band_energy_between, long_energy_between}
use Rattle.path_calc.specs.Levels.{Levels}
use Rattle.path_calc.specs.Show.{sources_within, show_of, total_form, band_form}
use Rattle.path_calc.proofs.Showing.{total-shown, bands-shown}
use Rattle.path_calc.proofs.Eight.{map-same}
use Rattle.term_barrier.proofs.Lists.{map-map}
use Rattle.order_law.specs.Laws.{OrderLaw, ShownLaw}
use Rattle.order_law.proofs.Shuffles.{Each, AreFew, maps-shuffled, filter-shuffled}
use Rattle.order_law.proofs.Sums.{sums-alike, each-made}
use Rattle.order_law.proofs.Sounds.{AreAlike}
use Rattle.order_law.proofs.Energies.{band-energy-alike, band-energy-positive, long-energy-alike, long-energy-positive}
use Rattle.order_law.proofs.Ends.{IsPositive}

-- ---- sums over sources

module _ (a b : Book) (r : Receiver) (globals : b.globals ≡ a.globals) (sources : Shuffled a.sources b.sources) where
  within-alike : Shuffled (sources_within a r) (sources_within b r)
  within-alike =
      rw globals (filter-shuffled (λ (s : Source). is_within a.globals.reach s.at r.at) sources)

  sources-alike : (there here : Source → Tree) → ((s : Source) → enc (there s) ≡ enc (here s)) → ((s : Source) → IsPositive (enc (there s)))
      → enc (sum_form (map there (sources_within a r))) ≡ enc (sum_form (map here (sources_within b r)))
  sources-alike there here alike positive =
      sums-alike (map there (sources_within a r)) (map here (sources_within b r))
      (rw (map-map enc there (sources_within a r), map-map enc here (sources_within b r))
      (maps-shuffled (λ s. enc (there s)) (λ s. enc (here s)) alike within-alike))
      (each-made there positive (sources_within a r))

-- ---- levels

levels-alike : (x y : Levels) → x.total ≡ y.total → x.bands ≡ y.bands → x ≡ y
levels-alike x y e f = both x.total y.total x.bands y.bands e f where
  both : (t u : Interval) (ts us : List Interval) → t ≡ u → ts ≡ us → ◌≡◌ {A = Levels} (record { total = t; bands = ts }) (record { total = u; bands = us })
  both t u ts us e f = rw (e, f)

module _ (a b : Book) (r : Receiver) (alike : SameParts a b) (outside : a.globals.g ≤ 100) (few_zones : AreFew IsZoneWithin a.zones) (few_foliage : AreFew IsFoliageWithin a.foliage) where
  read-alike : AreAlike a b
  read-alike = record { obstacles = alike.lists.obstacles; zones = alike.lists.zones; foliage = alike.lists.foliage; few_zones = few_zones; few_foliage = few_foliage }

  long-between : (s : Source) → enc (long_energy_between a s r) ≡ enc (long_energy_between b s r)
  long-between s = rw alike.globals (long-energy-alike a b s r a.globals outside read-alike)

  band-between : (band : Band) (s : Source) → enc (band_energy_between a s r band) ≡ enc (band_energy_between b s r band)
  band-between band s = rw alike.globals (band-energy-alike a b s r a.globals outside read-alike band)

  total-alike : enc (total_form a r) ≡ enc (total_form b r)
  unfolding total_form
  total-alike =
      rw (sources-alike a b r alike.globals alike.lists.sources (λ s. long_energy_between a s r) (λ s. long_energy_between b s r) long-between (λ s. long-energy-positive a s r a.globals))

  band-alike : (band : Band) → enc (band_form a r band) ≡ enc (band_form b r band)
  unfolding band_form
  band-alike band =
      rw (sources-alike a b r alike.globals alike.lists.sources (λ s. band_energy_between a s r band) (λ s. band_energy_between b s r band) (band-between band) (λ s. band-energy-positive a s r a.globals band))

  -- with no more of a scene than that its zones and its foliage are few
  pub show-alike : show_of a r ≡ show_of b r
  show-alike =
      levels-alike (show_of a r) (show_of b r)
      (total-shown a r ∙ total-alike ∙ sym (total-shown b r))
      (bands-shown a r ∙ map-same (λ band. enc (band_form a r band)) (λ band. enc (band_form b r band)) band-alike all_bands ∙ sym (bands-shown b r))

-- ---- scenes

each-of : {A : Type 0} (P : A → Type 0) (xs : List A) → All P xs → Each P xs
each-of P [] all = tt
each-of P (x ∷ xs) all = (all 0 x (omega arith), each-of P xs (λ k d below. all (suc k) d (omega arith)))

-- with the ranges of its zones, its foliage and its globals
pub scene-alike : (a b : Book) (r : Receiver) → SameParts a b → IsWithin a → All IsZoneWithin a.zones → All IsFoliageWithin a.foliage → AreGlobals a.globals → show_of a r ≡ show_of b r
scene-alike a b r alike within zones foliage globals =
    show-alike a b r alike globals.ground_factor
    (record { count = within.lists.zones; each = each-of IsZoneWithin a.zones zones })
    (record { count = within.lists.foliage; each = each-of IsFoliageWithin a.foliage foliage })

pub order-law : OrderLaw
order-law a b r scene alike = scene-alike a b r alike scene.within scene.zones scene.foliage scene.globals

-- rows that are made of receivers and their levels
pub rows-shuffled : {X : Type 0} (row : Receiver → Levels → X) (a b : Book) → IsScene a → SameParts a b
    → Shuffled (map (λ r. row r (show_of a r)) a.receivers) (map (λ r. row r (show_of b r)) b.receivers)
rows-shuffled row a b scene alike =
    maps-shuffled (λ r. row r (show_of a r)) (λ r. row r (show_of b r)) (λ r. ap (row r) (order-law a b r scene alike)) alike.lists.receivers

pub shown-law : ShownLaw
shown-law = rows-shuffled named where
  named : Receiver → Levels → List ℕ × Levels
  named r levels = (r.name, levels)
