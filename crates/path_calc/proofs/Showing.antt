-- What the map shows of a receiver are the intervals of whole formulas.
use Rattle.std.proofs.Common.{◌≡◌, pos, List, [], ◌∷◌, map, refl, ap, ◌∙◌}
use Rattle.fix_interval.specs.Interval.{Interval}
use Rattle.fix_interval.specs.Tree.{Tree, Known, Const, enc}
use Rattle.energy_sum.specs.Energies.{level_form}
use Rattle.scene_parts.specs.Parts.{Source, Receiver}
use Rattle.scene_book.specs.Book.{Book}
use Rattle.scene_geom.specs.declared.band.Band.{Band}
use Rattle.scene_geom.specs.Bands.{all_bands}
use Rattle.path_calc.specs.Energies.{sum_form, band_energy_between, long_energy_between}
use Rattle.path_calc.specs.Bundles.{Bundle, bundle_of, energy_in}
use Rattle.path_calc.specs.Levels.{level_in, level_of, total_of, band_level_of}
use Rattle.path_calc.specs.Show.{sources_within, bundles_of, show_of, total_form, band_form}
use Rattle.path_calc.proofs.Sums.{sum-of-intervals}
use Rattle.path_calc.proofs.Eight.{at-place, map-same}

of-bundles : (f : Bundle → Interval) (bundle : Source → Bundle) (form : Source → Tree) → ((s : Source) → f (bundle s) ≡ enc (form s)) → (sources : List Source) → map f (map bundle sources) ≡ map enc (map form sources)
of-bundles f bundle form is [] = refl
of-bundles f bundle form is (s ∷ sources) = ap (λ i. i ∷ map f (map bundle sources)) (is s) ∙ ap (λ is. enc (form s) ∷ is) (of-bundles f bundle form is sources)

-- the level of the energies of several sources is that of their formulas
level-of-forms : (f : Bundle → Interval) (bundle : Source → Bundle) (form : Source → Tree) → ((s : Source) → f (bundle s) ≡ enc (form s)) → (sources : List Source) → level_of (map f (map bundle sources)) ≡ enc (level_form (sum_form (map form sources)))
unfolding level_of
level-of-forms f bundle form is sources =
    ap (λ (i : Interval). enc (level_form (Known i)))
    (sum-of-intervals (Const (pos 0) 1) (map form sources) (map f (map bundle sources)) (of-bundles f bundle form is sources))

pub total-shown : (book : Book) (r : Receiver) → (show_of book r).total ≡ enc (total_form book r)
unfolding show_of total_form
total-shown book r =
    level-of-forms (λ bundle. bundle.long) (λ s. bundle_of book s r) (λ s. long_energy_between book s r) (λ s. refl) (sources_within book r)

band-level : (book : Book) (r : Receiver) (band : Band) → band_level_of (bundles_of book r) band ≡ enc (band_form book r band)
unfolding band_form
band-level book r band =
    level-of-forms (energy_in band) (λ s. bundle_of book s r) (λ s. band_energy_between book s r band)
    (λ s. at-place (λ band. enc (band_energy_between book s r band)) (enc (long_energy_between book s r)) band) (sources_within book r)

pub bands-shown : (book : Book) (r : Receiver) → (show_of book r).bands ≡ map (λ band. enc (band_form book r band)) all_bands
unfolding show_of
bands-shown book r = map-same (band_level_of (bundles_of book r)) (λ band. enc (band_form book r band)) (band-level book r) all_bands

pub band-shown : (book : Book) (r : Receiver) (band : Band) → level_in band (show_of book r) ≡ enc (band_form book r band)
unfolding show_of
band-shown book r band =
    at-place (band_level_of (bundles_of book r)) (total_of (bundles_of book r)) band ∙ band-level book r band
