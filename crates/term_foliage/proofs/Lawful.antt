-- What the attenuation by foliage depends on, and that its formulas are sound.
use Rattle.std.proofs.Common.{◌≡◌, ℕ, ◌-◌, refl, sym, ap, ◌∙◌, arith, Bool, true, false, List, [], ◌∷◌, map}
use Rattle.std.specs.Prelude.{Option, Some, None, IfSome, nat_lt, pos, if◌then◌else◌}
use Rattle.std.specs.List.{All, cons_option, filter_map}
use Rattle.std.specs.Option.{option_map}
use Rattle.fix_interval.specs.Interval.{Interval}
use Rattle.fix_interval.specs.Values.{mul_of}
use Rattle.fix_interval.specs.Tree.{Tree, Known, Const, Add, Max, Min, IsSound, enc}
use Rattle.scene_geom.specs.declared.band.Band.{Band}
use Rattle.scene_geom.specs.declared.band.Band.TheVariants.{Hz63, Hz125, Hz250, Hz500, Hz1000, Hz2000, Hz4000, Hz8000}
use Rattle.scene_geom.specs.Bands.{all_bands}
use Rattle.scene_parts.specs.Parts.{Foliage}
use Rattle.path_shape.specs.declared.path.Path.{Path}
use Rattle.path_shape.specs.Forms.{zero_form, one_form, plus_all}
use Rattle.path_shape.specs.Outlines.{meets_legs, length_on_legs}
use Rattle.path_shape.proofs.Eight.{all_eight}
use Rattle.path_shape.proofs.Outlines.{sound-length_on_legs}
use Rattle.term_foliage.specs.Foliage.{low_stretch, length_in, met_foliage, lengths_in, length_in_all, foliage_distance, foliage_in, attenuations}
use Rattle.term_foliage.specs.Laws.{unnamed}
use Rattle.term_foliage.proofs.Bounds.{in-bands}

-- ---- the same intervals

pub same-length : (foliage : List Foliage) (path : Path) (a b : Tree) → enc a ≡ enc b → map enc (attenuations foliage path a) ≡ map enc (attenuations foliage path b)
same-length foliage path a b e =
    sym (in-bands (foliage_distance foliage path a))
    ∙ ap (λ (i : Interval). map (λ band. enc (foliage_in band (Known (mul_of (enc (Max zero_form (Min one_form (length_in_all foliage path)))) i)))) all_bands) e
    ∙ in-bands (foliage_distance foliage path b)

-- ---- the same foliage

lengths-unnamed : (path : Path) (foliage : List Foliage) → filter_map (length_in path) (map unnamed foliage) ≡ filter_map (length_in path) foliage
lengths-unnamed path [] = refl
lengths-unnamed path (one ∷ rest) = ap (cons_option (length_in path one)) (lengths-unnamed path rest)

pub same-met : (foliage others : List Foliage) (path : Path) (d : Tree) → map unnamed (met_foliage path foliage) ≡ map unnamed (met_foliage path others)
    → attenuations foliage path d ≡ attenuations others path d
same-met foliage others path d e =
    let lengths : lengths_in path foliage ≡ lengths_in path others =
    sym (lengths-unnamed path (met_foliage path foliage)) ∙ ap (filter_map (length_in path)) e ∙ lengths-unnamed path (met_foliage path others) in
    rw lengths refl

still-met : (path : Path) (foliage : List Foliage) → met_foliage path (map unnamed (met_foliage path foliage)) ≡ map unnamed (met_foliage path foliage)
still-met path [] = refl
still-met path (one ∷ rest) = by_test (meets_legs path.legs path.s path.r one.points) refl (still-met path rest) where
  by_test : (met : Bool) → meets_legs path.legs path.s path.r one.points ≡ met
      → met_foliage path (map unnamed (met_foliage path rest)) ≡ map unnamed (met_foliage path rest)
      → met_foliage path (map unnamed (if met then one ∷ met_foliage path rest else met_foliage path rest)) ≡ map unnamed (if met then one ∷ met_foliage path rest else met_foliage path rest)
  by_test true e h = rw e (ap (λ (l : List Foliage). unnamed one ∷ l) h)
  by_test false e h = h

unnamed-twice : (foliage : List Foliage) → map unnamed (map unnamed foliage) ≡ map unnamed foliage
unnamed-twice [] = refl
unnamed-twice (one ∷ rest) = ap (λ (l : List Foliage). unnamed one ∷ l) (unnamed-twice rest)

pub only-met : (foliage : List Foliage) (path : Path) (d : Tree) → attenuations (map unnamed (met_foliage path foliage)) path d ≡ attenuations foliage path d
only-met foliage path d =
    same-met (map unnamed (met_foliage path foliage)) foliage path d
    (ap (map unnamed) (still-met path foliage) ∙ unnamed-twice (met_foliage path foliage))

-- ---- sound formulas

abbrev IsSoundStretch : Tree × Tree → Type 0
IsSoundStretch stretch = IsSound stretch.0 × IsSound stretch.1

sound-stretch : (top hs hr : ℕ) → IfSome (low_stretch top hs hr) IsSoundStretch
sound-stretch top hs hr = by_tests (nat_lt hs top) (nat_lt hr top) refl refl where
  by_tests : (a b : Bool) → nat_lt hs top ≡ a → nat_lt hr top ≡ b
      → IfSome (if a then (if b then Some (zero_form, one_form) else Some (zero_form, Const (pos (top - hs)) (hr - hs))) else (if b then Some (Const (pos (hs - top)) (hs - hr), one_form) else None)) IsSoundStretch
  by_tests true true e f = (omega arith, omega arith)
  by_tests true false e f = (omega arith, grind arith)
  by_tests false true e f = (grind arith, omega arith)
  by_tests false false e f = tt

sound-map : (path : Path) (foliage : Foliage) (stretch : Option (Tree × Tree)) → IfSome stretch IsSoundStretch
    → IfSome (option_map (λ s. length_on_legs path.legs path.s path.r foliage.points s.0 s.1) stretch) IsSound
sound-map path foliage None h = tt
sound-map path foliage (Some stretch) h = sound-length_on_legs path.legs path.s path.r foliage.points stretch.0 stretch.1 h.0 h.1

sound-cons : (term : Option Tree) (terms : List Tree) (total : Tree) → IfSome term IsSound → ((t : Tree) → IsSound t → IsSound (plus_all t terms)) → IsSound total
    → IsSound (plus_all total (cons_option term terms))
sound-cons None terms total h rest sound = rest total sound
sound-cons (Some term) terms total h rest sound = rest (Add total term) (sound, h)

sound-lengths : (path : Path) (foliage : List Foliage) (total : Tree) → IsSound total → IsSound (plus_all total (filter_map (length_in path) foliage))
sound-lengths path [] total sound = sound
sound-lengths path (one ∷ rest) total sound =
    sound-cons (length_in path one) (filter_map (length_in path) rest) total
    (sound-map path one (low_stretch one.h path.hs path.hr) (sound-stretch one.h path.hs path.hr)) (sound-lengths path rest) sound

sound-distance : (foliage : List Foliage) (path : Path) (d : Tree) → IsSound d → IsSound (foliage_distance foliage path d)
sound-distance foliage path d h = ((omega arith, (omega arith, sound-lengths path (met_foliage path foliage) zero_form (omega arith))), h)

sound-band : (band : Band) (df : Tree) → IsSound df → IsSound (foliage_in band df)
unfolding foliage_in
sound-band band df h = (h, omega arith, (omega arith, (h, omega arith)), (omega arith, h, omega arith, omega arith))

pub foliage-sound : (foliage : List Foliage) (path : Path) (d : Tree) → IsSound d → All IsSound (attenuations foliage path d)
foliage-sound foliage path d h =
    let df = foliage_distance foliage path d in
    let sound : IsSound (foliage_distance foliage path d) = sound-distance foliage path d h in
    all_eight IsSound (foliage_in Hz63 df) (foliage_in Hz125 df) (foliage_in Hz250 df) (foliage_in Hz500 df) (foliage_in Hz1000 df) (foliage_in Hz2000 df) (foliage_in Hz4000 df) (foliage_in Hz8000 df)
    (sound-band Hz63 df sound) (sound-band Hz125 df sound) (sound-band Hz250 df sound) (sound-band Hz500 df sound)
    (sound-band Hz1000 df sound) (sound-band Hz2000 df sound) (sound-band Hz4000 df sound) (sound-band Hz8000 df sound)
