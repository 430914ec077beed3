-- The eight octave bands, one by one.
use Rattle.std.proofs.Common.{◌≡◌, ◌<◌, map, refl, arith, [], ◌∷◌}
use Rattle.std.specs.Prelude.{slice_index_or}
use Rattle.std.specs.List.{AllByRecursion}
use Rattle.scene_geom.specs.declared.band.Band.{Band}
use Rattle.scene_geom.specs.declared.band.Band.TheVariants.{Hz63, Hz125, Hz250, Hz500, Hz1000, Hz2000, Hz4000, Hz8000}
use Rattle.scene_geom.specs.Bands.{all_bands, place_of, frequency_of}

-- what stands at the place of a band among what the bands give
pub at-place : {X : Type 0} (f : Band → X) (default : X) (band : Band) → slice_index_or (map f all_bands) (place_of band) default ≡ f band
at-place f default Hz63 = refl
at-place f default Hz125 = refl
at-place f default Hz250 = refl
at-place f default Hz500 = refl
at-place f default Hz1000 = refl
at-place f default Hz2000 = refl
at-place f default Hz4000 = refl
at-place f default Hz8000 = refl

pub frequency-positive : (band : Band) → 0 < frequency_of band
frequency-positive Hz63 = omega arith
frequency-positive Hz125 = omega arith
frequency-positive Hz250 = omega arith
frequency-positive Hz500 = omega arith
frequency-positive Hz1000 = omega arith
frequency-positive Hz2000 = omega arith
frequency-positive Hz4000 = omega arith
frequency-positive Hz8000 = omega arith

-- a value that R relates to each band, from eight that it relates to the bands in turn
pub in-each : {T : Type 0} (R : Band → T → Type 0) {a b c d e f g h : T}
    → R Hz63 a → R Hz125 b → R Hz250 c → R Hz500 d → R Hz1000 e → R Hz2000 f → R Hz4000 g → R Hz8000 h
    → (value : Band → T) × AllByRecursion (λ band. R band (value band)) all_bands
    × ((a ∷ b ∷ c ∷ d ∷ e ∷ f ∷ g ∷ h ∷ []) ≡ map value all_bands)
in-each R {a} {b} {c} {d} {e} {f} {g} {h} ra rb rc rd re rf rg rh = (
  elim [ Hz63 ↦ a | Hz125 ↦ b | Hz250 ↦ c | Hz500 ↦ d | Hz1000 ↦ e | Hz2000 ↦ f | Hz4000 ↦ g | Hz8000 ↦ h ],
  (ra, (rb, (rc, (rd, (re, (rf, (rg, (rh, tt)))))))),
  refl,
)
