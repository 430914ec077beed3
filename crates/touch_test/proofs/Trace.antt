-- What stands in a trace: the direct line, the legs of every reflection, and the strings of every band, also of those
-- bands that list none of their own since the same obstacles screen in the band before.
use Rattle.std.proofs.Common.{◌≡◌, refl, sym, ap, subst, ◌∙◌, Bool, true, false, List, [], ◌∷◌, map}
use Rattle.std.specs.Prelude.{Some, flat_map}
use Rattle.std.specs.List.{list_any}
use Rattle.std.specs.Option.{option_map}
use Rattle.scene_geom.specs.declared.plan.Side.{Side}
use Rattle.scene_geom.specs.declared.reflection.Reflection.{Reflection}
use Rattle.scene_geom.specs.declared.band.Band.{Band}
use Rattle.scene_geom.specs.declared.band.Band.TheVariants.{Hz63, Hz125, Hz250, Hz500, Hz1000, Hz2000, Hz4000, Hz8000}
use Rattle.scene_geom.specs.Bands.{all_bands}
use Rattle.scene_geom.specs.Crossing.{differ}
use Rattle.scene_parts.specs.Parts.{Source, Receiver, Obstacle, sides_of}
use Rattle.scene_book.specs.Book.{Book}
use Rattle.sight_cut.specs.Cuts.{screens_in}
use Rattle.edge_chain.specs.declared.hand.Hand.{Hand}
use Rattle.edge_chain.specs.declared.hand.Hand.TheVariants.{Left, Right}
use Rattle.edge_chain.specs.Chain.{chain_of}
use Rattle.image_source.specs.Mirrors.{mirror_of}
use Rattle.path_calc.specs.declared.bundles.segments.Seg.{Seg}
use Rattle.path_calc.specs.declared.bundles.segments.Seg.TheVariants.{Straight, Legs}
use Rattle.path_calc.specs.LateralPaths.{lateral_path, lateral_paths, screening_corners}
use Rattle.path_calc.specs.ReflectedPaths.{ReflectedPath, along_legs, reflected_in, reflected_by}
use Rattle.path_calc.specs.ScreeningSets.{screens_before, changes_in, is_renewed}
use Rattle.path_calc.specs.Surroundings.{ends_of, laterals_at, renewed_at, surroundings_of}
use Rattle.path_calc.specs.Trace.{string_segments, lateral_segments, segments_in, legs_of, trace_of}
use Rattle.touch_test.proofs.Lists.{In, here, there, in-left, in-right, in-map, in-flat, in-options, fails-at, any-agrees, filter-agrees, none-passes}

pub in-bands : (band : Band) → In band all_bands
in-bands Hz63 = here _
in-bands Hz125 = there _ _ (here _)
in-bands Hz250 = there _ _ (there _ _ (here _))
in-bands Hz500 = there _ _ (there _ _ (there _ _ (here _)))
in-bands Hz1000 = there _ _ (there _ _ (there _ _ (there _ _ (here _))))
in-bands Hz2000 = there _ _ (there _ _ (there _ _ (there _ _ (there _ _ (here _)))))
in-bands Hz4000 = there _ _ (there _ _ (there _ _ (there _ _ (there _ _ (there _ _ (here _))))))
in-bands Hz8000 = there _ _ (there _ _ (there _ _ (there _ _ (there _ _ (there _ _ (there _ _ (here _)))))))

agree : (b c : Bool) → differ b c ≡ false → b ≡ c
agree true true h = refl
agree true false h = cc
agree false c h = sym h

module _ (book : Book) (s : Source) (r : Receiver) where
  pub in-line : In (Straight s.at r.at) (trace_of book s r)
  in-line = here _

  -- the legs of a reflection
  pub in-legs : (o : Obstacle) (side : Side) (path : Reflection) → In o book.obstacles → In side (sides_of o)
      → mirror_of o side (ends_of s r) ≡ Some path → In (Legs side s.at r.at) (trace_of book s r)
  in-legs o side path i j e =
      let reflected : ReflectedPath = along_legs book (ends_of s r) o side path in
      there _ _ (in-right _ (flat_map (segments_in (surroundings_of book s r) (ends_of s r)) all_bands) _
      (in-map (legs_of (ends_of s r)) reflected (surroundings_of book s r).reflected
      (in-flat (reflected_by book (ends_of s r)) o reflected book.obstacles i
      (in-options (reflected_in book (ends_of s r) o) side reflected (sides_of o) j
      (ap (option_map (along_legs book (ends_of s r) o side)) e)))))

  -- the string of a hand in a band
  abbrev string_in : Band → Hand → List Seg
  string_in band hand =
      string_segments (ends_of s r) (chain_of (screening_corners band (ends_of s r) book.obstacles) s.at r.at hand)

  laterals-are : (band : Band) → laterals_at band (surroundings_of book s r) ≡ lateral_paths band (ends_of s r) book.obstacles
  laterals-are Hz63 = refl
  laterals-are Hz125 = refl
  laterals-are Hz250 = refl
  laterals-are Hz500 = refl
  laterals-are Hz1000 = refl
  laterals-are Hz2000 = refl
  laterals-are Hz4000 = refl
  laterals-are Hz8000 = refl

  renewed-is : (band : Band) → renewed_at band (surroundings_of book s r) ≡ is_renewed (ends_of s r) book.obstacles band
  renewed-is Hz63 = refl
  renewed-is Hz125 = refl
  renewed-is Hz250 = refl
  renewed-is Hz500 = refl
  renewed-is Hz1000 = refl
  renewed-is Hz2000 = refl
  renewed-is Hz4000 = refl
  renewed-is Hz8000 = refl

  in-hands : (hand : Hand) (band : Band) → In (lateral_path band (ends_of s r) book.obstacles hand) (map (lateral_path band (ends_of s r) book.obstacles) (Left ∷ Right ∷ []))
  in-hands Left band = here _
  in-hands Right band = there _ _ (here _)

  -- whether all of a band's strings stand in the trace, where an obstacle screens in it
  abbrev Traced : Band → Type 0
  Traced band =
      list_any (screens_in band (ends_of s r)) book.obstacles ≡ true
      → (hand : Hand) (segment : Seg) → In segment (string_in band hand) → In segment (trace_of book s r)

  -- the strings of a band with other screening obstacles than the band before
  traced-new : (band : Band) → is_renewed (ends_of s r) book.obstacles band ≡ true → Traced band
  traced-new band new any hand segment i =
      there _ _ (in-left segment _ _
      (in-flat (segments_in (surroundings_of book s r) (ends_of s r)) band segment all_bands (in-bands band)
      (rw (renewed-is band, new, laterals-are band, any)
      (in-flat (lateral_segments (ends_of s r)) (lateral_path band (ends_of s r) book.obstacles hand) segment _ (in-hands hand band) i))))

  -- those of a band with the same screening obstacles
  traced-same : (before band : Band) → ((o : Obstacle) → screens_before band (ends_of s r) o ≡ screens_in before (ends_of s r) o)
      → is_renewed (ends_of s r) book.obstacles band ≡ false → Traced before → Traced band
  traced-same before band is_before same traced any hand segment i =
      traced
      (any-agrees (screens_in before (ends_of s r)) (screens_in band (ends_of s r)) book.obstacles alike ∙ any)
      hand
      segment
      (subst (In segment) (ap (λ kept. string_segments (ends_of s r) (chain_of (flat_map (λ (o : Obstacle). o.points) kept) s.at r.at hand))
      (sym (filter-agrees (screens_in before (ends_of s r)) (screens_in band (ends_of s r)) book.obstacles alike))) i)
    where
      alike : (o : Obstacle) → In o book.obstacles → screens_in before (ends_of s r) o ≡ screens_in band (ends_of s r) o
      alike o j =
          sym (is_before o)
          ∙ agree (screens_before band (ends_of s r) o) (screens_in band (ends_of s r) o)
          (fails-at (changes_in band (ends_of s r)) o book.obstacles j same)

  traced-first : is_renewed (ends_of s r) book.obstacles Hz63 ≡ false → Traced Hz63
  traced-first same any =
      let none : list_any (screens_in Hz63 (ends_of s r)) book.obstacles ≡ false =
      none-passes (screens_in Hz63 (ends_of s r)) book.obstacles
      (λ o i. fails-at (changes_in Hz63 (ends_of s r)) o book.obstacles i same) in cc

  by-renewal : (band : Band) (b : Bool) → is_renewed (ends_of s r) book.obstacles band ≡ b
      → (is_renewed (ends_of s r) book.obstacles band ≡ false → Traced band) → Traced band
  by-renewal band true e old = traced-new band e
  by-renewal band false e old = old e

  traced-next : (before band : Band) → ((o : Obstacle) → screens_before band (ends_of s r) o ≡ screens_in before (ends_of s r) o)
      → Traced before → Traced band
  traced-next before band is_before traced = by-renewal band _ refl (λ same. traced-same before band is_before same traced)

  pub in-strings : (band : Band) → Traced band
  in-strings band =
      let traced-63 : Traced Hz63 = by-renewal Hz63 _ refl traced-first in
      let traced-125 : Traced Hz125 = traced-next Hz63 Hz125 (λ o. refl) traced-63 in
      let traced-250 : Traced Hz250 = traced-next Hz125 Hz250 (λ o. refl) traced-125 in
      let traced-500 : Traced Hz500 = traced-next Hz250 Hz500 (λ o. refl) traced-250 in
      let traced-1000 : Traced Hz1000 = traced-next Hz500 Hz1000 (λ o. refl) traced-500 in
      let traced-2000 : Traced Hz2000 = traced-next Hz1000 Hz2000 (λ o. refl) traced-1000 in
      let traced-4000 : Traced Hz4000 = traced-next Hz2000 Hz4000 (λ o. refl) traced-2000 in
      elim band as (λ b. Traced b) [
        | Hz63 ↦ traced-63
        | Hz125 ↦ traced-125
        | Hz250 ↦ traced-250
        | Hz500 ↦ traced-500
        | Hz1000 ↦ traced-1000
        | Hz2000 ↦ traced-2000
        | Hz4000 ↦ traced-4000
        | Hz8000 ↦ traced-next Hz4000 Hz8000 (λ o. refl) traced-4000
      ]
