-- That the attenuation by the ground doesn't depend on the order of the zones.
use Rattle.std.proofs.Common.{◌≡◌, ℕ, ◌≤◌, arith, List, [], ◌∷◌, length, map}
use Rattle.fix_interval.specs.Tree.{Tree, enc}
use Rattle.scene_parts.specs.Parts.{Zone}
use Rattle.scene_book.specs.Orders.{Shuffled}
use Rattle.scene_undo.specs.Scenes.{IsZoneWithin}
use Rattle.path_shape.specs.declared.path.Path.{Path}
use Rattle.path_shape.specs.Forms.{plus_all}
use Rattle.path_shape.specs.Outlines.{meets_legs}
use Rattle.term_ground.specs.declared.legs.region.Region.{Region}
use Rattle.term_ground.specs.declared.legs.region.Region.TheVariants.{Source, Middle, Receiver}
use Rattle.term_ground.specs.Lengths.{factor}
use Rattle.term_ground.specs.Regions.{region_start, region_end, zone_term, share_of}
use Rattle.term_ground.specs.Ground.{ground}
use Rattle.order_law.proofs.Shuffles.{Each, AreFew, map-shuffled, filter-shuffled, length-filter, length-made, each-filter}
use Rattle.order_law.proofs.Ends.{Ends, IsPositive}
use Rattle.order_law.proofs.Sums.{IsTerm, few-sums-alike}
use Rattle.order_law.proofs.Outlines.{UpToOne}
use Rattle.order_law.proofs.ZoneTerms.{term-within, factor-small, start-positive, end-up-to-one}

-- ---- sums of terms

module _ (g0 : ℕ) (path : Path) (u0 u1 : Tree) (outside : g0 ≤ 100) (start : IsPositive (enc u0)) (end : Ends UpToOne (enc u1)) where
  terms-within : (zones : List Zone) → Each IsZoneWithin zones → Each IsTerm (map (zone_term g0 path u0 u1) zones)
  terms-within [] h = tt
  terms-within (zone ∷ zones) h =
      (term-within g0 path u0 u1 zone start end outside h.0.ground_factor h.0.few, terms-within zones h.1)

  terms-alike : {xs ys : List Zone} → Shuffled xs ys → length xs ≤ 1024 → Each IsZoneWithin xs
      → enc (plus_all (factor g0) (map (zone_term g0 path u0 u1) xs)) ≡ enc (plus_all (factor g0) (map (zone_term g0 path u0 u1) ys))
  terms-alike {xs = xs} h few limits =
      let term = zone_term g0 path u0 u1 in
      few-sums-alike (factor g0) (map-shuffled term h) (omega (arith, length-made term xs, few)) (factor-small g0 outside) (terms-within xs limits)

-- ---- the ground

module _ (g0 : ℕ) (path : Path) (dp : Tree) (outside : g0 ≤ 100) (positive : IsPositive (enc dp)) {xs ys : List Zone} (h : Shuffled xs ys) (few : AreFew IsZoneWithin xs) where
  share-alike : (region : Region) → enc (share_of region xs g0 path dp) ≡ enc (share_of region ys g0 path dp)
  unfolding share_of
  share-alike region =
      let test = λ (zone : Zone). meets_legs path.legs path.s path.r zone.points in
      rw (terms-alike g0 path (region_start region path dp) (region_end region path dp) outside (start-positive region path dp positive) (end-up-to-one region path dp positive)
      (filter-shuffled test h) (omega (arith, length-filter test xs, few.count)) (each-filter IsZoneWithin test xs few.each))

  -- in each band
  pub ground-alike : map enc (ground xs g0 path dp) ≡ map enc (ground ys g0 path dp)
  unfolding ground
  ground-alike = rw (share-alike Source, share-alike Middle, share-alike Receiver)
