-- That the sounds from a source to a receiver are the same for scenes of the same parts, but for the order of those that
-- walls reflect.
use Rattle.std.proofs.Common.{◌≡◌, ℕ, ◌≤◌, pos, refl, sym, ap, subst, ◌∙◌, List, [], ◌∷◌, ◌++◌, map}
use Rattle.std.specs.Prelude.{Option, Some, None, flat_map, slice_index_or}
use Rattle.std.specs.List.{filter_map}
use Rattle.std.specs.Option.{option_map}
use Rattle.std.proofs.lemmas.List.{map-append}
use Rattle.std.proofs.Math.ListN.{get_or-map}
use Rattle.fix_interval.specs.Interval.{Interval}
use Rattle.fix_interval.specs.Tree.{Tree, Const, Add, Sub, enc}
use Rattle.scene_geom.specs.declared.band.Band.{Band}
use Rattle.scene_geom.specs.declared.plan.Side.{Side}
use Rattle.scene_geom.specs.declared.reflection.Reflection.{Reflection}
use Rattle.scene_geom.specs.Bands.{place_of}
use Rattle.scene_parts.specs.Parts.{Source, Receiver, Obstacle, Zone, Foliage, Globals, sides_of}
use Rattle.scene_parts.specs.declared.kinds.Ground.{Ground}
use Rattle.scene_parts.specs.declared.kinds.Ground.TheVariants.{General, Simple}
use Rattle.scene_parts.specs.Crossings.{counts_in}
use Rattle.scene_parts.specs.declared.screening.edge.Edge.{Edge}
use Rattle.scene_book.specs.Orders.{Shuffled, same, under}
use Rattle.scene_undo.specs.Scenes.{IsZoneWithin, IsFoliageWithin}
use Rattle.path_shape.specs.Shape.{plan_length, length_of}
use Rattle.path_shape.specs.declared.path.Path.{Path}
use Rattle.sight_cut.specs.Cuts as cuts
use Rattle.image_source.specs.Mirrors.{mirror_of}
use Rattle.image_source.specs.LegCuts as legs
use Rattle.image_source.specs.declared.leg.Leg.{Leg}
use Rattle.image_source.specs.declared.leg.Leg.TheVariants.{First, Second}
use Rattle.term_barrier.proofs.Lists.{map-map, map-same}
use Rattle.term_foliage.specs.Foliage.{foliage_attenuation}
use Rattle.term_barrier.specs.Screening.{screening}
use Rattle.path_calc.specs.Absorption.{coefficient_in}
use Rattle.path_calc.specs.Lengths.{distance, reflected_distance}
use Rattle.path_calc.specs.GroundZones.{zones_on, foliage_on}
use Rattle.path_calc.specs.LateralPaths.{LateralPath, lateral_paths}
use Rattle.path_calc.specs.ReflectedPaths.{ReflectedPath, path_along, along_legs, reflected_by, reflected_paths}
use Rattle.path_calc.specs.Surroundings.{path_of, ends_of, edges_at, laterals_at, surroundings_of}
use Rattle.path_calc.specs.Contributions.{Counting, Contribution, Always, ground_along, power_between, unscreened_level, ground_in, foliage_in, screening_in, lateral_screening_in, sound_past, direct_sound, lateral_sound, leading, reflected_power, reflected_ground_in, reflected_foliage_in, reflected_screening_in, reflection_level, reflected_sound, sounds_of}
use Rattle.path_calc.proofs.Eight.{at-place}
use Rattle.path_calc.proofs.Zones.{same-ground_along, same-foliage_on}
use Rattle.path_calc.proofs.SameScreening.{same-screening}
use Rattle.scene_book.specs.Book.{Book}
use Rattle.order_law.proofs.Shuffles.{AreFew, map-shuffled, filter-shuffled, flat_map-shuffled, append-shuffled, append-second}
use Rattle.order_law.proofs.Ends.{IsPositive, root-positive}
use Rattle.order_law.proofs.Zones.{ground-alike}
use Rattle.order_law.proofs.Foliage.{IsTold, foliage-alike, distance-told, reflected-told}
use Rattle.order_law.proofs.Edges.{screening-alike}
use Rattle.order_law.proofs.Laterals.{laterals-alike}

-- ---- lists

-- the same is made of what two rules give for each thing
flat-alike : {A B C : Type 0} (h : B → C) (f g : A → List B) → ((x : A) → map h (f x) ≡ map h (g x)) → (xs : List A) → map h (flat_map f xs) ≡ map h (flat_map g xs)
flat-alike h f g alike [] = refl
flat-alike h f g alike (x ∷ xs) =
    map-append h (f x) (flat_map f xs) ∙ ap (λ ys. ys ++ map h (flat_map f xs)) (alike x) ∙ ap (λ ys. map h (g x) ++ ys) (flat-alike h f g alike xs) ∙ sym (map-append h (g x) (flat_map g xs))

found-alike : {A B C D : Type 0} (h : C → D) (found : A → Option B) (f g : A → B → C) → ((x : A) (y : B) → h (f x y) ≡ h (g x y)) → (xs : List A)
    → map h (filter_map (λ x. option_map (f x) (found x)) xs) ≡ map h (filter_map (λ x. option_map (g x) (found x)) xs)
found-alike h found f g alike [] = refl
found-alike {B = B} h found f g alike (x ∷ xs) = by (found x) refl (found-alike h found f g alike xs) where
  by : (there : Option B) → found x ≡ there
      → map h (filter_map (λ x. option_map (f x) (found x)) xs) ≡ map h (filter_map (λ x. option_map (g x) (found x)) xs)
      → map h (filter_map (λ x. option_map (f x) (found x)) (x ∷ xs)) ≡ map h (filter_map (λ x. option_map (g x) (found x)) (x ∷ xs))
  by None e rest = rw e rest
  by (Some y) e rest = rw (e, alike x y, rest)

-- ---- quantities in a band

enc-at : (ts us : List Tree) (place : ℕ) (d : Tree) → map enc ts ≡ map enc us → enc (slice_index_or ts place d) ≡ enc (slice_index_or us place d)
enc-at ts us place d e =
    sym (get_or-map enc ts place d) ∙ ap (λ is. slice_index_or is place (enc d)) e ∙ get_or-map enc us place d

-- the ground along a path by either method, among the zones that it meets
ground-alike-by : (method : Ground) (g0 : ℕ) (path : Path) (dp d : Tree) → g0 ≤ 100 → IsPositive (enc dp) → {us vs : List Zone} → Shuffled us vs → AreFew IsZoneWithin us
    → map enc (ground_along method us g0 path dp d) ≡ map enc (ground_along method vs g0 path dp d)
ground-alike-by General g0 path dp d outside positive h few = ground-alike g0 path dp outside positive h few
ground-alike-by Simple g0 path dp d outside positive h few = refl

ground-met : (method : Ground) (g0 : ℕ) (path : Path) (dp d : Tree) → g0 ≤ 100 → IsPositive (enc dp) → {us vs : List Zone} → Shuffled us vs → AreFew IsZoneWithin us → (place : ℕ) (none : Tree)
    → enc (slice_index_or (ground_along method (zones_on path us) g0 path dp d) place none) ≡ enc (slice_index_or (ground_along method (zones_on path vs) g0 path dp d) place none)
ground-met method g0 path dp d outside positive {us = us} {vs = vs} h few place none =
    enc-at _ _ place none
    (ap (map enc) (sym (same-ground_along method us g0 path dp d)) ∙ ground-alike-by method g0 path dp d outside positive h few ∙ ap (map enc) (same-ground_along method vs g0 path dp d))

-- the foliage that it meets
foliage-met : (path : Path) (d : Tree) → IsTold path.hs path.hr d → {us vs : List Foliage} → Shuffled us vs → AreFew IsFoliageWithin us → (band : Band)
    → enc (foliage_attenuation (foliage_on path us) path d band) ≡ enc (foliage_attenuation (foliage_on path vs) path d band)
foliage-met path d told {us = us} {vs = vs} h few band =
    ap enc (sym (same-foliage_on us path d band)) ∙ foliage-alike path d told h few band ∙ ap enc (same-foliage_on vs path d band)

-- what screens, with another formula of the same ground and edges in another order
bar-alike : (path : Path) (dp d gr gr' : Tree) (band : Band) (xs ys : List Edge) → enc gr ≡ enc gr' → Shuffled xs ys → enc (screening path dp xs d gr band) ≡ enc (screening path dp ys d gr' band)
bar-alike path dp d gr gr' band xs ys e h = same-screening path xs band dp dp d d gr gr' refl refl e ∙ screening-alike path dp xs ys d gr' band h

level-alike : (power d : Tree) (alpha10 : ℕ) (gr gr' bar bar' fol fol' : Tree) → enc gr ≡ enc gr' → enc bar ≡ enc bar' → enc fol ≡ enc fol'
    → enc (Sub (Sub (unscreened_level power d alpha10 gr) bar) fol) ≡ enc (Sub (Sub (unscreened_level power d alpha10 gr') bar') fol')
level-alike power d alpha10 gr gr' bar bar' fol fol' e f g = rw (e, f, g)

-- two scenes with the same parts in some order, of which the first keeps the limits of zones and foliage
pub record AreAlike (a b : Book) : Type 0 where
  pub obstacles : Shuffled a.obstacles b.obstacles
  pub zones : Shuffled a.zones b.zones
  pub foliage : Shuffled a.foliage b.foliage
  pub few_zones : AreFew IsZoneWithin a.zones
  pub few_foliage : AreFew IsFoliageWithin a.foliage

-- ---- sounds, by what depends on their level by its interval

module _ (energy : Contribution → Interval) (by-level : (x y dp : Tree) (counts : Counting) → enc x ≡ enc y → energy (record { level = x; dp = dp; counts = counts }) ≡ energy (record { level = y; dp = dp; counts = counts }))
    (a b : Book) (s : Source) (r : Receiver) (band : Band) (globals : Globals) (outside : globals.g ≤ 100) (alike : AreAlike a b) where
  -- ---- the direct and the lateral ones

  ground-here : enc (ground_in globals (surroundings_of a s r).zones s r band) ≡ enc (ground_in globals (surroundings_of b s r).zones s r band)
  ground-here =
      ground-met globals.method globals.g (path_of s r) (plan_length s.at r.at) (distance s.at s.h r.at r.h) outside (root-positive _) alike.zones alike.few_zones (place_of band) (Const (pos 0) 1)

  foliage-here : enc (foliage_in (surroundings_of a s r).foliage s r band) ≡ enc (foliage_in (surroundings_of b s r).foliage s r band)
  foliage-here =
      foliage-met (path_of s r) (distance s.at s.h r.at r.h) (distance-told s.at s.h r.at r.h) alike.foliage alike.few_foliage band

  edges-here : Shuffled (edges_at band (surroundings_of a s r)) (edges_at band (surroundings_of b s r))
  edges-here = rw (at-place (λ band. cuts.edges_in band (ends_of s r) a.obstacles) [] band, at-place (λ band. cuts.edges_in band (ends_of s r) b.obstacles) [] band)
      (flat_map-shuffled (cuts.edges_of (ends_of s r)) (filter-shuffled (counts_in band (ends_of s r)) alike.obstacles))

  laterals-here : laterals_at band (surroundings_of a s r) ≡ laterals_at band (surroundings_of b s r)
  laterals-here =
      at-place (λ band. lateral_paths band (ends_of s r) a.obstacles) [] band ∙ laterals-alike band (ends_of s r) alike.obstacles ∙ sym (at-place (λ band. lateral_paths band (ends_of s r) b.obstacles) [] band)

  -- past whatever screens
  past-alike : (emission bar bar' : Tree) → enc bar ≡ enc bar'
      → energy (sound_past globals (surroundings_of a s r) s r band emission bar) ≡ energy (sound_past globals (surroundings_of b s r) s r band emission bar')
  past-alike emission bar bar' e =
      by-level _ _ (plan_length s.at r.at) Always
      (level-alike (power_between globals s r emission) (distance s.at s.h r.at r.h) (coefficient_in globals.air band)
      (ground_in globals (surroundings_of a s r).zones s r band) (ground_in globals (surroundings_of b s r).zones s r band) bar bar'
      (foliage_in (surroundings_of a s r).foliage s r band) (foliage_in (surroundings_of b s r).foliage s r band)
      ground-here e foliage-here)

  direct-alike : (emission : Tree) → energy (direct_sound globals (surroundings_of a s r) s r band emission) ≡ energy (direct_sound globals (surroundings_of b s r) s r band emission)
  direct-alike emission =
      let gr = ground_in globals (surroundings_of a s r).zones s r band in
      let gr' = ground_in globals (surroundings_of b s r).zones s r band in
      let xs = edges_at band (surroundings_of a s r) in
      let ys = edges_at band (surroundings_of b s r) in
      past-alike emission (screening_in xs s r gr band) (screening_in ys s r gr' band)
      (bar-alike (path_of s r) (plan_length s.at r.at) (distance s.at s.h r.at r.h) gr gr' band xs ys ground-here edges-here)

  lateral-alike : (emission : Tree) (path : LateralPath) → energy (lateral_sound globals (surroundings_of a s r) s r band emission path) ≡ energy (lateral_sound globals (surroundings_of b s r) s r band emission path)
  lateral-alike emission path = past-alike emission (lateral_screening_in path s r band) (lateral_screening_in path s r band) refl

  laterals-sound-alike : (emission : Tree)
      → map energy (map (lateral_sound globals (surroundings_of a s r) s r band emission) (leading (laterals_at band (surroundings_of a s r))))
      ≡ map energy (map (lateral_sound globals (surroundings_of b s r) s r band emission) (leading (laterals_at band (surroundings_of b s r))))
  laterals-sound-alike emission =
      let round = λ (book : Book) (path : LateralPath). lateral_sound globals (surroundings_of book s r) s r band emission path in
      let paths = laterals_at band (surroundings_of a s r) in
      map-map energy (round a) (leading paths)
      ∙ map-same (λ path. energy (round a path)) (λ path. energy (round b path)) (lateral-alike emission) (leading paths)
      ∙ ap (λ (ps : List LateralPath). map (λ path. energy (round b path)) (leading ps)) laterals-here
      ∙ sym (map-map energy (round b) (leading (laterals_at band (surroundings_of b s r))))

  -- ---- those that walls reflect

  leg-edges-alike : (leg : Leg) (unfolded : Reflection) → Shuffled (legs.leg_edges_in band leg unfolded (ends_of s r) a.obstacles) (legs.leg_edges_in band leg unfolded (ends_of s r) b.obstacles)
  leg-edges-alike leg unfolded = flat_map-shuffled (legs.edges_on leg unfolded (ends_of s r)) (filter-shuffled (counts_in band (ends_of s r)) alike.obstacles)

  wall-alike : (emission : Tree) (o : Obstacle) (side : Side) (unfolded : Reflection)
      → energy (reflected_sound globals s r band emission (along_legs a (ends_of s r) o side unfolded))
      ≡ energy (reflected_sound globals s r band emission (along_legs b (ends_of s r) o side unfolded))
  wall-alike emission o side unfolded =
      let ends = ends_of s r in
      let path = path_along ends unfolded in
      let dp = length_of unfolded.square in
      let d = reflected_distance unfolded.square s.h r.h in
      let p = along_legs a ends o side unfolded in
      let q = along_legs b ends o side unfolded in
      let gr = reflected_ground_in globals p s r band in
      let gr' = reflected_ground_in globals q s r band in
      let met : enc gr ≡ enc gr' = ground-met globals.method globals.g path dp d outside (root-positive _) alike.zones alike.few_zones (place_of band) (Const (pos 0) 1) in
      let leaves : enc (reflected_foliage_in p s r band) ≡ enc (reflected_foliage_in q s r band) =
      foliage-met path d (reflected-told unfolded.square s.h r.h) alike.foliage alike.few_foliage band in
      let edges : Shuffled (slice_index_or p.edges (place_of band) []) (slice_index_or q.edges (place_of band) []) =
      rw (at-place (λ band. legs.edges_in band unfolded ends a.obstacles) [] band, at-place (λ band. legs.edges_in band unfolded ends b.obstacles) [] band)
      (append-shuffled (leg-edges-alike First unfolded) (leg-edges-alike Second unfolded)) in
      by-level _ _ dp _
      (level-alike (Add (reflected_power globals p s r emission) (reflection_level o.rho)) d (coefficient_in globals.air band) gr gr' (reflected_screening_in p s r gr band) (reflected_screening_in q s r gr' band)
      (reflected_foliage_in p s r band) (reflected_foliage_in q s r band) met
      (bar-alike path dp d gr gr' band (slice_index_or p.edges (place_of band) []) (slice_index_or q.edges (place_of band) []) met edges) leaves)

  walls-alike : (emission : Tree)
      → Shuffled (map energy (map (reflected_sound globals s r band emission) (reflected_paths a (ends_of s r))))
      (map energy (map (reflected_sound globals s r band emission) (reflected_paths b (ends_of s r))))
  walls-alike emission =
      let ends = ends_of s r in
      let heard = λ (path : ReflectedPath). energy (reflected_sound globals s r band emission path) in
      let moved = map-shuffled heard (flat_map-shuffled (reflected_by a ends) alike.obstacles) in
      let changed = flat-alike heard (reflected_by a ends) (reflected_by b ends)
      (λ o. found-alike heard (λ side. mirror_of o side ends) (along_legs a ends o) (along_legs b ends o) (wall-alike emission o) (sides_of o)) b.obstacles in
      rw (map-map energy (reflected_sound globals s r band emission) (reflected_paths a ends), map-map energy (reflected_sound globals s r band emission) (reflected_paths b ends))
      (subst (Shuffled (map heard (reflected_paths a ends))) changed moved)

  -- ---- all sounds

  pub sounds-alike : (emission : Option Tree)
      → Shuffled (map energy (sounds_of globals (surroundings_of a s r) s r band emission)) (map energy (sounds_of globals (surroundings_of b s r) s r band emission))
  sounds-alike None = same []
  sounds-alike (Some emission) =
      let round = λ (book : Book). map (lateral_sound globals (surroundings_of book s r) s r band emission) (leading (laterals_at band (surroundings_of book s r))) in
      let walls = λ (book : Book). map (reflected_sound globals s r band emission) (reflected_paths book (ends_of s r)) in
      rw (direct-alike emission, map-append energy (round a) (walls a), map-append energy (round b) (walls b), laterals-sound-alike emission)
      (under _ (append-second (map energy (round b)) (walls-alike emission)))
