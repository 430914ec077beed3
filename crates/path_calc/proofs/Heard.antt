-- What is heard at the end of paths is what the definitions say of their source and their receiver.
use Rattle.std.proofs.Common.{◌≡◌, ℕ, ℤ, pos, Bool, true, false, List, [], ◌∷◌, ◌++◌, get_or, map, Option, refl, sym, ap, ◌∙◌, arith}
use Rattle.std.specs.Prelude.{Some, None, ◌&&◌, is_some}
use Rattle.std.specs.List.{list_any}
use Rattle.std.proofs.lemmas.Bool.{false≢true}
use Rattle.std.proofs.lemmas.List.Folds.{list_any_at}
use Rattle.std.specs.Option.{option_map}
use Rattle.std.proofs.lemmas.Int.{ints}
use Rattle.std.proofs.lemmas.List.{get_or-map, map-append}
use Rattle.fix_interval.specs.Interval.{Interval}
use Rattle.fix_interval.specs.Values.{add_of, less_of, pick_of}
use Rattle.fix_interval.specs.declared.truth.Truth.{Truth}
use Rattle.fix_interval.specs.declared.truth.Truth.TheVariants.{Sure, Never, Unsure}
use Rattle.fix_interval.specs.Tree.{Tree, Known, Const, Add, Sub, enc}
use Rattle.energy_sum.specs.Energies.{energy_form}
use Rattle.scene_geom.specs.declared.plan.Side.{Side}
use Rattle.scene_geom.specs.declared.reflection.Reflection.{Reflection}
use Rattle.scene_geom.specs.declared.band.Band.{Band}
use Rattle.scene_geom.specs.Bands.{all_bands, place_of}
use Rattle.scene_parts.specs.Parts.{Source, Receiver, Zone, Foliage, Globals}
use Rattle.scene_parts.specs.declared.kinds.Air.{Air}
use Rattle.scene_book.specs.Book.{Book}
use Rattle.path_shape.specs.declared.path.Path.{Path}
use Rattle.scene_parts.specs.declared.screening.edge.Edge.{Edge}
use Rattle.path_shape.specs.Shape.{plan_length, length_of}
use Rattle.scene_parts.specs.declared.screening.crossing.Crossing.{Crossing}
use Rattle.sight_cut.specs.Cuts.{edges_in, crossings_of}
use Rattle.image_source.specs.Dimensions.{dimension_squared, needed_squared}
use Rattle.term_div_atm.specs.Terms.{divergence}
use Rattle.scene_parts.specs.declared.kinds.Ground.{Ground}
use Rattle.scene_parts.specs.declared.kinds.Ground.TheVariants as methods
use Rattle.path_shape.specs.Shape.{plan_square_form, square_form}
use Rattle.term_ground.proofs.Same.{same-ground}
use Rattle.term_ground.proofs.SimpleMethod.{simple-same}
use Rattle.term_foliage.specs.Foliage.{foliage_attenuation}
use Rattle.term_foliage.proofs.Lawful.{same-length}
use Rattle.term_barrier.specs.Screening.{screening}
use Rattle.path_calc.specs.declared.direct.propagation.Propagation.{Propagation}
use Rattle.path_calc.specs.declared.reflected.Sound.{Sound}
use Rattle.path_calc.specs.inner.Propagations.{Reflected, counts_at}
use Rattle.path_calc.specs.inner.Losses.{loss_in, losses_along}
use Rattle.path_calc.specs.declared.energies.paths.Paths.{Paths}
use Rattle.path_calc.specs.Weights.{weight_in}
use Rattle.path_calc.specs.Absorption.{coefficient_in}
use Rattle.path_calc.specs.Lengths.{distance, reflected_distance}
use Rattle.path_calc.specs.LateralPaths.{LateralPath, lateral_paths}
use Rattle.path_calc.specs.ReflectedPaths.{ReflectedPath, path_along}
use Rattle.path_calc.specs.inner.Strings.{d_z_along, d_z_over}
use Rattle.path_calc.specs.Surroundings.{Surroundings, path_of, ends_of, edges_at, laterals_at, surroundings_of}
use Rattle.path_calc.specs.Contributions.{Contribution, emission_in, power_along, power_between, unscreened_level, ground_along, ground_in, screening_in, lateral_screening_in, sound_past, direct_sound, lateral_sound, leading, reflected_power, reflected_ground_in, reflected_screening_in, reflected_foliage_in, reflection_level, reflected_sound, sounds_of}
use Rattle.path_calc.specs.Energies.{sum_form, weighted, correction_of, band_energy, band_energy_between, long_energy_in}
use Rattle.path_calc.specs.Bundles.{bundle_of}
use Rattle.path_calc.specs.Prepared.{PreparedSource, prepared_of}
use Rattle.path_calc.specs.inner.Prepared.{emission_at, has_power}
use Rattle.path_calc.specs.inner.Ranges.{IsAtReceiver}
use Rattle.path_calc.specs.inner.Hearing.{IsDirect, ArePaths, direct_square, omega_along, grounds_along, raised, power_at, propagation_along, where_asked, bar_over, bars_over, ground_at, screening_at, lateral_at, may_count, may_be_heard, echo_of, counts_on, sound_along, reflected_of, screenings_at, level_before, past, downwind_energy, long_term_energy, sound_energy, echo_energy, reflected_energy, sum_after, energy_after, long_energy_after}
use Rattle.path_calc.proofs.Alike.{same-needed, same-dimension, same-correction, energy_by, same-each, same-through, same-lists}
use Rattle.path_calc.proofs.Sums.{are-small, and-nothing, less-nothing}
use Rattle.path_calc.proofs.Eight.{at-place, map-same, place-below}
use Rattle.path_calc.proofs.SameScreening.{same-screening}
use Rattle.path_calc.proofs.Screened.{bars-are, edges-there}
use Rattle.path_calc.proofs.Stretching.{same-side}
use Rattle.path_calc.proofs.Zones.{ground-eight, same-ground_along, same-foliage_on}

-- a level with a weight and a correction of 0 is that level
pub unweighted : (band : Band) (level c_met energy : Interval) → IsAtReceiver level → weight_in band ≡ pos 0 → c_met ≡ enc (Const (pos 0) 1) → energy ≡ enc (energy_form (Known level))
    → energy ≡ enc (long_term_energy band (Known c_met) (Known level))
unweighted band level c_met energy is weight nothing energy-is =
    let small = are-small _ _ level is (omega (arith, ints)) (omega (arith, ints)) in
    energy-is
    ∙ ap (λ (i : Interval). enc (energy_form (Known i))) (sym (less-nothing level small))
    ∙ ap (λ (i : Interval). enc (energy_form (Sub (Known i) (Const (pos 0) 1)))) (sym (and-nothing level small))
    ∙ ap (λ (w : ℤ). enc (energy_form (Sub (Add (Known level) (Const w 10)) (Const (pos 0) 1)))) (sym weight)
    ∙ ap (λ (i : Interval). enc (energy_form (Sub (weighted band (Known level)) (Known i)))) (sym nothing)

-- ---- a path, of which the quantities are known

-- a level before screening, with what is known of the path
unscreened-known : (p : Propagation) (air : Air) (d gr emission : Tree) (sent : Interval) (band : Band) → p.air ≡ air → p.distance ≡ enc d → ground_at p band ≡ enc gr → sent ≡ enc emission
    → enc (level_before p band sent) ≡ enc (unscreened_level emission d (coefficient_in air band) gr)
unscreened-known p air d gr emission sent band air-is distance-is ground-is sent-is =
    ap (λ (i : Interval). enc (unscreened_level (Known i) (Known p.distance) (coefficient_in p.air band) (Known (ground_at p band)))) sent-is
    ∙ ap (λ (i : Interval). enc (unscreened_level emission (Known i) (coefficient_in p.air band) (Known (ground_at p band)))) distance-is
    ∙ ap (λ (i : Interval). enc (unscreened_level emission d (coefficient_in p.air band) (Known i))) ground-is
    ∙ ap (λ (a : Air). enc (unscreened_level emission d (coefficient_in a band) gr)) air-is

-- the attenuations by the ground, by either method, depend on both lengths by their intervals alone
same-grounds : (method : Ground) (zones : List Zone) (g0 : ℕ) (path : Path) (dp d : Tree) → path.dp ≡ enc dp
    → map enc (ground_along method zones g0 path (Known path.dp) (Known (enc d))) ≡ map enc (ground_along method zones g0 path dp d)
same-grounds methods.General zones g0 path dp d is = same-ground zones g0 path (Known path.dp) dp is
same-grounds methods.Simple zones g0 path dp d is =
    ap (λ (i : Interval). map (λ (b : Band). i) all_bands) (simple-same path (Known (enc d)) d refl)

-- that in a band is what the formula says
ground-known : (globals : Globals) (zones : List Zone) (path : Path) (dp d : Tree) (band : Band) (default : Interval) → path.dp ≡ enc dp
    → get_or (grounds_along globals zones path (enc d)) (place_of band) default ≡ enc (get_or (ground_along globals.method zones globals.g path dp d) (place_of band) (Const (pos 0) 1))
ground-known globals zones path dp d band default is =
    ap (λ (es : List Interval). get_or es (place_of band) default) (same-grounds globals.method zones globals.g path dp d is)
    ∙ get_or-map enc (ground_along globals.method zones globals.g path dp d) (place_of band) (Const (pos 0) 1) default (rw (ground-eight globals.method zones globals.g path dp d) (place-below band))

-- and so is what is sent
power-known : (method : Ground) (path : Path) (square emission : Tree)
    → enc (raised (omega_along method path square) (Known (enc emission))) ≡ enc (power_along method path square emission)
power-known methods.General path square emission = refl
power-known methods.Simple path square emission = refl

-- and what foliage takes off
loss-known : (foliage : List Foliage) (path : Path) (d : Tree) (band : Band)
    → loss_in (losses_along foliage path (enc d)) band ≡ enc (foliage_attenuation foliage path d band)
loss-known foliage path d band =
    ap (λ (is : List Interval). loss_in is band) (same-length foliage path (Known (enc d)) d refl)
    ∙ at-place (λ band. enc (foliage_attenuation foliage path d band)) (enc (Const (pos 0) 1)) band

-- and so is that by screening
screening-known : (path : Path) (edges : Band → List Edge) (dp d gr : Tree) (ground : List Interval) (asked : Band → Bool) (band : Band) (default : Interval) → path.dp ≡ enc dp
    → get_or ground (place_of band) (enc d) ≡ enc gr → asked band ≡ true
    → get_or (bars_over path edges (enc d) ground asked) (place_of band) default ≡ enc (screening path dp (edges band) d gr band)
screening-known path edges dp d gr ground asked band default length-is ground-is wanted =
    at-place (λ band. where_asked (asked band) (bar_over path (edges band) (enc d) ground band)) default band
    ∙ ap (λ (b : Bool). where_asked b (bar_over path (edges band) (enc d) ground band)) wanted
    ∙ ap (λ (i : Interval). enc (screening path (Known path.dp) (edges band) (Known (enc d)) (Known i) band)) ground-is
    ∙ same-screening path (edges band) band (Known path.dp) dp (Known (enc d)) d (Known (enc gr)) gr length-is refl refl

-- ---- the direct path

-- what the code knows of it
pub direct-is : (p : Propagation) (book : Book) (s : Source) (r : Receiver) (d : Interval) (crossings : List Crossing) (asked : Band → Bool) → d ≡ enc (distance s.at s.h r.at r.h) → ((band : Band) → asked band ≡ has_power (prepared_of s) band)
    → crossings ≡ crossings_of (ends_of s r) book.obstacles → p ≡ propagation_along book (path_of s r) (direct_square s r) d crossings asked → IsDirect p book s r
direct-is p book s r d crossings asked distance-is asked-are crossings-are is =
    let path = path_of s r in
    let globals = book.globals in
    let dp = plan_length s.at r.at in
    let dist = distance s.at s.h r.at r.h in
    let around = surroundings_of book s r in
    let found = grounds_along globals book.zones path (enc dist) in
    let in_band = λ (band : Band). edges_in band (ends_of s r) book.obstacles in
    let known : p ≡ propagation_along book path (direct_square s r) (enc dist) crossings asked =
    is ∙ ap (λ (i : Interval). propagation_along book path (direct_square s r) i crossings asked) distance-is in
    let there : (band : Band) (default : Interval) → get_or found (place_of band) default ≡ enc (ground_in globals around.zones s r band) =
    λ (band : Band) (default : Interval).
    ground-known globals book.zones path dp dist band default refl
    ∙ ap (λ (ts : List Tree). enc (get_or ts (place_of band) (Const (pos 0) 1))) (same-ground_along globals.method book.zones globals.g path dp dist) in
    record {
      air = ap (λ (q : Propagation). q.air) known;
      distance = ap (λ (q : Propagation). q.distance) known;
      ground = λ (band : Band). ap (λ (q : Propagation). ground_at q band) known ∙ there band _;
      omega = ap (λ (q : Propagation). q.omega) known;
      screening = λ (band : Band) powered.
          let gr = ground_in globals around.zones s r band in
          ap (λ (q : Propagation). screening_at q band) known
          ∙ ap (λ (is : List Interval). get_or is (place_of band) (enc (divergence (Known (enc dist))))) (bars-are path (enc dist) found crossings (ends_of s r) book.obstacles asked crossings-are)
          ∙ screening-known path in_band dp dist gr found asked band _ refl (there band (enc dist)) (asked-are band ∙ powered)
          ∙ ap (λ (es : List Edge). enc (screening_in es s r gr band)) (sym (edges-there book s r band));
      foliage = λ (band : Band).
          ap (λ (q : Propagation). loss_in q.foliage band) known
          ∙ loss-known book.foliage path dist band
          ∙ ap (λ (t : Tree). enc t) (same-foliage_on book.foliage path dist band);
      correction = ap (λ (q : Propagation). q.correction) known ∙ same-correction dp s.h r.h globals.c0;
    }

-- what is sent along it
direct-power : (p : Propagation) (book : Book) (s : Source) (r : Receiver) (emission : Tree) → IsDirect p book s r
    → power_at p (enc emission) ≡ enc (power_between book.globals s r emission)
direct-power p book s r emission is =
    ap (λ (o : Option Interval). enc (raised o (Known (enc emission)))) is.omega
    ∙ power-known book.globals.method (path_of s r) (plan_square_form s.at r.at) emission

level-is : (p : Propagation) (book : Book) (s : Source) (r : Receiver) (band : Band) (emission screening : Tree) → IsDirect p book s r
    → enc (past (enc (level_before p band (power_at p (enc emission)))) (enc screening) (loss_in p.foliage band))
    ≡ enc (sound_past book.globals (surroundings_of book s r) s r band emission screening).level
level-is p book s r band emission screening is =
    let around = surroundings_of book s r in
    ap (λ (i : Interval). enc (past i (enc screening) (loss_in p.foliage band)))
    (unscreened-known p book.globals.air (distance s.at s.h r.at r.h) (ground_in book.globals around.zones s r band) (power_between book.globals s r emission) (power_at p (enc emission)) band
    is.air is.distance (is.ground band) (direct-power p book s r emission is))
    ∙ ap (λ (i : Interval). enc (Sub (Sub (unscreened_level (power_between book.globals s r emission) (distance s.at s.h r.at r.h) (coefficient_in book.globals.air band) (ground_in book.globals around.zones s r band)) screening) (Known i))) (is.foliage band)

-- what is known of the screening round the sides is what the formulas say
pub lateral-is : (paths : Paths) (book : Book) (s : Source) (r : Receiver) (d : Interval) (band : Band) → d ≡ enc (distance s.at s.h r.at r.h)
    → lateral_at paths band ≡ d_z_over (ends_of s r) book.obstacles d band
    → lateral_at paths band ≡ map (λ (path : LateralPath). enc (lateral_screening_in path s r band)) (leading (laterals_at band (surroundings_of book s r)))
lateral-is paths book s r d band distance-is is =
    let round = lateral_paths band (ends_of s r) book.obstacles in
    let along = λ (path : LateralPath). enc (lateral_screening_in path s r band) in
    is
    ∙ ap (λ (i : Interval). d_z_over (ends_of s r) book.obstacles i band) distance-is
    ∙ map-same (d_z_along (ends_of s r) (enc (distance s.at s.h r.at r.h)) band) along
    (λ (path : LateralPath). same-side s.at s.h r.at r.h path.corners (distance s.at s.h r.at r.h) band) (leading round)
    ∙ ap (λ (ps : List LateralPath). map along (leading ps)) (sym (at-place (λ band. lateral_paths band (ends_of s r) book.obstacles) [] band))

-- ---- paths by way of walls

-- what is known of a sound by way of a wall is what the formulas say, in a band that is asked for
sound-is : (f : Tree → Tree → Tree) → ((a b t u : Tree) → enc a ≡ enc b → enc t ≡ enc u → enc (f a t) ≡ enc (f b u)) → (globals : Globals) (s : Source) (r : Receiver) (band : Band) (emission : Tree) (path : ReflectedPath) (counts : Band → Truth) (asked : Band → Bool) → asked band ≡ true
    → enc (sound_energy f band (enc emission) (sound_along globals (ends_of s r) path (enc (reflected_distance path.unfolded.square s.h r.h)) counts asked))
    ≡ enc (f (correction_of globals s r (reflected_sound globals s r band emission path)) (reflected_sound globals s r band emission path).level)
sound-is f same globals s r band emission path counts asked wanted =
    let ends = ends_of s r in
    let m = sound_along globals ends path (enc (reflected_distance path.unfolded.square s.h r.h)) counts asked in
    let unfolded = path_along ends path.unfolded in
    let dp = length_of path.unfolded.square in
    let d = reflected_distance path.unfolded.square s.h r.h in
    let gr = reflected_ground_in globals path s r band in
    let bar = reflected_screening_in path s r gr band in
    let fol = reflected_foliage_in path s r band in
    let sound = reflected_sound globals s r band emission path in
    let in_band = λ (band : Band). get_or path.edges (place_of band) [] in
    let known = grounds_along globals path.zones unfolded (enc d) in
    let sent = Add (reflected_power globals path s r emission) (reflection_level path.rho) in
    let power : add_of (power_at m.path (enc emission)) m.level ≡ enc sent =
    ap (λ (i : Interval). add_of i m.level) (power-known globals.method unfolded (square_form path.unfolded.square) emission) in
    let there : (default : Interval) → get_or known (place_of band) default ≡ enc gr = λ (default : Interval). ground-known globals path.zones unfolded dp d band default refl in
    let screened : screening_at m.path band ≡ enc bar = screening-known unfolded in_band dp d gr known asked band m.path.divergence refl (there (enc d)) wanted in
    let lost : loss_in m.path.foliage band ≡ enc fol = loss-known path.foliage unfolded d band in
    let before : enc (level_before m.path band (add_of (power_at m.path (enc emission)) m.level)) ≡ enc (unscreened_level sent d (coefficient_in globals.air band) gr) =
    unscreened-known m.path globals.air d gr sent (add_of (power_at m.path (enc emission)) m.level) band refl refl (there m.path.divergence) power in
    let here = past (enc (level_before m.path band (add_of (power_at m.path (enc emission)) m.level))) (screening_at m.path band) (loss_in m.path.foliage band) in
    let level : enc here ≡ enc sound.level =
    ap (λ (i : Interval). enc (past i (screening_at m.path band) (loss_in m.path.foliage band))) before
    ∙ ap (λ (i : Interval). enc (Sub (Sub (unscreened_level sent d (coefficient_in globals.air band) gr) (Known i)) (Known (loss_in m.path.foliage band)))) screened
    ∙ ap (λ (i : Interval). enc (Sub (Sub (unscreened_level sent d (coefficient_in globals.air band) gr) bar) (Known i))) lost in
    same (Known m.path.correction) (correction_of globals s r sound) here sound.level (same-correction dp s.h r.h globals.c0) level

-- whether a wall counts is what the formulas say
counting-is : (side : Side) (h : ℕ) (laid : Reflection) (d : Tree) (band : Band)
    → counts_on side h laid (enc d) band ≡ less_of (enc (needed_squared laid.p d band)) (enc (dimension_squared side h laid.p d))
counting-is side h laid d band =
    ap (λ (i : Interval). less_of i (enc (dimension_squared side h laid.p (Known (enc d))))) (same-needed laid.p d band)
    ∙ ap (less_of (enc (needed_squared laid.p d band))) (same-dimension side h laid.p d)

-- where something is heard in one band, something is heard
heard-somewhere : (f : Band → Bool) (band : Band) → f band ≡ true → list_any f all_bands ≡ true
heard-somewhere f band is = list_any_at f all_bands (place_of band) band (place-below band) (ap f (at-place (λ (b : Band). b) band band) ∙ is)

-- a wall that is too small has no energy
none-picked : (truth : Truth) (energy nothing : Interval) → may_count truth ≡ false → pick_of truth energy nothing ≡ nothing
unfolding pick_of
none-picked Sure energy nothing none = absurd (false≢true (sym none))
none-picked Never energy nothing none = refl
none-picked Unsure energy nothing none = absurd (false≢true (sym none))

-- what is known of a path by way of a wall is what the formulas say, where there is power: in a band that isn't asked for the
-- wall doesn't count
module _ (f : Tree → Tree → Tree) (same : (a b t u : Tree) → enc a ≡ enc b → enc t ≡ enc u → enc (f a t) ≡ enc (f b u)) (globals : Globals) (s : Source) (r : Receiver) (band : Band) (emission : Tree) (powered : has_power (prepared_of s) band ≡ true) (path : ReflectedPath) where
  abbrev far : Tree
  far = reflected_distance path.unfolded.square s.h r.h

  abbrev counts : Band → Truth
  counts = counts_on path.side path.h path.unfolded (enc far)

  abbrev wanted : Band → Bool
  wanted = may_be_heard (prepared_of s) counts

  abbrev known : Sound
  known = sound_along globals (ends_of s r) path (enc far) counts wanted

  abbrev sound : Contribution
  sound = reflected_sound globals s r band emission path

  abbrev decided : Truth
  decided = less_of (enc (needed_squared path.unfolded.p far band)) (enc (dimension_squared path.side path.h path.unfolded.p far))

  decided-is : counts band ≡ decided
  decided-is = counting-is path.side path.h path.unfolded far band

  in-bands : counts_at known band ≡ counts band
  in-bands = at-place counts Unsure band

  -- where the wall doesn't count, whatever is known elsewhere
  silent : (some : Bool) → may_count (counts band) ≡ false → echo_energy f band (enc emission) (echo_of some known) ≡ enc (Const (pos 0) 1)
  silent true none = none-picked (counts_at known band) (enc (sound_energy f band (enc emission) known)) (enc (Const (pos 0) 1)) (ap may_count in-bands ∙ none)
  silent false none = refl

  heard-or-not : (may : Bool) → may_count (counts band) ≡ may
      → echo_energy f band (enc emission) (echo_of (list_any wanted all_bands) known) ≡ enc (energy_by globals s r f sound)
  heard-or-not false is =
      silent (list_any wanted all_bands) is
      ∙ sym (none-picked decided (enc (f (correction_of globals s r sound) sound.level)) (enc (Const (pos 0) 1)) (ap may_count (sym decided-is) ∙ is))
  heard-or-not true is =
      let here : wanted band ≡ true = ap (λ (b : Bool). b && may_count (counts band)) powered ∙ is in
      ap (λ (some : Bool). echo_energy f band (enc emission) (echo_of some known)) (heard-somewhere wanted band here)
      ∙ ap (λ (truth : Truth). pick_of truth (enc (sound_energy f band (enc emission) known)) (enc (Const (pos 0) 1))) (in-bands ∙ decided-is)
      ∙ ap (λ (i : Interval). pick_of decided i (enc (Const (pos 0) 1))) (sound-is f same globals s r band emission path counts wanted here)

  reflected-is : enc (reflected_energy f band (enc emission) (reflected_of globals (prepared_of s) (ends_of s r) path)) ≡ enc (energy_by globals s r f sound)
  reflected-is = heard-or-not (may_count (counts band)) refl

-- ---- the energies of all sounds

-- the attenuations by screening of the sounds over the top and round the sides, as formulas
abbrev screenings : Surroundings → Source → Receiver → Band → Tree → List Tree
screenings around s r band gr =
    screening_in (edges_at band around) s r gr band ∷ map (λ (path : LateralPath). lateral_screening_in path s r band) (leading (laterals_at band around))

map-twice : {X Y Z : Type 0} (f : Y → Z) (g : X → Y) (xs : List X) → map (λ x. f (g x)) xs ≡ map f (map g xs)
map-twice f g [] = refl
map-twice f g (x ∷ xs) = ap (λ zs. f (g x) ∷ zs) (map-twice f g xs)

screenings-are : (paths : Paths) (book : Book) (s : Source) (r : Receiver) (band : Band) → ArePaths paths book s r → has_power (prepared_of s) band ≡ true
    → screenings_at paths band ≡ map enc (screenings (surroundings_of book s r) s r band (ground_in book.globals (surroundings_of book s r).zones s r band))
screenings-are paths book s r band are powered =
    let round = leading (laterals_at band (surroundings_of book s r)) in
    let bar = screening_in (edges_at band (surroundings_of book s r)) s r (ground_in book.globals (surroundings_of book s r).zones s r band) band in
    ap (λ (i : Interval). i ∷ lateral_at paths band) (are.direct.screening band powered)
    ∙ ap (λ (es : List Interval). enc bar ∷ es) (are.lateral band ∙ map-twice enc (λ (path : LateralPath). lateral_screening_in path s r band) round)

-- the sounds over the top and round the sides are those past such attenuations
unreflected-are : (globals : Globals) (around : Surroundings) (s : Source) (r : Receiver) (band : Band) (emission : Tree) (f : Contribution → Tree)
    → map (λ (t : Tree). f (sound_past globals around s r band emission t)) (screenings around s r band (ground_in globals around.zones s r band))
    ≡ map f (direct_sound globals around s r band emission ∷ map (lateral_sound globals around s r band emission) (leading (laterals_at band around)))
unreflected-are globals around s r band emission f =
    let paths = leading (laterals_at band around) in
    let first = f (direct_sound globals around s r band emission) in
    ap (λ (ts : List Tree). first ∷ ts)
    (sym (map-twice (λ (t : Tree). f (sound_past globals around s r band emission t)) (λ (path : LateralPath). lateral_screening_in path s r band) paths)
    ∙ map-twice f (lateral_sound globals around s r band emission) paths)

energies-are : (f : Tree → Tree → Tree) → ((a b t u : Tree) → enc a ≡ enc b → enc t ≡ enc u → enc (f a t) ≡ enc (f b u)) → (paths : Paths) (book : Book) (s : Source) (r : Receiver) (band : Band) (emission : Option Tree) → ArePaths paths book s r → has_power (prepared_of s) band ≡ is_some emission
    → sum_after f paths band (option_map enc emission) ≡ enc (sum_form (map (energy_by book.globals s r f) (sounds_of book.globals (surroundings_of book s r) s r band emission)))
energies-are f same paths book s r band None are powered = refl
energies-are f same paths book s r band (Some emission) are powered =
    let globals = book.globals in
    let around = surroundings_of book s r in
    let level = enc (level_before paths.direct band (power_at paths.direct (enc emission))) in
    let c_met = Known paths.direct.correction in
    let lost = loss_in paths.direct.foliage band in
    let over = λ (i : Interval). f c_met (past level i lost) in
    let by = energy_by globals s r f in
    let by_wall = reflected_energy f band (enc emission) in
    let gr = ground_in globals around.zones s r band in
    let ts = screenings around s r band gr in
    let past_it = λ (t : Tree). by (sound_past globals around s r band emission t) in
    let unreflected = direct_sound globals around s r band emission ∷ map (lateral_sound globals around s r band emission) (leading (laterals_at band around)) in
    let reflected = map (reflected_sound globals s r band emission) around.reflected in
    let first : map enc (map over (screenings_at paths band)) ≡ map enc (map by unreflected) =
    ap (λ (es : List Interval). map enc (map over es)) (screenings-are paths book s r band are powered)
    ∙ same-each over past_it (λ (t : Tree). same c_met (correction_of globals s r (sound_past globals around s r band emission t)) (past level (enc t) lost) (sound_past globals around s r band emission t).level are.direct.correction (level-is paths.direct book s r band emission t are.direct)) ts
    ∙ ap (λ (us : List Tree). map enc us) (unreflected-are globals around s r band emission by) in
    let second : map enc (map by_wall paths.reflected.items) ≡ map enc (map by reflected) =
    ap (λ (ms : List Reflected). map enc (map by_wall ms)) are.reflected
    ∙ same-through by_wall (reflected_of globals (prepared_of s) (ends_of s r)) (λ (path : ReflectedPath). by (reflected_sound globals s r band emission path)) (reflected-is f same globals s r band emission powered) around.reflected
    ∙ ap (λ (us : List Tree). map enc us) (map-twice by (reflected_sound globals s r band emission) around.reflected) in
    same-lists (map over (screenings_at paths band) ++ map by_wall paths.reflected.items) (map by (unreflected ++ reflected)) (
    map-append enc (map over (screenings_at paths band)) (map by_wall paths.reflected.items)
    ∙ ap (λ (es : List Interval). es ++ map enc (map by_wall paths.reflected.items)) first
    ∙ ap (λ (es : List Interval). map enc (map by unreflected) ++ es) second
    ∙ sym (map-append enc (map by unreflected) (map by reflected))
    ∙ ap (λ (us : List Tree). map enc us) (sym (map-append by unreflected reflected)))

emitted : (source : PreparedSource) (s : Source) (band : Band) → source ≡ prepared_of s → emission_at source band ≡ option_map enc (emission_in band s)
emitted source s band is =
    ap (λ (q : PreparedSource). emission_at q band) is ∙ at-place (λ band. option_map enc (emission_in band s)) None band

is-there : {X Y : Type 0} (f : X → Y) (x : Option X) → is_some (option_map f x) ≡ is_some x
is-there f None = refl
is-there f (Some x) = refl

-- there is power where something is emitted
power-there : (s : Source) (band : Band) → has_power (prepared_of s) band ≡ is_some (emission_in band s)
power-there s band = ap is_some (emitted (prepared_of s) s band refl) ∙ is-there enc (emission_in band s)

-- what is heard in all bands
pub bands-heard : (paths : Paths) (source : PreparedSource) (book : Book) (s : Source) (r : Receiver) → source ≡ prepared_of s → ArePaths paths book s r
    → map (energy_after paths source) all_bands ≡ (bundle_of book s r).energy
unfolding band_energy
bands-heard paths source book s r prepared are =
    map-same (energy_after paths source) (λ band. enc (band_energy_between book s r band))
    (λ band. ap (sum_after downwind_energy paths band) (emitted source s band prepared)
    ∙ energies-are downwind_energy (λ a b t u d e. ap (λ (i : Interval). enc (energy_form (Known i))) e) paths book s r band (emission_in band s) are (power-there s band)) all_bands

pub longs-heard : (paths : Paths) (source : PreparedSource) (book : Book) (s : Source) (r : Receiver) → source ≡ prepared_of s → ArePaths paths book s r
    → map (long_energy_after paths source) all_bands ≡ map (λ band. enc (long_energy_in book.globals (surroundings_of book s r) s r band)) all_bands
longs-heard paths source book s r prepared are =
    map-same (long_energy_after paths source) (λ band. enc (long_energy_in book.globals (surroundings_of book s r) s r band))
    (λ band. ap (sum_after (long_term_energy band) paths band) (emitted source s band prepared)
    ∙ energies-are (long_term_energy band)
    (λ a b t u d e. ap (λ (i : Interval). enc (long_term_energy band (Known i) t)) d ∙ ap (λ (i : Interval). enc (long_term_energy band b (Known i))) e) paths book s r band (emission_in band s) are (power-there s band)) all_bands
