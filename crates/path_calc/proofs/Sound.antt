-- The formulas of energies and levels are sound: no divisor of a constant is 0.
use Rattle.std.proofs.Common.{subst, ℕ, ◌*◌, ◌<◌, ℤ, pos, negsuc, lit<, List, [], ◌∷◌, ◌++◌, length, get_or, map, Option, arith}
use Rattle.std.specs.Prelude.{Some, None, fold, ◌<ℤ◌, unsigned_abs, slice_index_or}
use Rattle.std.proofs.lemmas.Int.{ints}
use Rattle.std.specs.Option.{option_map}
use Rattle.fix_interval.specs.Tree.{Tree, Const, Add, IsSound}
use Rattle.energy_sum.specs.Energies.{energy_form}
use Rattle.energy_sum.specs.Weather.{correction}
use Rattle.scene_parts.specs.Parts.{Source, Receiver, Zone, Globals, Foliage}
use Rattle.scene_book.specs.Book.{Book}
use Rattle.scene_geom.specs.declared.fractions.fraction.Frac.{Frac}
use Rattle.path_shape.specs.Shape.{plan_length, length_of}
use Rattle.image_source.proofs.Sound.{condition-is-sound}
use Rattle.term_ground.proofs.Sound.{ground-sound}
use Rattle.scene_parts.specs.declared.kinds.Ground.{Ground}
use Rattle.scene_parts.specs.declared.kinds.Ground.TheVariants as methods
use Rattle.path_shape.specs.declared.path.Path.{Path}
use Rattle.path_shape.specs.Shape.{plan_square_form, square_form}
use Rattle.term_ground.specs.Alternative.{simple_ground}
use Rattle.term_ground.proofs.SimpleMethod.{simple-sound, angle-sound}
use Rattle.term_foliage.specs.Foliage.{foliage_attenuation, attenuations}
use Rattle.term_foliage.proofs.Lawful.{foliage-sound}
use Rattle.std.proofs.lemmas.List.Elements.{All-get_or, All-map}
use Rattle.term_barrier.specs.Laws.{ScreeningIsSound, SideAttenuationIsSound}
use Rattle.scene_geom.specs.declared.band.Band.{Band}
use Rattle.scene_geom.specs.Bands.{all_bands, place_of}
use Rattle.path_calc.specs.LateralPaths.{LateralPath}
use Rattle.path_calc.specs.ReflectedPaths.{ReflectedPath, path_along}
use Rattle.path_calc.specs.Surroundings.{Surroundings, path_of, ends_of, edges_at, laterals_at, surroundings_of}
use Rattle.path_calc.specs.Contributions.{Counting, Always, WhereGreater, Contribution, power_in, emission, power_along, ground_along, ground_in, screening_in, sound_past, lateral_sound, leading, reflected_ground_in, reflection_level, reflected_sound, sounds_of, contributions}
use Rattle.path_calc.specs.Lengths.{distance, reflected_distance}
use Rattle.path_calc.specs.Energies.{where_counting, long_term, correction_of, energy_of, long_energy_of, band_energy, long_energy_in, long_energy, band_energy_between, long_energy_between}
use Rattle.path_calc.specs.Show.{sources_within, total_form, band_form}
use Rattle.path_calc.proofs.Eight.{at-place, place-below}
use Rattle.path_calc.proofs.Zones.{ground-eight}

-- ---- contributions

CountsSoundly : Counting → Type 0
CountsSoundly Always = Unit {0}
CountsSoundly (WhereGreater x y) = IsSound x × IsSound y

record IsSoundOne (c : Contribution) : Type 0 where
  level : IsSound c.level
  length : IsSound c.dp
  counts : CountsSoundly c.counts

AllSound : List Contribution → Type 0
AllSound [] = Unit {0}
AllSound (c ∷ cs) = IsSoundOne c × AllSound cs

sound-counting : (counts : Counting) (energy : Tree) → CountsSoundly counts → IsSound energy → IsSound (where_counting counts energy)
unfolding CountsSoundly
sound-counting Always energy c h = h
sound-counting (WhereGreater x y) energy c h = (c.0, c.1, h, lit< tt)

sound-energy : (c : Contribution) → IsSoundOne c → IsSound (energy_of c)
sound-energy c h = sound-counting c.counts (energy_form c.level) h.counts (h.level, lit< tt)

sound-correction : (dp : Tree) (hs hr c0 : ℕ) → IsSound dp → IsSound (correction dp hs hr c0)
unfolding correction
sound-correction dp hs hr c0 h = (h, lit< tt, (lit< tt, (lit< tt, (lit< tt, h))), lit< tt)

sound-long_energy : (globals : Globals) (s : Source) (r : Receiver) (band : Band) (c : Contribution) → IsSoundOne c → IsSound (long_energy_of globals s r band c)
sound-long_energy globals s r band c h =
    sound-counting c.counts (energy_form (long_term band (correction_of globals s r c) c.level)) h.counts (((h.level, lit< tt), sound-correction c.dp s.h r.h globals.c0 h.length), lit< tt)

sound-all : (f : Contribution → Tree) → ((c : Contribution) → IsSoundOne c → IsSound (f c)) → (total : Tree) → IsSound total → (cs : List Contribution) → AllSound cs → IsSound (fold Add total (map f cs))
unfolding AllSound
sound-all f each total h [] all = h
sound-all f each total h (c ∷ cs) all = sound-all f each (Add total (f c)) (h, each c all.0) cs all.1

-- what is sent along a path
sound-power : (method : Ground) (path : Path) (square : Tree) (power directivity : ℤ) → IsSound square → IsSound (power_along method path square (emission power directivity))
sound-power methods.General path square power directivity h = (lit< tt, lit< tt)
sound-power methods.Simple path square power directivity h = ((lit< tt, lit< tt), angle-sound path square h)

-- the attenuation by foliage in a band
sound-foliage : (foliage : List Foliage) (path : Path) (d : Tree) (band : Band) → IsSound d → IsSound (foliage_attenuation foliage path d band)
sound-foliage foliage path d band h =
    subst IsSound (at-place (foliage_attenuation foliage path d) (Const (pos 0) 1) band)
    (All-get_or IsSound (attenuations foliage path d) (place_of band) (Const (pos 0) 1) (place-below band) (foliage-sound foliage path d h))

-- the attenuation by the ground in a band, by either method
sound-grounds : (method : Ground) (zones : List Zone) (g0 : ℕ) (path : Path) (dp d : Tree) → IsSound dp → IsSound d → (i : ℕ) (t : Tree) → i < length (ground_along method zones g0 path dp d) → IsSound (get_or (ground_along method zones g0 path dp d) i t)
sound-grounds methods.General zones g0 path dp d hp hd i t below = ground-sound zones g0 path dp hp i t below
sound-grounds methods.Simple zones g0 path dp d hp hd i t below =
    All-get_or IsSound (map (λ (b : Band). simple_ground path d) all_bands) i t below
    (All-map IsSound (λ (b : Band). simple_ground path d) all_bands (λ j b k. simple-sound path d hd))

sound-ground : (globals : Globals) (zones : List Zone) (s : Source) (r : Receiver) (band : Band) → IsSound (ground_in globals zones s r band)
sound-ground globals zones s r band =
    sound-grounds globals.method zones globals.g (path_of s r) (plan_length s.at r.at) (distance s.at s.h r.at r.h) (lit< tt) (lit< tt) (place_of band) (Const (pos 0) 1)
    (rw (ground-eight globals.method zones globals.g (path_of s r) (plan_length s.at r.at) (distance s.at s.h r.at r.h)) (place-below band))

sound-screening_in : ScreeningIsSound → (globals : Globals) (around : Surroundings) (s : Source) (r : Receiver) (band : Band) → IsSound (screening_in (edges_at band around) s r (ground_in globals around.zones s r band) band)
sound-screening_in sound globals around s r band =
    sound (path_of s r) (plan_length s.at r.at) (edges_at band around) (distance s.at s.h r.at r.h) (ground_in globals around.zones s r band) band
    (lit< tt) (lit< tt) (sound-ground globals around.zones s r band)

sound-one : (globals : Globals) (around : Surroundings) (s : Source) (r : Receiver) (band : Band) (power : ℤ) (screening : Tree) → IsSound screening
    → IsSoundOne (sound_past globals around s r band (emission power s.dc) screening)
unfolding CountsSoundly
sound-one globals around s r band power screening h =
    let d = distance s.at s.h r.at r.h in
    let sent = sound-power globals.method (path_of s r) (plan_square_form s.at r.at) power s.dc (lit< tt) in
    record {
      level = (((((sent, ((lit< tt, (lit< tt, lit< tt)), lit< tt)), (((lit< tt, lit< tt), lit< tt), lit< tt)), sound-ground globals around.zones s r band), h), sound-foliage around.foliage (path_of s r) d band (lit< tt));
      length = lit< tt;
      counts = tt;
    }

sound-laterals : SideAttenuationIsSound → (globals : Globals) (around : Surroundings) (s : Source) (r : Receiver) (band : Band) (power : ℤ) (paths : List LateralPath)
    → AllSound (map (lateral_sound globals around s r band (emission power s.dc)) paths)
unfolding AllSound
sound-laterals round globals around s r band power [] = tt
sound-laterals round globals around s r band power (path ∷ paths) = (
  sound-one globals around s r band power _ (round s.at s.h r.at r.h path.corners (distance s.at s.h r.at r.h) band (lit< tt)),
  sound-laterals round globals around s r band power paths,
)

-- ---- what walls reflect

divisor-positive : (d : ℤ) → pos 0 <ℤ d → 0 < unsigned_abs d * 1000000
divisor-positive (pos n) h = omega (arith, ints)
divisor-positive (negsuc n) h = absurd (omega (arith, ints))

sound-length : (square : Frac) → IsSound (length_of square)
sound-length square = divisor-positive square.d square.positive

sound-distance : (square : Frac) (hs hr : ℕ) → IsSound (reflected_distance square hs hr)
sound-distance square hs hr = (divisor-positive square.d square.positive, lit< tt)

sound-level_of : (rho : ℕ) → IsSound (reflection_level rho)
unfolding reflection_level
sound-level_of rho = (lit< tt, lit< tt)

sound-reflected_ground : (globals : Globals) (path : ReflectedPath) (s : Source) (r : Receiver) (band : Band) → IsSound (reflected_ground_in globals path s r band)
sound-reflected_ground globals path s r band =
    let along = path_along (ends_of s r) path.unfolded in
    let dp = length_of path.unfolded.square in
    let d = reflected_distance path.unfolded.square s.h r.h in
    sound-grounds globals.method path.zones globals.g along dp d (sound-length path.unfolded.square) (sound-distance path.unfolded.square s.h r.h) (place_of band) (Const (pos 0) 1)
    (rw (ground-eight globals.method path.zones globals.g along dp d) (place-below band))

sound-reflected : ScreeningIsSound → (globals : Globals) (s : Source) (r : Receiver) (band : Band) (power : ℤ) (path : ReflectedPath)
    → IsSoundOne (reflected_sound globals s r band (emission power s.dc) path)
unfolding CountsSoundly
sound-reflected screened globals s r band power path =
    let along = path_along (ends_of s r) path.unfolded in
    let dp = length_of path.unfolded.square in
    let d = reflected_distance path.unfolded.square s.h r.h in
    let gr = reflected_ground_in globals path s r band in
    let distant : IsSound d = sound-distance path.unfolded.square s.h r.h in
    let grounded : IsSound gr = sound-reflected_ground globals path s r band in
    let sent = sound-power globals.method along (square_form path.unfolded.square) power s.dc (sound-length path.unfolded.square) in
    let condition = condition-is-sound path.side path.h path.unfolded.p d band distant in
    record {
      level = ((((((sent, sound-level_of path.rho), ((lit< tt, (lit< tt, distant)), lit< tt)), (((lit< tt, distant), lit< tt), lit< tt)), grounded), screened along dp (slice_index_or path.edges (place_of band) []) d gr band (sound-length path.unfolded.square) distant grounded), sound-foliage path.foliage along d band distant);
      length = sound-length path.unfolded.square;
      counts = (condition.first, condition.second);
    }

sound-reflections : ScreeningIsSound → (globals : Globals) (s : Source) (r : Receiver) (band : Band) (power : ℤ) (paths : List ReflectedPath)
    → AllSound (map (reflected_sound globals s r band (emission power s.dc)) paths)
unfolding AllSound
sound-reflections screened globals s r band power [] = tt
sound-reflections screened globals s r band power (path ∷ paths) = (
  sound-reflected screened globals s r band power path,
  sound-reflections screened globals s r band power paths,
)

sound-both : (cs ds : List Contribution) → AllSound cs → AllSound ds → AllSound (cs ++ ds)
unfolding AllSound
sound-both [] ds h k = k
sound-both (c ∷ cs) ds h k = (h.0, sound-both cs ds h.1 k)

-- screening is sound, over the top and round the sides
pub record AreSound : Type 0 where
  pub over : ScreeningIsSound
  pub round : SideAttenuationIsSound

sound-sounds : AreSound → (globals : Globals) (around : Surroundings) (s : Source) (r : Receiver) (band : Band) (power : Option ℤ) → AllSound (sounds_of globals around s r band (option_map (λ power. emission power s.dc) power))
unfolding AllSound
sound-sounds sound globals around s r band None = tt
sound-sounds sound globals around s r band (Some power) = (
  sound-one globals around s r band power _ (sound-screening_in sound.over globals around s r band),
  sound-both (map (lateral_sound globals around s r band (emission power s.dc)) (leading (laterals_at band around))) (map (reflected_sound globals s r band (emission power s.dc)) around.reflected)
      (sound-laterals sound.round globals around s r band power (leading (laterals_at band around)))
      (sound-reflections sound.over globals s r band power around.reflected),
)

sound-contributions : AreSound → (globals : Globals) (around : Surroundings) (s : Source) (r : Receiver) (band : Band) → AllSound (contributions globals around s r band)
sound-contributions sound globals around s r band = sound-sounds sound globals around s r band (power_in band s)

-- ---- energies

sound-each : {X : Type 0} (f : X → Tree) → ((x : X) → IsSound (f x)) → (total : Tree) → IsSound total → (xs : List X) → IsSound (fold Add total (map f xs))
sound-each f each total h [] = h
sound-each f each total h (x ∷ xs) = sound-each f each (Add total (f x)) (h, each x) xs

pub sound-band : AreSound → (globals : Globals) (around : Surroundings) (s : Source) (r : Receiver) (band : Band) → IsSound (band_energy globals around s r band)
unfolding band_energy
sound-band sound globals around s r band =
    sound-all energy_of sound-energy (Const (pos 0) 1) (lit< tt) (contributions globals around s r band) (sound-contributions sound globals around s r band)

sound-long_in : AreSound → (globals : Globals) (around : Surroundings) (s : Source) (r : Receiver) (band : Band) → IsSound (long_energy_in globals around s r band)
sound-long_in sound globals around s r band =
    sound-all (long_energy_of globals s r band) (sound-long_energy globals s r band) (Const (pos 0) 1) (lit< tt) (contributions globals around s r band) (sound-contributions sound globals around s r band)

pub sound-long : AreSound → (globals : Globals) (around : Surroundings) (s : Source) (r : Receiver) → IsSound (long_energy globals around s r)
unfolding long_energy
sound-long sound globals around s r =
    sound-each (long_energy_in globals around s r) (sound-long_in sound globals around s r) (Const (pos 0) 1) (lit< tt) all_bands

-- ---- levels

pub sound-total : AreSound → (book : Book) (r : Receiver) → IsSound (total_form book r)
unfolding total_form
sound-total sound book r =
    (lit< tt, (lit< tt, sound-each (λ s. long_energy_between book s r) (λ s. sound-long sound book.globals (surroundings_of book s r) s r) (Const (pos 0) 1) (lit< tt) (sources_within book r)))

pub sound-level : AreSound → (book : Book) (r : Receiver) (band : Band) → IsSound (band_form book r band)
unfolding band_form
sound-level sound book r band =
    (lit< tt, (lit< tt, sound-each (λ s. band_energy_between book s r band) (λ s. sound-band sound book.globals (surroundings_of book s r) s r band) (Const (pos 0) 1) (lit< tt) (sources_within book r)))
