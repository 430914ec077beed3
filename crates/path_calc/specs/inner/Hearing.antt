-- What stands between the code and the definitions: the energies of what a source emits, at the end of paths of which
-- the quantities are known.
use Rattle.std.specs.Prelude.{◌≡◌, ℕ, pos, Bool, true, false, ◌&&◌, List, [], ◌∷◌, ◌++◌, map, filter, Option, Some, None, slice_index_or}
use Rattle.std.specs.List.{list_any}
use Rattle.fix_interval.specs.Interval.{Interval}
use Rattle.fix_interval.specs.Values.{add_of, less_of, pick_of}
use Rattle.fix_interval.specs.declared.truth.Truth.{Truth}
use Rattle.fix_interval.specs.declared.truth.Truth.TheVariants.{Sure, Never, Unsure}
use Rattle.fix_interval.specs.Tree.{Tree, Known, Const, Add, Sub, enc}
use Rattle.energy_sum.specs.Energies.{energy_form}
use Rattle.energy_sum.specs.Weather.{correction}
use Rattle.scene_geom.specs.declared.plan.Side.{Side}
use Rattle.scene_geom.specs.declared.reflection.Reflection.{Reflection}
use Rattle.scene_geom.specs.declared.band.Band.{Band}
use Rattle.scene_geom.specs.Bands.{all_bands, place_of}
use Rattle.scene_parts.specs.Parts.{Source, Receiver, Zone, Foliage, Globals}
use Rattle.scene_parts.specs.declared.kinds.Ground.{Ground}
use Rattle.scene_parts.specs.declared.kinds.Ground.TheVariants.{General, Simple}
use Rattle.scene_book.specs.Book.{Book}
use Rattle.scene_geom.specs.declared.fractions.fraction.Frac.{Frac}
use Rattle.path_shape.specs.Shape.{plan_length, plan_square, plan_square_form, square_form}
use Rattle.scene_geom.specs.Fraction.{over}
use Rattle.path_shape.specs.declared.path.Path.{Path}
use Rattle.scene_parts.specs.declared.screening.edge.Edge.{Edge}
use Rattle.scene_parts.specs.declared.screening.ends.Ends.{Ends}
use Rattle.scene_parts.specs.declared.screening.crossing.Crossing.{Crossing}
use Rattle.scene_parts.specs.Crossings.{is_crossing_in}
use Rattle.image_source.specs.declared.leg.Leg.{Leg}
use Rattle.image_source.specs.Dimensions.{dimension_squared, needed_squared}
use Rattle.term_div_atm.specs.Terms.{divergence}
use Rattle.term_ground.specs.Alternative.{solid_angle}
use Rattle.term_barrier.specs.Screening.{screening}
use Rattle.path_calc.specs.declared.direct.propagation.Propagation.{Propagation}
use Rattle.path_calc.specs.declared.reflected.Echo.{Echo}
use Rattle.path_calc.specs.declared.reflected.Echo.TheVariants.{Silent, Audible}
use Rattle.path_calc.specs.declared.reflected.Sound.{Sound}
use Rattle.path_calc.specs.inner.Propagations.{Reflected, counts_at}
use Rattle.path_calc.specs.inner.Losses.{loss_in, losses_along}
use Rattle.path_calc.specs.inner.BarrierAttenuations.{no_attenuations}
use Rattle.path_calc.specs.inner.Ends.{direct_path_of}
use Rattle.path_calc.specs.declared.energies.paths.Paths.{Paths}
use Rattle.path_calc.specs.Absorption.{coefficient_in}
use Rattle.path_calc.specs.Lengths.{distance, reflected_distance}
use Rattle.path_calc.specs.ReflectedPaths.{ReflectedPath, path_along}
use Rattle.path_calc.specs.Surroundings.{ends_of, path_of, surroundings_of, edges_at, laterals_at}
use Rattle.path_calc.specs.Trace.{legs_of}
use Rattle.path_calc.specs.Contributions.{ground_along, ground_in, foliage_in, screening_in, lateral_screening_in, leading, unscreened_level, reflection_level}
use Rattle.path_calc.specs.inner.Strings.{both_of, lateral_of}
use Rattle.path_calc.specs.Energies.{sum_form, long_term}
use Rattle.path_calc.specs.Prepared.{PreparedSource, prepared_of}
use Rattle.path_calc.specs.inner.Prepared.{emission_at, has_power}

-- ---- screening

-- the edges of those crossings that count in a band
abbrev pub edges_among : Band → List Crossing → List Edge
edges_among band crossings = map (λ crossing. crossing.edge) (filter (is_crossing_in band) crossings)

-- A_bar of a path in a band over some edges, where the length of the path is known, and A_gr in each band
abbrev pub bar_over : Path → List Edge → Interval → List Interval → Band → Interval
bar_over path edges d grounds band =
    let gr = slice_index_or grounds (place_of band) d in
    enc (screening path (Known path.dp) edges (Known d) (Known gr) band)

-- an attenuation in a band, where the band is asked for, and else 0 dB, which nobody reads
abbrev pub where_asked : Bool → Interval → Interval
where_asked true attenuation = attenuation
where_asked false attenuation = enc (Const (pos 0) 1)

-- A_bar in each band that is asked for, over the edges there
abbrev pub bars_over : Path → (Band → List Edge) → Interval → List Interval → (Band → Bool) → List Interval
bars_over path edges d grounds asked =
    map (λ band. where_asked (asked band) (bar_over path (edges band) d grounds band)) all_bands

-- ---- paths

-- D_Omega of a path, where the ground goes by the alternative method, by the square of its plan length in m²
abbrev pub omega_along : Ground → Path → Tree → Option Interval
omega_along General path square = None
omega_along Simple path square = Some (enc (solid_angle path square))

-- what the bands share of a path, of the square of its plan length in mm² and of its length in metres, with its
-- attenuations by the ground and the edges on it in each band, and the bands that are asked for
abbrev pub propagation_over :
    Globals
    → List Foliage
    → Path
    → Frac
    → Interval
    → List Interval
    → (Band → List Edge)
    → (Band → Bool)
    → Propagation
propagation_over globals foliage path square d grounds edges asked = record {
  air = globals.air;
  distance = d;
  divergence = enc (divergence (Known d));
  grounds = grounds;
  omega = omega_along globals.method path (square_form square);
  screening = bars_over path edges d grounds asked;
  foliage = losses_along foliage path d;
  correction = enc (correction (Known path.dp) path.hs path.hr globals.c0);
}

-- the attenuations by the ground of a path whose lengths are known
abbrev pub grounds_along : Globals → List Zone → Path → Interval → List Interval
grounds_along globals zones path d =
    map enc (ground_along globals.method zones globals.g path (Known path.dp) (Known d))

-- what the bands share of a path of a scene that is screened by these attenuations
abbrev pub propagation_past : Book → Path → Frac → Interval → List Interval → Propagation
propagation_past book path square d screening = record {
  air = book.globals.air;
  distance = d;
  divergence = enc (divergence (Known d));
  grounds = grounds_along book.globals book.zones path d;
  omega = omega_along book.globals.method path (square_form square);
  screening = screening;
  foliage = losses_along book.foliage path d;
  correction = enc (correction (Known path.dp) path.hs path.hr book.globals.c0);
}

-- what the bands share of the direct path between two ends of a scene, as it is in the open
abbrev pub open_path : Book → Ends → Propagation
open_path book ends =
    propagation_past book (direct_path_of ends) (over (pos (plan_square ends.s ends.r)) (pos 1))
    (enc (distance ends.s ends.hs ends.r ends.hr))
    no_attenuations

-- the same of a path that is screened by these
abbrev pub screened_by : Propagation → List Interval → Propagation
screened_by propagation screening = record propagation { screening = screening }

-- what the bands share of a path of a scene, where these sides cross it and these bands are asked for
abbrev pub propagation_along : Book → Path → Frac → Interval → List Crossing → (Band → Bool) → Propagation
propagation_along book path square d crossings asked =
    propagation_over book.globals book.foliage path square d (grounds_along book.globals book.zones path d)
    (λ band. edges_among band crossings)
    asked

-- whether a band is among those that are asked for
abbrev pub is_asked : List Bool → Band → Bool
is_asked asked band = slice_index_or asked (place_of band) false

-- the square of the plan length of the direct path, in mm²
abbrev pub direct_square : Source → Receiver → Frac
direct_square s r = over (pos (plan_square s.at r.at)) (pos 1)

-- the attenuation by the ground in a band, and that by screening
abbrev pub ground_at : Propagation → Band → Interval
ground_at propagation band = slice_index_or propagation.grounds (place_of band) propagation.divergence

abbrev pub screening_at : Propagation → Band → Interval
screening_at propagation band = slice_index_or propagation.screening (place_of band) propagation.divergence

-- D_z round the sides in a band
abbrev pub lateral_at : Paths → Band → List Interval
lateral_at paths band = both_of (lateral_of paths.lateral.items band)

-- the quantities of the direct path from a source to a receiver of a scene; the attenuation by screening is that in the
-- bands in which there is power
pub record IsDirect (direct : Propagation) (book : Book) (s : Source) (r : Receiver) : Type 0 where
  pub air : direct.air ≡ book.globals.air
  pub distance : direct.distance ≡ enc (distance s.at s.h r.at r.h)
  pub ground : (band : Band)
      → ground_at direct band ≡ enc (ground_in book.globals (surroundings_of book s r).zones s r band)
  pub omega : direct.omega ≡ omega_along book.globals.method (path_of s r) (plan_square_form s.at r.at)
  pub screening : (band : Band)
      → has_power (prepared_of s) band ≡ true
      → let around = surroundings_of book s r in
      let gr = ground_in book.globals around.zones s r band in
      screening_at direct band ≡ enc (screening_in (edges_at band around) s r gr band)
  pub foliage : (band : Band)
      → loss_in direct.foliage band ≡ enc (foliage_in (surroundings_of book s r).foliage s r band)
  pub correction : direct.correction ≡ enc (correction (plan_length s.at r.at) s.h r.h book.globals.c0)

-- ---- paths by way of walls

-- the crossings of legs, whatever leg each is of
abbrev pub crossings_on : List (Leg × Crossing) → List Crossing
crossings_on legs = map (λ crossing. crossing.1) legs

-- a wall is large enough, or may be
abbrev pub may_count : Truth → Bool
may_count Sure = true
may_count Never = false
may_count Unsure = true

-- whether a wall is large enough in a band, of what is known of all bands
abbrev pub truth_in : List Truth → Band → Truth
truth_in counts band = slice_index_or counts (place_of band) Unsure

-- something may be heard in a band by way of a wall that counts in these: it may count there, and there is power
abbrev pub may_be_heard : PreparedSource → (Band → Truth) → Band → Bool
may_be_heard source counts band = has_power source band && may_count (counts band)

-- what is heard by way of a wall: nothing, where no band is asked for
abbrev pub echo_of : Bool → Sound → Echo
echo_of true sound = Audible sound
echo_of false sound = Silent

-- whether a wall is large enough in a band for a path whose length is known
abbrev pub counts_on : Side → ℕ → Reflection → Interval → Band → Truth
counts_on side h unfolded d band =
    less_of (enc (needed_squared unfolded.p (Known d) band)) (enc (dimension_squared side h unfolded.p (Known d)))

-- the sound by way of a wall over a length, with what is asked for in the bands
abbrev pub sound_along : Globals → Ends → ReflectedPath → Interval → (Band → Truth) → (Band → Bool) → Sound
sound_along globals ends read d counts asked =
    let path = path_along ends read.unfolded in
    record {
      path = propagation_over globals read.foliage path read.unfolded.square d (grounds_along globals read.zones path d)
          (λ band. slice_index_or read.edges (place_of band) [])
          asked;
      level = enc (reflection_level read.rho);
      counts = map counts all_bands;
    }

-- what the bands share of a path by way of a wall: where nothing may be heard in any band, nothing beside its legs
abbrev pub reflected_of : Globals → PreparedSource → Ends → ReflectedPath → Reflected
reflected_of globals source ends read =
    let d = enc (reflected_distance read.unfolded.square ends.hs ends.hr) in
    let counts = counts_on read.side read.h read.unfolded d in
    let asked = may_be_heard source counts in
    record {
      wall = legs_of ends read;
      echo = echo_of (list_any asked all_bands) (sound_along globals ends read d counts asked);
    }

-- all paths from a source to a receiver of a scene
pub record ArePaths (paths : Paths) (book : Book) (s : Source) (r : Receiver) : Type 0 where
  pub direct : IsDirect paths.direct book s r
  pub lateral : (band : Band)
      → lateral_at paths band
      ≡ map (λ path. enc (lateral_screening_in path s r band)) (leading (laterals_at band (surroundings_of book s r)))
  pub reflected : paths.reflected.items
      ≡ map (reflected_of book.globals (prepared_of s) (ends_of s r)) (surroundings_of book s r).reflected

-- ---- energies

-- the attenuations by screening in a band of the sounds that go over the top and round the sides
abbrev pub screenings_at : Paths → Band → List Interval
screenings_at paths band = screening_at paths.direct band ∷ lateral_at paths band

-- what is sent along a path of what is emitted: D_Omega is added, where there is one
abbrev pub raised : Option Interval → Tree → Tree
raised None emission = emission
raised (Some omega) emission = Add emission (Known omega)

abbrev pub power_at : Propagation → Interval → Interval
power_at propagation emission = enc (raised propagation.omega (Known emission))

-- the level of what is sent, before it is screened, and past what screens it and past foliage
abbrev pub level_before : Propagation → Band → Interval → Tree
level_before propagation band power =
    let d = Known propagation.distance in
    let gr = Known (ground_at propagation band) in
    unscreened_level (Known power) d (coefficient_in propagation.air band) gr

abbrev pub past : Interval → Interval → Interval → Tree
past level screening foliage = Sub (Sub (Known level) (Known screening)) (Known foliage)

-- what makes an energy of C_met and a level, whatever the weather, and over that of a long time
abbrev pub downwind_energy : Tree → Tree → Tree
downwind_energy c_met level = energy_form level

abbrev pub long_term_energy : Band → Tree → Tree → Tree
long_term_energy band c_met level = energy_form (long_term band c_met level)

-- the energy of the sound by way of a wall of an emission, by what makes an energy of a level
abbrev pub sound_energy : (Tree → Tree → Tree) → Band → Interval → Sound → Tree
sound_energy energy band emission sound =
    let power = add_of (power_at sound.path emission) sound.level in
    let level = enc (level_before sound.path band power) in
    energy (Known sound.path.correction) (past level (screening_at sound.path band) (loss_in sound.path.foliage band))

-- the energy of what is heard, where the wall is large enough, and else 0
abbrev pub echo_energy : (Tree → Tree → Tree) → Band → Interval → Echo → Interval
echo_energy energy band emission Silent = enc (Const (pos 0) 1)
echo_energy energy band emission (Audible sound) =
    pick_of (counts_at sound band) (enc (sound_energy energy band emission sound)) (enc (Const (pos 0) 1))

-- the energy of what a wall reflects of an emission
abbrev pub reflected_energy : (Tree → Tree → Tree) → Band → Interval → Reflected → Tree
reflected_energy energy band emission reflected = Known (echo_energy energy band emission reflected.echo)

-- the sum of the energies of all sounds, by what makes an energy of a level; there are none where nothing is emitted
abbrev pub sum_after : (Tree → Tree → Tree) → Paths → Band → Option Interval → Interval
sum_after energy paths band None = enc (sum_form [])
sum_after energy paths band (Some emission) =
    let level = enc (level_before paths.direct band (power_at paths.direct emission)) in
    let foliage = loss_in paths.direct.foliage band in
    enc
    (sum_form
    (map (λ i. energy (Known paths.direct.correction) (past level i foliage)) (screenings_at paths band)
    ++ map (reflected_energy energy band emission) paths.reflected.items))

-- the energy of a source in a band, and its long-term energy
abbrev pub energy_after : Paths → PreparedSource → Band → Interval
energy_after paths source band = sum_after downwind_energy paths band (emission_at source band)

abbrev pub long_energy_after : Paths → PreparedSource → Band → Interval
long_energy_after paths source band = sum_after (long_term_energy band) paths band (emission_at source band)

-- an energy, and one more where there is one
abbrev pub with_energy : Interval → Option Interval → Interval
with_energy energy None = energy
with_energy energy (Some more) = add_of energy more
