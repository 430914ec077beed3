-- The sounds that come from a source to a receiver in a band, each with its level (ISO 9613-2, clause 6).
use Rattle.std.specs.Prelude.{ℕ, ℤ, pos, List, [], ◌∷◌, ◌++◌, map, filter, Option, Some, None, slice_index_or}
use Rattle.std.specs.Option.{option_map}
use Rattle.fix_interval.specs.Tree.{Tree, Const, Add, Sub, Mul, Lg}
use Rattle.scene_parts.specs.Parts.{Source, Receiver, Zone, Foliage, Globals}
use Rattle.scene_parts.specs.declared.kinds.Ground.{Ground}
use Rattle.scene_parts.specs.declared.kinds.Ground.TheVariants.{General, Simple}
use Rattle.path_shape.specs.declared.path.Path.{Path}
use Rattle.path_shape.specs.Shape.{plan_length, length_of, plan_square_form, square_form}
use Rattle.scene_parts.specs.declared.screening.edge.Edge.{Edge}
use Rattle.term_div_atm.specs.Terms.{divergence, absorption}
use Rattle.term_ground.specs.Ground.{ground}
use Rattle.term_ground.specs.Alternative.{simple_ground, solid_angle}
use Rattle.term_foliage.specs.Foliage.{foliage_attenuation}
use Rattle.term_barrier.specs.Screening.{screening}
use Rattle.term_barrier.specs.Lateral.{side_attenuation}
use Rattle.image_source.specs.Dimensions.{dimension_squared, needed_squared}
use Rattle.scene_geom.specs.declared.band.Band.{Band}
use Rattle.scene_geom.specs.Bands.{all_bands, place_of}
use Rattle.path_calc.specs.Absorption.{coefficient_in}
use Rattle.path_calc.specs.Lengths.{distance, reflected_distance}
use Rattle.path_calc.specs.LateralPaths.{LateralPath}
use Rattle.path_calc.specs.ReflectedPaths.{ReflectedPath, path_along}
use Rattle.path_calc.specs.Surroundings.{Surroundings, path_of, ends_of, edges_at, laterals_at}

-- when a sound counts: always, or where one quantity is greater than another (as in condition (19) of a reflection)
pub data Counting : Type 0 where
  Always : Counting
  WhereGreater : Tree → Tree → Counting

-- A sound in a band: its downwind level in dB (equation 3), before A-weight and weather; the distance d_p from source
-- to receiver in plan, in metres, by which the weather is allowed for (clause 8): a reflected sound has it by way of
-- its wall, a lateral one as the direct sound; and when the sound counts
pub record Contribution : Type 0 where
  pub level : Tree
  pub dp : Tree
  pub counts : Counting

-- ---- what a source emits

-- the sound power level L_W of a source in a band, in 0.01 dB, where it has power there
abbrev pub power_in : Band → Source → Option ℤ
power_in band s = slice_index_or s.lw (place_of band) None

-- L_W + D_c, both in 0.01 dB
abbrev pub emission : ℤ → ℤ → Tree
emission power directivity = Add (Const power 100) (Const directivity 100)

-- L_W + D_c of a source in a band, where it has power there
abbrev pub emission_in : Band → Source → Option Tree
emission_in band s = option_map (λ power. emission power s.dc) (power_in band s)

-- what a source sends along a path, by the square of the path's plan length in m²: L_W + D_c, and where the ground goes
-- by the alternative method also D_Omega (equation 11)
abbrev pub power_along : Ground → Path → Tree → Tree → Tree
power_along General path square emission = emission
power_along Simple path square emission = Add emission (solid_angle path square)

-- ---- what reaches a receiver

-- A_gr of a path in each band, by its plan length and its length in space, both in metres: by the general method
-- (7.3.1) among zones of ground, with the ground factor g0 in hundredths outside of them, or by the alternative one
-- (7.3.2)
abbrev pub ground_along : Ground → List Zone → ℕ → Path → Tree → Tree → List Tree
ground_along General zones g0 path dp d = ground zones g0 path dp
ground_along Simple zones g0 path dp d = map (λ band. simple_ground path d) all_bands

-- L_W + D_c, and D_Omega where there is one, along the direct path
abbrev pub power_between : Globals → Source → Receiver → Tree → Tree
power_between globals s r emission =
    power_along globals.method (path_of s r) (plan_square_form s.at r.at) emission

-- A_gr of the direct path in a band
abbrev pub ground_in : Globals → List Zone → Source → Receiver → Band → Tree
ground_in globals zones s r band =
    slice_index_or
    (ground_along globals.method zones globals.g (path_of s r) (plan_length s.at r.at) (distance s.at s.h r.at r.h))
    (place_of band)
    (Const (pos 0) 1)

-- A_fol of the direct path in a band (Table A.1)
abbrev pub foliage_in : List Foliage → Source → Receiver → Band → Tree
foliage_in foliage s r band = foliage_attenuation foliage (path_of s r) (distance s.at s.h r.at r.h) band

-- A_bar of the direct path in a band, over the edges that it passes there, where A_gr is this
abbrev pub screening_in : List Edge → Source → Receiver → Tree → Band → Tree
screening_in edges s r gr band =
    screening (path_of s r) (plan_length s.at r.at) edges (distance s.at s.h r.at r.h) gr band

-- D_z round the side along a lateral path in a band
abbrev pub lateral_screening_in : LateralPath → Source → Receiver → Band → Tree
lateral_screening_in path s r band =
    side_attenuation s.at s.h r.at r.h path.corners (distance s.at s.h r.at r.h) band

-- P - A_div - A_atm - A_gr (equations 3 and 4), of what is sent along a path, over a distance d in metres and with the
-- coefficient of the air in 0.1 dB/km: the level of a sound before what screens it and foliage are taken off
abbrev pub unscreened_level : Tree → Tree → ℕ → Tree → Tree
unscreened_level power d alpha10 gr = Sub (Sub (Sub power (divergence d)) (absorption d alpha10)) gr

-- a sound with the divergence, the air, the ground and the foliage of the direct path, less an attenuation by screening
abbrev pub sound_past : Globals → Surroundings → Source → Receiver → Band → Tree → Tree → Contribution
sound_past globals around s r band emission screening = record {
  level =
      let d = distance s.at s.h r.at r.h in
      let gr = ground_in globals around.zones s r band in
      let power = power_between globals s r emission in
      Sub
      (Sub (unscreened_level power d (coefficient_in globals.air band) gr) screening)
      (foliage_in around.foliage s r band);
  dp = plan_length s.at r.at;
  counts = Always;
}

-- the sound of the direct path, which leads over the top of what screens it: with A_bar (equation 12)
abbrev pub direct_sound : Globals → Surroundings → Source → Receiver → Band → Tree → Contribution
direct_sound globals around s r band emission =
    let gr = ground_in globals around.zones s r band in
    sound_past globals around s r band emission (screening_in (edges_at band around) s r gr band)

-- the sound of a lateral path: with D_z in place of A_bar (equation 13)
abbrev pub lateral_sound : Globals → Surroundings → Source → Receiver → Band → Tree → LateralPath → Contribution
lateral_sound globals around s r band emission path =
    sound_past globals around s r band emission (lateral_screening_in path s r band)

-- the lateral paths along which sound goes
abbrev pub leading : List LateralPath → List LateralPath
leading paths = filter (λ path. path.leads) paths

-- ---- what a wall reflects (7.5)

-- L_W + D_c, and D_Omega where there is one, along a reflected path
abbrev pub reflected_power : Globals → ReflectedPath → Source → Receiver → Tree → Tree
reflected_power globals path s r emission =
    power_along globals.method (path_along (ends_of s r) path.unfolded) (square_form path.unfolded.square) emission

-- A_gr of a reflected path in a band, by the general method among the zones that its legs meet
abbrev pub reflected_ground_in : Globals → ReflectedPath → Source → Receiver → Band → Tree
reflected_ground_in globals path s r band =
    slice_index_or
    (ground_along
    globals.method
    path.zones
    globals.g
    (path_along (ends_of s r) path.unfolded)
    (length_of path.unfolded.square)
    (reflected_distance path.unfolded.square s.h r.h))
    (place_of band)
    (Const (pos 0) 1)

-- A_fol of a reflected path in a band, by the foliage that its legs meet
abbrev pub reflected_foliage_in : ReflectedPath → Source → Receiver → Band → Tree
reflected_foliage_in path s r band =
    foliage_attenuation
    path.foliage
    (path_along (ends_of s r) path.unfolded)
    (reflected_distance path.unfolded.square s.h r.h)
    band

-- A_bar of a reflected path in a band, over the edges on its legs, where A_gr is this
abbrev pub reflected_screening_in : ReflectedPath → Source → Receiver → Tree → Band → Tree
reflected_screening_in path s r gr band =
    screening
    (path_along (ends_of s r) path.unfolded)
    (length_of path.unfolded.square)
    (slice_index_or path.edges (place_of band) [])
    (reflected_distance path.unfolded.square s.h r.h)
    gr
    band

-- 10 lg rho, by which a wall raises the level of what it reflects (equation 20): it is 0 dB or below
unfoldable pub reflection_level : ℕ → Tree
reflection_level rho = Mul (Const (pos 10) 1) (Lg (Const (pos rho) 1000))

-- the sound of a reflected path, with its own length, ground, screens and foliage, which counts where the wall is
-- large enough (condition 19)
abbrev pub reflected_sound : Globals → Source → Receiver → Band → Tree → ReflectedPath → Contribution
reflected_sound globals s r band emission path = record {
  level =
      let d = reflected_distance path.unfolded.square s.h r.h in
      let gr = reflected_ground_in globals path s r band in
      let reflected = Add (reflected_power globals path s r emission) (reflection_level path.rho) in
      Sub
      (Sub
      (unscreened_level reflected d (coefficient_in globals.air band) gr)
      (reflected_screening_in path s r gr band))
      (reflected_foliage_in path s r band);
  dp = length_of path.unfolded.square;
  counts =
      let d = reflected_distance path.unfolded.square s.h r.h in
      WhereGreater
      (dimension_squared path.side path.h path.unfolded.p d)
      (needed_squared path.unfolded.p d band);
}

-- ---- all sounds

-- all sounds of what a source emits: the direct one, then those round the left and the right, then those that walls
-- reflect; none where no power is
abbrev pub sounds_of : Globals → Surroundings → Source → Receiver → Band → Option Tree → List Contribution
sounds_of globals around s r band None = []
sounds_of globals around s r band (Some emission) =
    direct_sound globals around s r band emission
    ∷ (map (lateral_sound globals around s r band emission) (leading (laterals_at band around))
    ++ map (reflected_sound globals s r band emission) around.reflected)

-- all sounds that come from a source to a receiver in a band
abbrev pub contributions : Globals → Surroundings → Source → Receiver → Band → List Contribution
contributions globals around s r band = sounds_of globals around s r band (emission_in band s)
