-- The parts of a scene, grids and settings: for each the plain record that contracts see of it, without where it lies
-- in memory, how its fields are seen as that record, and its ranges.
use Rattle.std.specs.Prelude.{◌≡◌, ℕ, ◌≤◌, ℤ, pos, neg_ℤ, ◌+ℤ◌, ◌≤ℤ◌, ◌-◌, ◌*◌, List, [], ◌∷◌, length, Bool, true, false, ◌&&◌, ◌||◌, ◌==◌, nat_lt, int_le, IsTrue, Option, None, Some, IfSome, codes, unwrap_or}
use Rattle.std.specs.List.{list_all}
use Rattle.std.specs.Ordering.{int_eq}
use Rattle.scene_geom.specs.declared.plan.Pt.{Pt}
use Rattle.scene_geom.specs.declared.plan.Side.{Side}
use Rattle.scene_geom.specs.Outline.{area2_of}
use Rattle.scene_parts.specs.declared.kinds.Kind.{Kind}
use Rattle.scene_parts.specs.declared.kinds.Air.{Air}
use Rattle.scene_parts.specs.declared.kinds.Air.TheVariants.{Celsius10Humidity70}
use Rattle.scene_parts.specs.declared.kinds.Ground.{Ground}
use Rattle.scene_parts.specs.declared.kinds.Ground.TheVariants.{General}
use Rattle.scene_parts.specs.declared.kinds.Shape.{Shape}
use Rattle.scene_parts.specs.declared.kinds.Shape.TheVariants.{Barrier, Building}
use Rattle.scene_parts.specs.declared.parts.Class.{Class}
use Rattle.scene_parts.specs.declared.parts.Class.TheVariants as classes
use Rattle.scene_parts.specs.declared.parts.PointSource.TheInside.{Inside as PointSourceInside}
use Rattle.scene_parts.specs.declared.parts.Obstacle.TheInside.{Inside as ObstacleInside}
use Rattle.scene_parts.specs.declared.parts.Zone.TheInside.{Inside as ZoneInside}
use Rattle.scene_parts.specs.declared.parts.Foliage.TheInside.{Inside as FoliageInside}
use Rattle.scene_parts.specs.declared.parts.Receiver.TheInside.{Inside as ReceiverInside}
use Rattle.scene_parts.specs.declared.settings.Globals.TheInside.{Inside as GlobalsInside}
use Rattle.scene_parts.specs.declared.settings.SetSpec.TheInside.{Inside as SetSpecInside}
use Rattle.scene_parts.specs.declared.settings.GridSpec.TheInside.{Inside as GridSpecInside}
use Rattle.scene_parts.specs.Names.{IsName, IsAnyName}
use Rattle.scene_parts.specs.Limits.{most_corners, most_columns, widest_step, plan_end, farthest_reach, greatest_height, greatest_ground_factor, greatest_c0, full_reflection, weak_reflection}
use Rattle.scene_parts.specs.Sides.{sides_in, is_short}

-- the words of classes, as rows have them
unfoldable pub class_word : Class → List ℕ
class_word classes.Source = codes "source"
class_word classes.Barrier = codes "barrier"
class_word classes.Building = codes "building"
class_word classes.Zone = codes "zone"
class_word classes.Foliage = codes "foliage"
class_word classes.Receiver = codes "receiver"
class_word classes.Obstacle = codes "obstacle"
class_word classes.Side = codes "side"

-- ---- what ranges of several parts are made of

-- a height above ground, in mm
pub record IsHeight (h : ℕ) : Type 0 where
  pub low : 1 ≤ h
  pub high : h ≤ greatest_height

-- a ground factor, in hundredths
abbrev pub IsGroundFactor : ℕ → Type 0
IsGroundFactor g = g ≤ greatest_ground_factor

-- two points in one place
abbrev pub is_same : Pt → Pt → Bool
is_same p q = int_eq p.x q.x && int_eq p.y q.y

-- all points in one place
abbrev pub are_same : List Pt → Bool
are_same [] = true
are_same (p ∷ ps) = list_all (is_same p) ps

-- a barrier has at least 2 points, an area at least 3 corners
abbrev pub least_corners : Shape → ℕ
least_corners Barrier = 2
least_corners Building = 3

-- a barrier with all its points in one place; a building without area
abbrev pub is_flat : Shape → List Pt → Bool
is_flat Barrier points = are_same points
is_flat Building points = int_eq (area2_of points) (pos 0)

-- ---- sources

-- a point source (ISO 9613-2, clause 4): its height above ground in mm, its sound power level in each
-- octave band from 63 Hz to 8 kHz where it has power there, and its directivity correction, both in 0.01 dB
pub record Source : Type 0 where
  pub name : List ℕ
  pub kind : Kind
  pub at : Pt
  pub h : ℕ
  pub lw : List (Option ℤ)
  pub dc : ℤ

-- the point source of these values
abbrev pub point_source : List ℕ → Kind → Pt → ℕ → List (Option ℤ) → ℤ → Source
point_source name kind at h lw dc = record { name = name; kind = kind; at = at; h = h; lw = lw; dc = dc }

abbrev pub source_seen : PointSourceInside → Source
source_seen s = record { name = s.name; kind = s.kind; at = s.at; h = s.h; lw = s.lw; dc = s.dc }

-- a level in a range, where there is power
abbrev pub is_power_within : ℤ → ℤ → Option ℤ → Bool
is_power_within low high None = true
is_power_within low high (Some level) = int_le low level && int_le level high

-- a sound power level, from -20 dB to 160 dB, where there is power
abbrev pub is_power : Option ℤ → Bool
is_power = is_power_within (neg_ℤ (pos 2000)) (pos 16000)

pub record IsSource (source : Source) : Type 0 where
  pub name : IsAnyName source.name
  pub height : IsHeight source.h
  pub bands : length source.lw ≡ 8
  pub powers : IsTrue (list_all is_power source.lw)
  pub directivity_low : neg_ℤ (pos 3000) ≤ℤ source.dc
  pub directivity_high : source.dc ≤ℤ pos 2000

-- ---- barriers and buildings

-- a barrier or a building (ISO 9613-2, 7.4 and 7.5): its corners, its height above ground in mm, and the
-- sound reflected by its sides per mille
pub record Obstacle : Type 0 where
  pub name : List ℕ
  pub shape : Shape
  pub points : List Pt
  pub h : ℕ
  pub rho : ℕ

abbrev pub obstacle_seen : ObstacleInside → Obstacle
obstacle_seen o = record { name = o.name; shape = o.shape; points = o.points; h = o.h; rho = o.rho }

-- the sides of an obstacle, in order
abbrev pub sides_of : Obstacle → List Side
sides_of obstacle = sides_in obstacle.shape obstacle.points

-- what is reflected, per mille: nothing, or more than 200
abbrev pub is_mirror : ℕ → Bool
is_mirror rho = (rho == 0) || nat_lt weak_reflection rho

pub record IsObstacle (obstacle : Obstacle) : Type 0 where
  pub name : IsName obstacle.name
  pub enough : least_corners obstacle.shape ≤ length obstacle.points
  pub few : length obstacle.points ≤ most_corners
  pub spread : is_flat obstacle.shape obstacle.points ≡ false
  pub short : IsTrue (list_all is_short (sides_of obstacle))
  pub height : IsHeight obstacle.h
  pub reflects : IsTrue (is_mirror obstacle.rho)
  pub reflects_no_more : obstacle.rho ≤ full_reflection

-- ---- zones of ground

-- a zone of ground (ISO 9613-2, 7.3.1): its ground factor in hundredths
pub record Zone : Type 0 where
  pub name : List ℕ
  pub points : List Pt
  pub g : ℕ

abbrev pub zone_seen : ZoneInside → Zone
zone_seen z = record { name = z.name; points = z.points; g = z.g }

pub record IsZone (zone : Zone) : Type 0 where
  pub name : IsName zone.name
  pub enough : 3 ≤ length zone.points
  pub few : length zone.points ≤ most_corners
  pub spread : is_flat Building zone.points ≡ false
  pub ground_factor : IsGroundFactor zone.g

-- ---- foliage

-- dense foliage (ISO 9613-2, Table A.1): its corners and its height above ground in mm
pub record Foliage : Type 0 where
  pub name : List ℕ
  pub points : List Pt
  pub h : ℕ

abbrev pub foliage_seen : FoliageInside → Foliage
foliage_seen f = record { name = f.name; points = f.points; h = f.h }

pub record IsFoliage (foliage : Foliage) : Type 0 where
  pub name : IsName foliage.name
  pub enough : 3 ≤ length foliage.points
  pub few : length foliage.points ≤ most_corners
  pub spread : is_flat Building foliage.points ≡ false
  pub height : IsHeight foliage.h

-- ---- receivers

-- a receiver: its height above ground in mm
pub record Receiver : Type 0 where
  pub name : List ℕ
  pub at : Pt
  pub h : ℕ

abbrev pub receiver_seen : ReceiverInside → Receiver
receiver_seen r = record { name = r.name; at = r.at; h = r.h }

pub record IsReceiver (receiver : Receiver) : Type 0 where
  pub name : IsAnyName receiver.name
  pub height : IsHeight receiver.h

-- ---- grids

-- a grid of receivers: its first receiver, the distance to the next in mm, and their height
pub record Grid : Type 0 where
  pub name : List ℕ
  pub at : Pt
  pub step : ℕ
  pub columns : ℕ
  pub rows : ℕ
  pub h : ℕ

abbrev pub grid_seen : GridSpecInside → Grid
grid_seen s = record { name = s.name; at = s.at; step = s.step; columns = s.columns; rows = s.rows; h = s.h }

-- a number of columns or rows
pub record IsCount (count : ℕ) : Type 0 where
  pub low : 1 ≤ count
  pub high : count ≤ most_columns

-- the coordinate of the last column or row of a grid, in mm
abbrev pub last_place : ℤ → ℕ → ℕ → ℤ
last_place start step count = start +ℤ pos (step * (count - 1))

pub record IsGrid (grid : Grid) : Type 0 where
  pub name : IsName grid.name
  pub step_low : 1 ≤ grid.step
  pub step_high : grid.step ≤ widest_step
  pub columns : IsCount grid.columns
  pub rows : IsCount grid.rows
  pub last_column : last_place grid.at.x grid.step grid.columns ≤ℤ pos plan_end
  pub last_row : last_place grid.at.y grid.step grid.rows ≤ℤ pos plan_end
  pub height : IsHeight grid.h

-- ---- settings

-- what holds of the whole scene: how far a source reaches in mm, the ground factor outside zones in
-- hundredths, the air (ISO 9613-2, Table 2), the factor C0 of clause 8 in 0.01 dB, and the method for ground (7.3)
pub record Globals : Type 0 where
  pub reach : ℕ
  pub g : ℕ
  pub air : Air
  pub c0 : ℕ
  pub method : Ground

abbrev pub globals_seen : GlobalsInside → Globals
globals_seen s = record { reach = s.reach; g = s.g; air = s.air; c0 = s.c0; method = s.ground }

-- values for some of the globals
pub record Setting : Type 0 where
  pub reach : Option ℕ
  pub g : Option ℕ
  pub air : Option Air
  pub c0 : Option ℕ
  pub method : Option Ground

abbrev pub setting_seen : SetSpecInside → Setting
setting_seen s = record { reach = s.reach; g = s.g; air = s.air; c0 = s.c0; method = s.ground }

-- the globals of a scene in which nothing is set: sources reach 4 km, the ground is hard, the air has 10 °C and 70 %, C0
-- is 0, and the ground goes by the general method
abbrev pub default_globals : Globals
default_globals = record { reach = farthest_reach; g = 0; air = Celsius10Humidity70; c0 = 0; method = General }

-- the globals with the values that a setting gives
abbrev pub globals_with : Setting → Globals → Globals
globals_with setting globals = record {
  reach = unwrap_or setting.reach globals.reach;
  g = unwrap_or setting.g globals.g;
  air = unwrap_or setting.air globals.air;
  c0 = unwrap_or setting.c0 globals.c0;
  method = unwrap_or setting.method globals.method;
}

-- the setting of all globals
abbrev pub setting_of : Globals → Setting
setting_of globals = record {
  reach = Some globals.reach;
  g = Some globals.g;
  air = Some globals.air;
  c0 = Some globals.c0;
  method = Some globals.method;
}

-- a distance at which a source still counts, in mm
pub record IsReach (reach : ℕ) : Type 0 where
  pub low : 1 ≤ reach
  pub high : reach ≤ farthest_reach

-- the factor C0, in 0.01 dB
abbrev pub IsWeatherFactor : ℕ → Type 0
IsWeatherFactor c0 = c0 ≤ greatest_c0

pub record AreGlobals (globals : Globals) : Type 0 where
  pub reach : IsReach globals.reach
  pub ground_factor : IsGroundFactor globals.g
  pub c0 : IsWeatherFactor globals.c0

pub record IsSetting (setting : Setting) : Type 0 where
  pub reach : IfSome setting.reach IsReach
  pub ground_factor : IfSome setting.g IsGroundFactor
  pub c0 : IfSome setting.c0 IsWeatherFactor
