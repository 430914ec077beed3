-- What the check of a line's part answers: for each word its tests in their order, and the part where all pass.
use Rattle.std.specs.Prelude.{ℕ, ◌+◌, ℤ, pos, neg_ℤ, List, [], ◌∷◌, length, ◌&&◌, ◌||◌, nat_lt, int_le, Option, Result, Ok, Err, if◌then◌else◌, codes, bytes_eq, unsigned_abs}
use Rattle.scene_geom.specs.declared.plan.Pt.{Pt}
use Rattle.scene_geom.specs.declared.plan.Side.{Side}
use Rattle.scene_geom.specs.Point.{point_at}
use Rattle.scene_parts.specs.declared.kinds.Kind.{Kind}
use Rattle.scene_parts.specs.declared.kinds.Kind.TheVariants.{Road, Rail, Industry, Construction, Other}
use Rattle.scene_parts.specs.declared.kinds.Air.{Air}
use Rattle.scene_parts.specs.declared.kinds.Air.TheVariants.{Celsius10Humidity70, Celsius20Humidity70, Celsius30Humidity70, Celsius15Humidity20, Celsius15Humidity50, Celsius15Humidity80}
use Rattle.scene_parts.specs.declared.kinds.Ground.{Ground}
use Rattle.scene_parts.specs.declared.kinds.Ground.TheVariants.{General, Simple}
use Rattle.scene_parts.specs.declared.kinds.Shape.{Shape}
use Rattle.scene_parts.specs.declared.kinds.Shape.TheVariants.{Barrier, Building}
use Rattle.scene_parts.specs.declared.kinds.Field.{Field}
use Rattle.scene_parts.specs.declared.kinds.Field.TheVariants as fields
use Rattle.scene_parts.specs.declared.outlines.RawPt.{RawPt}
use Rattle.scene_parts.specs.declared.faults.PartFault.{PartFault}
use Rattle.scene_parts.specs.declared.faults.PartFault.TheVariants.{OutOfRange, OutsideMethod, UnknownKind, TooLight, FewCorners, FlatShape, SideTooLong, WeakMirror}
use Rattle.scene_parts.specs.declared.parts.Part.{Part}
use Rattle.scene_parts.specs.declared.parts.Part.TheVariants as parts
use Rattle.scene_parts.specs.declared.checks.checking.RawPart.{RawPart}
use Rattle.scene_parts.specs.declared.checks.checking.RawPart.TheVariants as raw
use Rattle.scene_parts.specs.declared.checks.checked.Checked.{Checked}
use Rattle.scene_parts.specs.declared.checks.checked.Checked.TheVariants as checked
use Rattle.scene_parts.specs.Limits.{most_corners, most_columns, widest_step, plan_end, farthest_reach, greatest_height, greatest_ground_factor, greatest_c0, least_density, greatest_density, full_reflection}
use Rattle.scene_parts.specs.Sides.{sides_in, squared_length, is_short, floor_root}
use Rattle.scene_parts.specs.Parts.{is_flat, is_mirror, least_corners, last_place}
use Rattle.scene_parts.specs.Answers.{◌>>=◌, ◌>>◌, each, optional}

-- OutOfRange: a field's number lies outside its range

abbrev pub within : Field → ℤ → ℤ → ℤ → Result ℤ PartFault
within field low high value = if int_le low value && int_le value high then Ok value else Err (OutOfRange field value)

-- a range from 0 or above
abbrev pub in_range : Field → ℕ → ℕ → ℤ → Result ℕ PartFault
in_range field low high value = do
  n ← within field (pos low) (pos high) value
  Ok (unsigned_abs n)

-- a point of the plan, by the fields of its coordinates
unfoldable pub plan_point : Field → Field → ℤ → ℤ → Result Pt PartFault
plan_point across up x y = do
  east ← within across (neg_ℤ (pos plan_end)) (pos plan_end) x
  north ← within up (neg_ℤ (pos plan_end)) (pos plan_end) y
  Ok (point_at east north)

abbrev pub corner_of : RawPt → Result Pt PartFault
corner_of point = plan_point fields.Points fields.Points point.x point.y

-- at most 1,024 points of the plan
unfoldable pub corners_of : List RawPt → Result (List Pt) PartFault
corners_of points = do
  corners ← each corner_of points
  if nat_lt most_corners (length points) then Err (OutOfRange fields.Points (pos (length points))) else Ok corners

unfoldable pub height_of : ℤ → Result ℕ PartFault
height_of h = in_range fields.H 1 greatest_height h

-- a level in 0.01 dB in a range, where there is power
unfoldable pub power_within : ℤ → ℤ → Option ℤ → Result (Option ℤ) PartFault
power_within low high level = optional (within fields.Lw low high) level

-- a sound power level in 0.01 dB, where there is power
abbrev pub power_of : Option ℤ → Result (Option ℤ) PartFault
power_of = power_within (neg_ℤ (pos 2000)) (pos 16000)

-- a directivity correction in 0.01 dB
unfoldable pub directivity_of : ℤ → Result ℤ PartFault
directivity_of dc = within fields.Dc (neg_ℤ (pos 3000)) (pos 2000) dc

-- a number of columns or rows of a grid, the last of them on the plan
unfoldable pub reaching : Field → ℤ → ℕ → ℤ → Result ℕ PartFault
reaching field start step count = do
  n ← in_range field 1 most_columns count
  if int_le (last_place start step n) (pos plan_end) then Ok n else Err (OutOfRange field count)

-- OutsideMethod and UnknownKind

unfoldable pub kind_of : List ℕ → Result Kind PartFault
kind_of word =
    if bytes_eq word (codes "road") then Ok Road
    else (if bytes_eq word (codes "rail") then Ok Rail
    else (if bytes_eq word (codes "industry") then Ok Industry
    else (if bytes_eq word (codes "construction") then Ok Construction
    else (if bytes_eq word (codes "other") then Ok Other
    else (if bytes_eq word (codes "aircraft") || bytes_eq word (codes "blast") then Err (OutsideMethod word)
    else Err (UnknownKind word))))))

-- degrees Celsius and per cent of relative humidity: the rows of ISO 9613-2, Table 2
unfoldable pub air_of : List ℕ → Result Air PartFault
air_of word =
    if bytes_eq word (codes "10/70") then Ok Celsius10Humidity70
    else (if bytes_eq word (codes "20/70") then Ok Celsius20Humidity70
    else (if bytes_eq word (codes "30/70") then Ok Celsius30Humidity70
    else (if bytes_eq word (codes "15/20") then Ok Celsius15Humidity20
    else (if bytes_eq word (codes "15/50") then Ok Celsius15Humidity50
    else (if bytes_eq word (codes "15/80") then Ok Celsius15Humidity80
    else Err (UnknownKind word))))))

-- the methods for ground of ISO 9613-2, 7.3.1 and 7.3.2
unfoldable pub ground_of : List ℕ → Result Ground PartFault
ground_of word =
    if bytes_eq word (codes "general") then Ok General
    else (if bytes_eq word (codes "simple") then Ok Simple
    else Err (UnknownKind word))

-- TooLight: ISO 9613-2, 7.4 asks for at least 10 kg/m²
abbrev pub check_density : ℕ → Result (Unit {0}) PartFault
check_density density = if nat_lt density least_density then Err (TooLight density) else Ok tt

-- FewCorners and FlatShape
unfoldable pub check_outline : Shape → List Pt → Result (Unit {0}) PartFault
check_outline shape corners =
    if nat_lt (length corners) (least_corners shape) then Err (FewCorners (length corners))
    else (if is_flat shape corners then Err FlatShape else Ok tt)

-- SideTooLong: the first side that is longer than 262,143 mm, counted from a number
abbrev pub check_sides_from : ℕ → List Side → Result (Unit {0}) PartFault
check_sides_from i [] = Ok tt
check_sides_from i (side ∷ sides) =
    if is_short side then check_sides_from (i + 1) sides
    else Err (SideTooLong i (floor_root (squared_length side)))

-- WeakMirror
abbrev pub check_reflection : ℕ → Result (Unit {0}) PartFault
check_reflection rho = if is_mirror rho then Ok tt else Err (WeakMirror rho)

-- what a barrier and a building have in common
abbrev pub check_surface : Shape → List Pt → ℕ → Result (Unit {0}) PartFault
check_surface shape corners rho = do
  check_outline shape corners
  check_sides_from 0 (sides_in shape corners)
  check_reflection rho

-- the word that a line has for a part, a grid or a setting
abbrev pub word_of : RawPart → List ℕ
word_of (raw.Source name kind x y h lw dc) = codes "source"
word_of (raw.Barrier name points h density rho) = codes "barrier"
word_of (raw.Building name points h rho) = codes "building"
word_of (raw.Zone name points g) = codes "zone"
word_of (raw.Foliage name points h) = codes "foliage"
word_of (raw.Receiver name x y h) = codes "receiver"
word_of (raw.Grid name x y step columns rows h) = codes "grid"
word_of (raw.Set reach g air c0 word) = codes "set"

-- a part, where it passes
abbrev pub put : {A : Type 0} → (A → Part) → Result A PartFault → Result Checked PartFault
put kind answer = answer >>= λ part. Ok (checked.Part (kind part))

-- the first fault of a line's part in the order of its tests, or the part, the grid or the setting
unfoldable pub check_of : RawPart → Result Checked PartFault
check_of (raw.Source name word x y h lw dc) = put parts.Source (do
  at ← plan_point fields.X fields.Y x y
  height ← height_of h
  powers ← each power_of lw
  correction ← directivity_of dc
  kind ← kind_of word
  Ok (record { name = name; kind = kind; at = at; h = height; lw = powers; dc = correction }))
check_of (raw.Barrier name points h density rho) = put parts.Obstacle (do
  corners ← corners_of points
  height ← height_of h
  weight ← in_range fields.Density 0 greatest_density density
  reflected ← in_range fields.Rho 0 full_reflection rho
  check_density weight
  check_surface Barrier corners reflected
  Ok (record { name = name; shape = Barrier; points = corners; h = height; rho = reflected }))
check_of (raw.Building name points h rho) = put parts.Obstacle (do
  corners ← corners_of points
  height ← height_of h
  reflected ← in_range fields.Rho 0 full_reflection rho
  check_surface Building corners reflected
  Ok (record { name = name; shape = Building; points = corners; h = height; rho = reflected }))
check_of (raw.Zone name points g) = put parts.Zone (do
  corners ← corners_of points
  factor ← in_range fields.G 0 greatest_ground_factor g
  check_outline Building corners
  Ok (record { name = name; points = corners; g = factor }))
check_of (raw.Foliage name points h) = put parts.Foliage (do
  corners ← corners_of points
  height ← height_of h
  check_outline Building corners
  Ok (record { name = name; points = corners; h = height }))
check_of (raw.Receiver name x y h) = put parts.Receiver (do
  at ← plan_point fields.X fields.Y x y
  height ← height_of h
  Ok (record { name = name; at = at; h = height }))
check_of (raw.Grid name x y step columns rows h) = do
  at ← plan_point fields.X fields.Y x y
  apart ← in_range fields.Step 1 widest_step step
  across ← reaching fields.Columns at.x apart columns
  up ← reaching fields.Rows at.y apart rows
  height ← height_of h
  Ok (checked.Grid (record { name = name; at = at; step = apart; columns = across; rows = up; h = height }))
-- of the words that of the air is looked at first
check_of (raw.Set reach g air c0 word) = do
  far ← optional (in_range fields.Reach 1 farthest_reach) reach
  factor ← optional (in_range fields.G 0 greatest_ground_factor) g
  correction ← optional (in_range fields.C0 0 greatest_c0) c0
  weather ← optional air_of air
  method ← optional ground_of word
  Ok (checked.Set (record { reach = far; g = factor; air = weather; c0 = correction; method = method }))
