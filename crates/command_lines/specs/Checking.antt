-- What the checks of contours, line sources and versions answer: their tests in their order, and what is asked for
-- where all pass.
use Rattle.std.specs.Prelude.{ℕ, ℤ, pos, Result, Ok}
use Rattle.scene_parts.specs.declared.kinds.Field.TheVariants as fields
use Rattle.scene_parts.specs.declared.kinds.Shape.TheVariants.{Barrier}
use Rattle.scene_parts.specs.declared.faults.PartFault.{PartFault}
use Rattle.scene_parts.specs.Limits.{most_columns}
use Rattle.scene_parts.specs.Checking.{within, in_range, corners_of, height_of, power_within, directivity_of, kind_of, check_outline}
use Rattle.scene_parts.specs.Answers.{◌>>=◌, ◌>>◌, each}
use Rattle.command_lines.specs.Limits.{highest_level, least_line_power, greatest_line_power, shortest_piece, longest_piece, greatest_version}
use Rattle.command_lines.specs.Views.{Contour, LineSource}
use Rattle.command_lines.specs.declared.commands.contours.RawContour.{RawContour}
use Rattle.command_lines.specs.declared.commands.line_sources.RawLineSource.{RawLineSource}

-- the level of a contour in 0.01 dB
unfoldable pub level_of : ℤ → Result ℤ PartFault
level_of level = within fields.Level (pos 0) (pos highest_level) level

unfoldable pub checked_contour : RawContour → Result Contour PartFault
checked_contour raw = do
  bound ← level_of raw.level
  across ← in_range fields.Columns 1 most_columns raw.columns
  up ← in_range fields.Rows 1 most_columns raw.rows
  Ok (record { name = raw.name; level = bound; columns = across; rows = up })

-- the version that an undo names
unfoldable pub version_of : ℤ → Result ℕ PartFault
version_of version = in_range fields.To 0 greatest_version version

-- a line source has points as a barrier has them, at least 2 and not all in one place; its sides may be long
unfoldable pub checked_line_source : RawLineSource → Result LineSource PartFault
checked_line_source raw = do
  points ← corners_of raw.points
  height ← height_of raw.h
  powers ← each (power_within (pos least_line_power) (pos greatest_line_power)) raw.lw
  correction ← directivity_of raw.dc
  longest ← in_range fields.Piece shortest_piece longest_piece raw.piece
  kind ← kind_of raw.kind
  check_outline Barrier points
  Ok (record {
    name = raw.name;
    kind = kind;
    points = points;
    h = height;
    lw = powers;
    dc = correction;
    piece = longest;
  })
