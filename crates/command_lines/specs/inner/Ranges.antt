-- What everything that a line asks for beside edits keeps.
use Rattle.std.specs.Prelude.{◌≡◌, ◌≤◌, pos, neg_ℤ, ◌≤ℤ◌, false, length, IsTrue}
use Rattle.std.specs.List.{list_all}
use Rattle.scene_parts.specs.Names.{IsName}
use Rattle.scene_parts.specs.Limits.{most_corners}
use Rattle.scene_parts.specs.Parts.{IsCount, IsHeight, is_power_within, are_same}
use Rattle.command_lines.specs.Limits.{highest_level, least_line_power, greatest_line_power, shortest_piece, longest_piece}
use Rattle.command_lines.specs.Views.{Contour, LineSource}

pub record IsContour (contour : Contour) : Type 0 where
  pub name : IsName contour.name
  pub level_low : pos 0 ≤ℤ contour.level
  pub level_high : contour.level ≤ℤ pos highest_level
  pub columns : IsCount contour.columns
  pub rows : IsCount contour.rows

pub record IsLineSource (line : LineSource) : Type 0 where
  pub name : IsName line.name
  pub enough : 2 ≤ length line.points
  pub few : length line.points ≤ most_corners
  pub spread : are_same line.points ≡ false
  pub height : IsHeight line.h
  pub bands : length line.lw ≡ 8
  pub powers : IsTrue (list_all (is_power_within (pos least_line_power) (pos greatest_line_power)) line.lw)
  pub directivity_low : neg_ℤ (pos 3000) ≤ℤ line.dc
  pub directivity_high : line.dc ≤ℤ pos 2000
  pub piece_low : shortest_piece ≤ line.piece
  pub piece_high : line.piece ≤ longest_piece
