-- The words of fields, as lines and rows have them.
use Rattle.std.specs.Prelude.{ℕ, List, codes}
use Rattle.scene_parts.specs.declared.kinds.Field.{Field}
use Rattle.scene_parts.specs.declared.kinds.Field.TheVariants as fields

unfoldable pub field_word : Field → List ℕ
field_word fields.Do = codes "do"
field_word fields.Name = codes "name"
field_word fields.Kind = codes "kind"
field_word fields.X = codes "x"
field_word fields.Y = codes "y"
field_word fields.H = codes "h"
field_word fields.Lw = codes "lw"
field_word fields.Dc = codes "dc"
field_word fields.Points = codes "points"
field_word fields.Density = codes "density"
field_word fields.Rho = codes "rho"
field_word fields.G = codes "g"
field_word fields.Step = codes "step"
field_word fields.Columns = codes "columns"
field_word fields.Rows = codes "rows"
field_word fields.Reach = codes "reach"
field_word fields.Air = codes "air"
field_word fields.C0 = codes "c0"
field_word fields.Ground = codes "ground"
field_word fields.Piece = codes "piece"
field_word fields.Level = codes "level"
field_word fields.To = codes "to"
