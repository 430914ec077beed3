-- The zones of ground that a path meets (ISO 9613-2, 7.3.1).
use Rattle.std.specs.Prelude.{List}
use Rattle.scene_parts.specs.Parts.{Zone}
use Rattle.path_shape.specs.Outlines.{met}
use Rattle.path_shape.specs.declared.path.Path.{Path}

-- the zones that count for a path
abbrev pub met_zones : Path → List Zone → List Zone
met_zones path zones = met (λ zone. zone.points) path zones
