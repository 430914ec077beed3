-- The zones of ground and the foliage that a path meets, as they are read.
use Rattle.std.specs.Prelude.{List, [], map}
use Rattle.scene_parts.specs.Parts.{Zone, Foliage}
use Rattle.path_shape.specs.declared.path.Path.{Path}
use Rattle.term_ground.specs.Zones.{met_zones}
use Rattle.term_foliage.specs.Foliage.{met_foliage}
use Rattle.term_foliage.specs.Laws.{unnamed as nameless}

-- a zone by its corners and its ground factor, whatever its name
abbrev pub unnamed : Zone → Zone
unnamed zone = record { name = []; points = zone.points; g = zone.g }

-- the zones of ground that a path meets
abbrev pub zones_on : Path → List Zone → List Zone
zones_on path zones = map unnamed (met_zones path zones)

-- the foliage that a path meets, by its corners and its height, whatever its name
abbrev pub foliage_on : Path → List Foliage → List Foliage
foliage_on path foliage = map nameless (met_foliage path foliage)
