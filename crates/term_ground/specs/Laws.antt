-- What holds of the attenuation by the ground beyond its definition.
use Rattle.std.specs.Prelude.{◌≡◌, ℕ, List, map}
use Rattle.std.specs.List.{All}
use Rattle.fix_interval.specs.Tree.{Tree, IsSound, enc}
use Rattle.scene_parts.specs.Parts.{Zone}
use Rattle.path_shape.specs.declared.path.Path.{Path}
use Rattle.term_ground.specs.Zones.{met_zones}
use Rattle.term_ground.specs.Ground.{ground}
use Rattle.term_ground.specs.Alternative.{simple_ground, solid_angle}

-- it depends on the plan length by its interval alone
abbrev pub SameForOneLength : Type 0
SameForOneLength = (zones : List Zone) (g0 : ℕ) (path : Path) (a b : Tree) → enc a ≡ enc b
    → map enc (ground zones g0 path a) ≡ map enc (ground zones g0 path b)

-- and on the zones that meet the path alone
abbrev pub SameForMetZones : Type 0
SameForMetZones = (zones others : List Zone) (g0 : ℕ) (path : Path) (dp : Tree)
    → met_zones path zones ≡ met_zones path others
    → ground zones g0 path dp ≡ ground others g0 path dp

-- every formula of it is sound where that of the plan length is, so that its interval encloses it
abbrev pub GroundIsSound : Type 0
GroundIsSound = (zones : List Zone) (g0 : ℕ) (path : Path) (dp : Tree) → IsSound dp
    → All IsSound (ground zones g0 path dp)

-- ---- the alternative method

-- it depends on the length of the path, and on the square of its plan length, by their intervals alone
abbrev pub SimpleGroundSame : Type 0
SimpleGroundSame = (path : Path) (a b : Tree) → enc a ≡ enc b → enc (simple_ground path a) ≡ enc (simple_ground path b)

abbrev pub SolidAngleSame : Type 0
SolidAngleSame = (path : Path) (a b : Tree) → enc a ≡ enc b → enc (solid_angle path a) ≡ enc (solid_angle path b)

-- both formulas are sound where that of the length or the square is
abbrev pub SimpleGroundIsSound : Type 0
SimpleGroundIsSound = (path : Path) (d : Tree) → IsSound d → IsSound (simple_ground path d)

abbrev pub SolidAngleIsSound : Type 0
SolidAngleIsSound = (path : Path) (q : Tree) → IsSound q → IsSound (solid_angle path q)
