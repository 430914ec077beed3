-- What holds of the attenuation by foliage beyond its definition.
use Rattle.std.specs.Prelude.{◌≡◌, List, [], map}
use Rattle.std.specs.List.{All}
use Rattle.fix_interval.specs.Tree.{Tree, IsSound, enc}
use Rattle.scene_parts.specs.Parts.{Foliage}
use Rattle.path_shape.specs.declared.path.Path.{Path}
use Rattle.term_foliage.specs.Foliage.{met_foliage, attenuations}

-- it depends on the length of the path by its interval alone
abbrev pub SameForOneLength : Type 0
SameForOneLength = (foliage : List Foliage) (path : Path) (a b : Tree) → enc a ≡ enc b
    → map enc (attenuations foliage path a) ≡ map enc (attenuations foliage path b)

-- foliage without its name
abbrev pub unnamed : Foliage → Foliage
unnamed foliage = record { name = []; points = foliage.points; h = foliage.h }

-- and on the foliage that meets the path alone, whatever its name
abbrev pub SameForMetFoliage : Type 0
SameForMetFoliage = (foliage others : List Foliage) (path : Path) (d : Tree)
    → map unnamed (met_foliage path foliage) ≡ map unnamed (met_foliage path others)
    → attenuations foliage path d ≡ attenuations others path d

-- so it is that of the foliage that meets the path
abbrev pub OnlyMetCounts : Type 0
OnlyMetCounts = (foliage : List Foliage) (path : Path) (d : Tree)
    → attenuations (map unnamed (met_foliage path foliage)) path d ≡ attenuations foliage path d

-- every formula of it is sound where that of the length is, so that its interval encloses it
abbrev pub FoliageIsSound : Type 0
FoliageIsSound = (foliage : List Foliage) (path : Path) (d : Tree) → IsSound d
    → All IsSound (attenuations foliage path d)
