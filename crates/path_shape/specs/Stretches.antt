-- What an outline holds of a stretch of a path, leg by leg and side by side.
use Rattle.std.specs.Prelude.{Bool, List, Option}
use Rattle.std.specs.Bool.{then_some}
use Rattle.fix_interval.specs.Interval.{Interval}
use Rattle.fix_interval.specs.Tree.{Tree, Known, Sub, Max, Min, enc}
use Rattle.scene_geom.specs.declared.plan.Pt.{Pt}
use Rattle.path_shape.specs.declared.path.Path.{Path}
use Rattle.path_shape.specs.declared.stretch.Stretch.{Stretch}
use Rattle.path_shape.specs.Forms.{zero_form}
use Rattle.path_shape.specs.Outlines.{signed, meets_legs, length_on_legs}

-- ---- legs

-- how much of a stretch of a path an outline holds, where it meets the path
abbrev pub length_on_path : List Pt → Path → Stretch → Option Interval
length_on_path outline path stretch =
    then_some
    (meets_legs path.legs path.s path.r outline)
    (enc (length_on_legs path.legs path.s path.r outline (Known stretch.from) (Known stretch.to)))

-- ---- sides

-- what a place adds or takes off
abbrev pub part_of : Tree → Bool → Stretch → Tree
part_of place to_left stretch = signed to_left (Max zero_form (Sub (Min place (Known stretch.to)) (Known stretch.from)))
