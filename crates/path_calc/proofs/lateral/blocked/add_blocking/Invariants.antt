-- What is found so far tells of the obstacles whose sides were looked at.
use Rattle.std.proofs.Common.{◌≡◌, take}
use Rattle.std.specs.Prelude.{◌||◌}
use Rattle.std.specs.List.{list_any}
use Rattle.scene_geom.specs.declared.band.Band.{Band}
use Rattle.part_grid.proofs.Numbered.{looked_any}
use Rattle.path_calc.specs.inner.Strings.{is_within}
use Rattle.path_calc.proofs.Barred.{bars, near_sides}
use Rattle.path_calc.proofs.lateral.blocked.add_blocking.Given as goal

abbrev pub invariant-loop-near : goal.invariant-loop-near
invariant-loop-near l = (band : Band)
    → list_any (is_within band) l.blocking.items
    ≡ (list_any (is_within band) l.initial.blocking.items
    || list_any (looked_any (bars band l.ends l.segment) l.obstacles) (take l.near-index (near_sides l.segment l.obstacles)))
