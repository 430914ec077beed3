-- What is found blocks the string in a band where an obstacle so far does.
use Rattle.std.proofs.Common.{◌≡◌, take}
use Rattle.std.specs.List.{list_any}
use Rattle.scene_geom.specs.declared.band.Band.{Band}
use Rattle.path_calc.specs.LateralPaths.{is_in_the_way}
use Rattle.path_calc.specs.inner.Strings.{is_within}
use Rattle.path_calc.proofs.lateral.blocked.find_blocking.Given as goal

abbrev pub invariant-loop-obstacle : goal.invariant-loop-obstacle
invariant-loop-obstacle l = (band : Band)
    → list_any (is_within band) l.blocking.items ≡ list_any (is_in_the_way band l.ends l.corners) (take l.obstacle-index l.obstacles)
