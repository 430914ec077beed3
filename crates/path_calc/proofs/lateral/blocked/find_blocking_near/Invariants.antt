-- What the segments so far and those behind give is what all give.
use Rattle.std.proofs.Common.{◌≡◌, drop}
use Rattle.std.specs.Prelude.{◌||◌}
use Rattle.std.specs.List.{list_any}
use Rattle.scene_geom.specs.declared.band.Band.{Band}
use Rattle.path_calc.specs.inner.Strings.{is_within}
use Rattle.path_calc.proofs.Barred.{behind}
use Rattle.path_calc.proofs.lateral.blocked.find_blocking_near.Given as goal

abbrev pub invariant-loop-corner : goal.invariant-loop-corner
invariant-loop-corner l = (band : Band)
    → (list_any (is_within band) l.blocking.items || behind band l.ends l.obstacles (drop l.corner-index l.corners) l.from)
    ≡ behind band l.ends l.obstacles l.corners l.ends.s
