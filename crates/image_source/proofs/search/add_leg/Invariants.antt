-- What is found, and what the obstacles behind give, is what all obstacles give; and the number is that of the next.
use Rattle.std.proofs.Common.{◌≡◌, ◌++◌, drop}
use Rattle.image_source.specs.LegCuts.{crossings_from}
use Rattle.image_source.proofs.search.add_leg.Given as goal

abbrev pub invariant-loop-obstacle : goal.invariant-loop-obstacle
invariant-loop-obstacle l =
    (l.found.items ++ crossings_from l.leg l.m l.ends l.obstacle-index (drop l.obstacle-index l.obstacles)
    ≡ l.initial.found.items ++ crossings_from l.leg l.m l.ends 0 l.obstacles)
    × (l.number ≡ l.obstacle-index)
