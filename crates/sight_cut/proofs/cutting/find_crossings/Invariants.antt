-- What is found, and what the obstacles behind give, is what all obstacles give; and the number is that of the next.
use Rattle.std.proofs.Common.{◌≡◌, ◌++◌, drop}
use Rattle.sight_cut.specs.Cuts.{crossings_from}
use Rattle.sight_cut.proofs.cutting.find_crossings.Given as goal

abbrev pub invariant-loop-obstacle : goal.invariant-loop-obstacle
invariant-loop-obstacle l =
    (l.crossings.items ++ crossings_from l.ends l.obstacle-index (drop l.obstacle-index l.obstacles) ≡ crossings_from l.ends 0 l.obstacles)
    × (l.number ≡ l.obstacle-index)
