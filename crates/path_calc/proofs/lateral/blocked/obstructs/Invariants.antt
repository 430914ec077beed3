-- No side so far crosses the string.
use Rattle.std.proofs.Common.{◌≡◌, false, take}
use Rattle.std.specs.List.{list_any}
use Rattle.scene_parts.specs.Parts.{sides_of}
use Rattle.edge_chain.specs.Chain.{blocks_chain}
use Rattle.path_calc.proofs.lateral.blocked.obstructs.Given as goal

abbrev pub invariant-loop-i : goal.invariant-loop-i
invariant-loop-i l = list_any (blocks_chain l.corners l.ends.s l.ends.r) (take l.i (sides_of l.obstacle)) ≡ false
