-- What is found, and what the sides behind give, is what all sides give.
use Rattle.std.proofs.Common.{◌≡◌, ◌++◌, drop}
use Rattle.scene_parts.specs.Parts.{sides_of}
use Rattle.sight_cut.specs.Cuts.{crossings_along}
use Rattle.sight_cut.proofs.cutting.add_crossings.Given as goal

abbrev pub invariant-loop-i : goal.invariant-loop-i
invariant-loop-i l =
    l.found.items ++ crossings_along l.ends l.number l.i l.obstacle (drop l.i (sides_of l.obstacle))
    ≡ l.initial.found.items ++ crossings_along l.ends l.number 0 l.obstacle (sides_of l.obstacle)
