-- The length so far and that of the corners behind is the whole.
use Rattle.std.proofs.Common.{◌≡◌, map, drop, fold}
use Rattle.fix_interval.specs.Tree.{enc}
use Rattle.fix_interval.specs.Values.{add_of}
use Rattle.term_barrier.specs.Diffraction.{whole}
use Rattle.term_barrier.specs.Lateral.{steps, last_corner}
use Rattle.term_barrier.proofs.sides.way_round.Given as goal

abbrev pub invariant-loop-corner : goal.invariant-loop-corner
invariant-loop-corner l =
    (fold add_of l.e (map enc (steps l.last (drop l.corner-index l.others))) ≡ fold add_of (enc (whole 0)) (map enc (steps l.fn.first l.others)))
    × (last_corner l.last (drop l.corner-index l.others) ≡ last_corner l.fn.first l.others)
