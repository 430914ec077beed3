-- What was there, and the points so far that lie on the hand.
use Rattle.std.proofs.Common.{◌≡◌, ◌++◌, take}
use Rattle.edge_chain.specs.Chain.{points_beside}
use Rattle.edge_chain.proofs.base.Base.add_points_beside.Given as goal

abbrev pub invariant-loop-point : goal.invariant-loop-point
invariant-loop-point l = l.beside.items ≡ l.initial.beside.items ++ points_beside (take l.point-index l.points) l.self.s l.self.r l.self.hand
