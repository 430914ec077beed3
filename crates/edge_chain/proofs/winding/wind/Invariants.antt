-- What stands at the end is the string round the points that were there, and the points before are as they were.
use Rattle.edge_chain.proofs.Strings.{WoundTo}
use Rattle.edge_chain.proofs.winding.wind.Given as goal

abbrev pub invariant-loop-i : goal.invariant-loop-i
invariant-loop-i l = WoundTo l.hand l.fn.points l.points l.i l.begin
