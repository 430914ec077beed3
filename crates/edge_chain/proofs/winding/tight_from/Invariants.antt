-- The string from here on is what would be left of it.
use Rattle.std.proofs.Common.{◌≡◌, ◌≤◌, ◌-◌, drop, length}
use Rattle.edge_chain.specs.inner.Winding.{slackened}
use Rattle.edge_chain.proofs.winding.tight_from.Given as goal

abbrev pub invariant-loop-at : goal.invariant-loop-at
invariant-loop-at l = record {
  value : slackened l.hand l.point (drop l.at l.string) ≡ slackened l.hand l.point (drop l.from l.string);
  after : l.from ≤ l.at;
  within : l.at ≤ length l.string;
}

abbrev pub decreases-loop-at : goal.decreases-loop-at
decreases-loop-at l = length l.string - l.at
