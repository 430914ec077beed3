-- What is asked of an operation of one part whose value another crate calculates.
use Rattle.fix_interval.specs.Interval.{Interval, IsInterval}
use Rattle.fix_interval.specs.Tree.{Tree}
use Rattle.fix_interval.specs.Encloses.{Encloses}

-- its value is an interval, and encloses the node where the part is enclosed
pub record IsLawful (node : Tree → Tree) (value : Interval → Interval) : Type 0 where
  pub interval : (i : Interval) → IsInterval i → IsInterval (value i)
  pub encloses : (a : Tree) (i : Interval) → IsInterval i → Encloses a i → Encloses (node a) (value i)
