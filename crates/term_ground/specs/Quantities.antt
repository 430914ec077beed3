-- Quantities that aren't negative, kept in 64 bits.
use Rattle.std.specs.Prelude.{◌≡◌, ◌≤◌, ◌^◌, pos, Some}
use Rattle.fix_interval.specs.Interval.{Interval}
use Rattle.fix_interval.specs.Tree.{Tree, enc}
use Rattle.term_ground.specs.declared.amounts.amount.Amount.{Amount}

-- as an interval
abbrev pub interval_of : Amount → Interval
interval_of amount = record { lo = Some (pos amount.lo); hi = Some (pos amount.hi) }

-- a factor that a formula gives, at most 16
pub record IsFactor (amount : Amount) (formula : Tree) : Type 0 where
  pub value : interval_of amount ≡ enc formula
  pub small : amount.hi ≤ 2 ^ 36
