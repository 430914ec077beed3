-- Levels that span others.
use Rattle.std.proofs.Common.{◌≡◌, ℤ, pos, sym, arith}
use Rattle.std.specs.Prelude.{Option, Some, None, IfSome, unwrap_or}
use Rattle.std.proofs.lemmas.Int.{ints}
use Rattle.fix_interval.specs.Interval.{Interval}
use Rattle.fix_interval.specs.Values.{ratio_of, hull_of, lesser_low, greater_high}
use Rattle.energy_sum.proofs.Adding.{zero-is}
use Rattle.path_calc.specs.Levels.{IsLevelEnd, IsLevel}
use Rattle.map_text.specs.SiteSummary.{no_level}

lesser : (a b : Option ℤ) → IsLevelEnd a → IsLevelEnd b → IsLevelEnd (lesser_low a b)
lesser None b h k = absurd h
lesser (Some x) None h k = absurd k
lesser (Some x) (Some y) h k = grind (arith, ints)

greater : (a b : Option ℤ) → IsLevelEnd a → IsLevelEnd b → IsLevelEnd (greater_high a b)
greater None b h k = absurd h
greater (Some x) None h k = absurd k
greater (Some x) (Some y) h k = grind (arith, ints)

-- what holds two levels is a level
pub hull-level : (a b : Interval) → IsLevel a → IsLevel b → IsLevel (hull_of a b)
unfolding hull_of
hull-level a b h k = record { low = lesser a.lo b.lo h.low k.low; high = greater a.hi b.hi h.high k.high }

pub nothing-level : ratio_of (pos 0) 1 ≡ no_level
nothing-level = sym zero-is

pub nothing-is_level : IsLevel no_level
nothing-is_level = record { low = (omega (arith, ints), omega (arith, ints)); high = (omega (arith, ints), omega (arith, ints)) }

-- the levels so far, or none
pub known-level : (span : Option Interval) (default : Interval) → IfSome span IsLevel → IsLevel default → IsLevel (unwrap_or span default)
known-level None default h k = k
known-level (Some level) default h k = h
