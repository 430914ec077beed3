use Rattle.std.proofs.Common.{◌≡◌, sym, true, false}
use Rattle.fix_interval.specs.Interval.{Interval}
use Rattle.fix_interval.specs.Values.{less_of, is_before, is_up_to}
use Rattle.fix_interval.specs.declared.truth.Truth.TheVariants.{Sure, Never, Unsure}
use Rattle.fix_interval.proofs.values.less.Goals as goal

less_of-before : (a b : Interval) → is_before a.hi b.lo ≡ true → less_of a b ≡ Sure
unfolding less_of
less_of-before a b before = rw before

less_of-up_to : (a b : Interval) → is_before a.hi b.lo ≡ false → is_up_to b.hi a.lo ≡ true → less_of a b ≡ Never
unfolding less_of
less_of-up_to a b before up_to = rw (before, up_to)

less_of-else : (a b : Interval) → is_before a.hi b.lo ≡ false → is_up_to b.hi a.lo ≡ false → less_of a b ≡ Unsure
unfolding less_of
less_of-else a b before up_to = rw (before, up_to)

pub returns-then-before : goal.returns-then-before
returns-then-before c = sym (less_of-before c.args.a c.args.b (cc))

pub returns-then-up_to : goal.returns-then-up_to
returns-then-up_to c = sym (less_of-up_to c.args.a c.args.b (cc) (cc))

pub returns-else-up_to : goal.returns-else-up_to
returns-else-up_to c = sym (less_of-else c.args.a c.args.b (cc) (cc))
