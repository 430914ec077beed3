-- Two intervals whose ends are short, by their ends.
use Rattle.std.proofs.Common.{◌≡◌}
use Rattle.std.specs.Prelude.{Option, Some, IfSome}
use Rattle.fix_interval.specs.Interval.{Interval}
use Rattle.fix_interval.specs.declared.products.short.Short.{Short}

abbrev pub of_short : Short → Interval
of_short ends = record { lo = Some ends.lo; hi = Some ends.hi }

pub both-short : (f : Interval → Interval → Interval) (a b : Interval) (found found' : Option Short) (first second : Short)
    → IfSome found (λ ends. a ≡ of_short ends) → IfSome found' (λ ends. b ≡ of_short ends) → found ≡ Some first → found' ≡ Some second
    → f a b ≡ f (of_short first) (of_short second)
both-short f a b found found' first second a_has b_has is is' =
    let a_is : a ≡ of_short first = rw is at a_has in
    let b_is : b ≡ of_short second = rw is' at b_has in
    rw (a_is, b_is)
