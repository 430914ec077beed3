use Rattle.std.proofs.Common.{◌≡◌, sym, false}
use Rattle.fix_interval.specs.Values.{is_below_zero}
use Rattle.fix_interval.proofs.Rooting.{root_of-below_zero, root_of-roots, IsInterval-roots, low_root_signed}
use Rattle.fix_interval.proofs.roots.root.Goals as goal

pub of_ends-requires : goal.of_ends-requires
of_ends-requires c =
    rw (c.from.ensures, c.low_root-low.ensures, c.low.ensures.end, low_root_signed c.args.a.lo, c.high_root.ensures, c.high-else-below_zero.ensures.end)
    (IsInterval-roots c.args.a c.low.ensures.interval)

pub returns-then-below_zero : goal.returns-then-below_zero
returns-then-below_zero c = sym (root_of-below_zero c.args.a (cc))

pub returns-else-below_zero : goal.returns-else-below_zero
returns-else-below_zero c =
    let apart : is_below_zero c.args.a.hi ≡ false = cc in
    rw (c.of_ends.ensures, c.from.ensures, c.low_root-low.ensures, c.low.ensures.end, low_root_signed c.args.a.lo, c.high_root.ensures, c.high-else-below_zero.ensures.end)
    (sym (root_of-roots c.args.a apart))
