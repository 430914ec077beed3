use Rattle.std.proofs.Common.{◌∙◌, sym}
use Rattle.fix_interval.specs.Values.{mul_of, product_of_ends}
use Rattle.fix_interval.proofs.Ends.{on_ends-first, on_ends-second, on_ends-bounded}
use Rattle.fix_interval.proofs.products.product_of_any.Goals as goal

pub returns-in_default : goal.returns-in_default
unfolding mul_of
returns-in_default c =
    sym (on_ends-first product_of_ends c.args.a.lo c.args.a.hi c.args.b.lo c.args.b.hi (c.in_default.ensures).unbounded)

pub returns-in_default-bounded : goal.returns-in_default-bounded
unfolding mul_of
returns-in_default-bounded c =
    sym (on_ends-second product_of_ends c.args.a.lo c.args.a.hi c.args.b.lo c.args.b.hi (c.in_default-bounded.ensures).unbounded)

pub returns : goal.returns
unfolding mul_of
returns c =
    c.product_of_spans.ensures
    ∙ sym (on_ends-bounded product_of_ends c.args.a c.args.b c.in-Some.first.lo c.in-Some.first.hi c.in-Some-bounded.second.lo c.in-Some-bounded.second.hi
    (c.in-Some.ensures).both (c.in-Some-bounded.ensures).both)
