use Rattle.std.proofs.Common.{◌∙◌}
use Rattle.fix_interval.proofs.Multiplying.{product_of_ends_comm}
use Rattle.fix_interval.proofs.products.product_of_spans.Goals as goal

pub returns-then-b-ge0 : goal.returns-then-b-ge0
returns-then-b-ge0 c =
    c.multiple_of_span-then-b-ge0.ensures ∙ product_of_ends_comm c.args.b.lo c.args.b.hi c.args.a.lo c.args.a.hi
