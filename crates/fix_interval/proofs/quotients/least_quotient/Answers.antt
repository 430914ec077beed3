use Rattle.std.proofs.Common.{pos, ◌*ℤ◌, ap, sym, ◌∙◌, arith}
use Rattle.std.specs.Prelude.{unsigned_abs, Some}
use Rattle.std.proofs.lemmas.Int.{ints}
use Rattle.fix_interval.specs.Units.{unit}
use Rattle.fix_interval.proofs.Ratios.{passed}
use Rattle.fix_interval.proofs.Dividing.{lo-ratio_of, least_by_positive, least_by_positive_negative, units-not_negative, units-negative}
use Rattle.fix_interval.proofs.quotients.least_quotient.Goals as goal

pub returns-then-a-ge0 : goal.returns-then-a-ge0
returns-then-a-ge0 c =
    c.low.ensures.end
    ∙ lo-ratio_of c.args.a.lo _ (unsigned_abs c.args.by.hi) _ c.fraction.result c.requires.small (passed c.args.a.lo c.args.a.low_end)
    (c.unsigned_abs.ensures.value ∙ ap unsigned_abs (passed c.args.by.hi c.args.by.high_end)) c.fraction.ensures
    ∙ ap Some (sym (least_by_positive (c.args.a.lo *ℤ pos unit) c.args.by.lo c.args.by.hi c.requires.positive c.args.by.ordered
    (units-not_negative c.args.a.lo (omega (arith, ints)))))

pub returns-else-a-ge0 : goal.returns-else-a-ge0
returns-else-a-ge0 c =
    c.low-else-a-ge0.ensures.end
    ∙ lo-ratio_of c.args.a.lo _ (unsigned_abs c.args.by.lo) _ c.fraction-else-a-ge0.result c.requires.small (passed c.args.a.lo c.args.a.low_end)
    (c.unsigned_abs-else-a-ge0.ensures.value ∙ ap unsigned_abs (passed c.args.by.lo c.args.by.low_end)) c.fraction-else-a-ge0.ensures
    ∙ ap Some (sym (least_by_positive_negative (c.args.a.lo *ℤ pos unit) c.args.by.lo c.args.by.hi c.requires.positive c.args.by.ordered
    (units-negative c.args.a.lo (omega (arith, ints)))))
