use Rattle.std.proofs.Common.{sym, ap, ◌∙◌, List}
use Rattle.path_calc.specs.declared.lateral.LateralScreening.{LateralScreening}
use Rattle.path_calc.specs.inner.Strings.{both_of, lateral_of}
use Rattle.path_calc.proofs.Stretching.{nothing-in}
use Rattle.path_calc.proofs.Uncrossed.{no-screening, no-segments}
use Rattle.path_calc.proofs.lateral.lateral_screening.Goals as goal

pub returns-then-is_empty-clause-value : goal.returns-then-is_empty-clause-value
returns-then-is_empty-clause-value c = λ band.
    ap (λ (lateral : List LateralScreening). both_of (lateral_of lateral band)) c.clear.ensures.items
    ∙ no-screening band c.args.ends c.args.scene.now.obstacles c.args.d
    (sym c.requires.crossings ∙ nothing-in c.args.crossings.now _ c.is_empty.ensures c.if-is_empty.true)

pub returns-then-is_empty-clause-trace : goal.returns-then-is_empty-clause-trace
returns-then-is_empty-clause-trace c =
    no-segments c.args.ends c.args.scene.now.obstacles c.args.trace.now
    (sym c.requires.crossings ∙ nothing-in c.args.crossings.now _ c.is_empty.ensures c.if-is_empty.true)
