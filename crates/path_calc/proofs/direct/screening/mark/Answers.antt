use Rattle.std.proofs.Common.{◌∙◌, ◌∷◌, [], ◌++◌, ap}
use Rattle.std.specs.Prelude.{Bool}
use Rattle.scene_parts.specs.Crossings.{is_crossing_in}
use Rattle.path_calc.proofs.Pushed.{mapped-more, mapped-all}
use Rattle.path_calc.proofs.direct.screening.mark.Goals as goal

pub loop-crossing-preserved : goal.loop-crossing-preserved
loop-crossing-preserved c =
    mapped-more (is_crossing_in c.args.band) c.args.crossings.now c.loop-crossing.crossing-index c.crossing-item.result c.loop-crossing.marks.items _
    c.loop-crossing-test.true c.crossing-item.is
    (c.in_ok-push.ensures.items ∙ ap (λ (b : Bool). c.loop-crossing.marks.items ++ b ∷ []) c.counts_in.ensures) c.loop-crossing.invariant

pub returns : goal.returns
returns c =
    mapped-all (is_crossing_in c.args.band) c.args.crossings.now c.loop-crossing.crossing-index _ c.loop-crossing-test.false c.loop-crossing.invariant
