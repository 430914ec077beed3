use Rattle.std.proofs.Common.{◌∙◌, arith}
use Rattle.std.proofs.lemmas.Int.{ints}
use Rattle.scene_geom.specs.Point.{along}
use Rattle.scene_geom.proofs.Walls.{dot-abs}
use Rattle.image_source.proofs.Even.{still-short}
use Rattle.image_source.proofs.Passing.{before-start, behind-end}
use Rattle.image_source.proofs.reflecting.passes_by.Goals as goal

pub returns-then-source-le0 : goal.returns-then-source-le0
returns-then-source-le0 c = λ receiver p above below.
    before-start c.args.side c.args.ends p
    (omega (arith, ints, c.if-source-le0.true, c.ahead-source.ensures.value, still-short c.ahead-source.result c.ahead-source.ensures.within))
    (omega (arith, ints, receiver, c.ahead-receiver.ensures.value, still-short c.ahead-receiver.result c.ahead-receiver.ensures.within))
    above below

pub returns-then-end-source : goal.returns-then-end-source
returns-then-end-source c = λ receiver p above below.
    let end = c.ahead-end.ensures.value ∙ dot-abs (along c.args.side) in
    behind-end c.args.side c.args.ends p
    (omega (arith, ints, c.if-end-source.true, end, c.ahead-source.ensures.value, still-short c.ahead-source.result c.ahead-source.ensures.within, still-short c.ahead-end.result c.ahead-end.ensures.within))
    (omega (arith, ints, receiver, end, c.ahead-receiver.ensures.value, still-short c.ahead-receiver.result c.ahead-receiver.ensures.within, still-short c.ahead-end.result c.ahead-end.ensures.within))
    above below
