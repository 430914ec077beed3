use Rattle.std.proofs.Common.{◌≡◌, arith, ◌∙◌}
use Rattle.std.proofs.lemmas.Int.{ints}
use Rattle.scene_geom.proofs.Whole.{kept}
use Rattle.part_grid.specs.Ways.{end_at}
use Rattle.touch_test.proofs.Widening.{end-as, way-between}
use Rattle.touch_test.proofs.envelopes.Reach.of.Goals as goal

pub returns : goal.returns
returns c =
    let is : c.end_at-last.result ≡ end_at c.args.start c.args.component c.args.divisor c.args.end =
    c.end_at-last.ensures.value
    ∙ end-as c.args.start c.args.component c.args.divisor _ _ _ c.args.end (omega (arith, ints, c.requires.start.low, c.requires.start.high))
    (kept c.args.component 2110000000000000000 c.requires.component (omega arith)) (kept c.args.divisor 68718952449 c.requires.divisor (omega arith)) in
    way-between _ _ c.args.start c.args.component c.args.divisor c.args.end c.requires.some
    (omega (arith, ints, c.from-first.ensures, c.min.ensures.self_bound, c.requires.start.low, c.requires.start.high))
    (omega (arith, ints, c.from-first.ensures, c.max.ensures.self_bound, c.requires.start.low, c.requires.start.high))
    (omega (arith, ints, is, c.end_at-last.ensures.within, c.min.ensures.other_bound))
    (omega (arith, ints, is, c.end_at-last.ensures.within, c.max.ensures.other_bound))
