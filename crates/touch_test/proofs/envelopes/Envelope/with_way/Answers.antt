use Rattle.std.proofs.Common.{arith}
use Rattle.std.proofs.lemmas.Int.{ints}
use Rattle.scene_geom.proofs.Whole.{kept}
use Rattle.touch_test.proofs.Widening.{held-between, lies-as}
use Rattle.touch_test.proofs.envelopes.Envelope.with_way.Goals as goal

pub returns-clause-way : goal.returns-clause-way
returns-clause-way c =
    let from = c.args.from in
    let dir = c.args.dir in
    let w = kept dir.w 68718952449 c.requires.dir.w_within (omega arith) in
    let x = c.with_reaches.ensures.x in
    let y = c.with_reaches.ensures.y in
    record {
      x = held-between c.of-x.result.least c.of-x.result.most c.with_reaches.result.west c.with_reaches.result.east from.x dir.x dir c.args.end x.0 x.1
          (lies-as c.of-x.result.least c.of-x.result.most from.x dir.x dir.w _ _ _ c.args.end (omega (arith, ints, from.x_in_plan.low, from.x_in_plan.high))
          (kept dir.x 2110000000000000000 c.requires.dir.x_within (omega arith)) w c.of-x.ensures);
      y = held-between c.of-y.result.least c.of-y.result.most c.with_reaches.result.south c.with_reaches.result.north from.y dir.y dir c.args.end y.0 y.1
          (lies-as c.of-y.result.least c.of-y.result.most from.y dir.y dir.w _ _ _ c.args.end (omega (arith, ints, from.y_in_plan.low, from.y_in_plan.high))
          (kept dir.y 2110000000000000000 c.requires.dir.y_within (omega arith)) w c.of-y.ensures);
    }
