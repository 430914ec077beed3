use Rattle.std.proofs.Common.{arith}
use Rattle.std.proofs.lemmas.Int.{ints}
use Rattle.touch_test.proofs.Widening.{line-held}
use Rattle.touch_test.proofs.boxes.LineBox.of.Goals as goal

pub returns : goal.returns
returns c =
    let west = c.min.ensures in
    let south = c.min-2.ensures in
    let east = c.max.ensures in
    let north = c.max-2.ensures in
    line-held _ c.args.p c.args.q
    (record { x = (omega (arith, ints, west.self_bound), omega (arith, ints, east.self_bound)); y = (omega (arith, ints, south.self_bound), omega (arith, ints, north.self_bound)) })
    (record { x = (omega (arith, ints, west.other_bound), omega (arith, ints, east.other_bound)); y = (omega (arith, ints, south.other_bound), omega (arith, ints, north.other_bound)) })
