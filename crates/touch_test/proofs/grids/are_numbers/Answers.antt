use Rattle.touch_test.proofs.Receivers.{both-numbers, no-numbers, first-fails, then-second, behind}
use Rattle.touch_test.proofs.grids.are_numbers.Goals as goal

pub returns-then-is_below : goal.returns-then-is_below
returns-then-is_below c =
    then-second c.is_below.result c.is_below-then-is_below.result c.if-is_below.true
    (both-numbers c.args.text.now c.args.columns c.args.rows c.loop-i.i c.requires.columns c.loop-i.invariant
    c.is_below.result c.is_below-then-is_below.result c.loop-i-test.true c.if-text-i-eq47.true c.is_below.ensures
    (behind c.args.text.now c.loop-i.i c.args.rows c.is_below-then-is_below.result c.loop-i-test.true c.is_below-then-is_below.ensures))

pub returns-else-is_below : goal.returns-else-is_below
returns-else-is_below c =
    first-fails c.args.text.now c.args.columns c.args.rows c.loop-i.i c.requires.columns c.loop-i.invariant
    c.is_below.result c.if-is_below.false c.if-text-i-eq47.true c.is_below.ensures

pub returns : goal.returns
returns c =
    no-numbers c.args.text.now c.args.columns c.args.rows c.loop-i.i c.requires.columns c.loop-i.invariant c.loop-i-test.false
