use Rattle.std.proofs.Common.{sym}
use Rattle.map_board.specs.inner.Boards.{is_held_unsettled}
use Rattle.map_board.proofs.Scanning.{found-one, past-one, none-left}
use Rattle.map_board.proofs.rows.is_any_unsettled.Goals as goal

pub returns : goal.returns
returns c = sym (none-left is_held_unsettled c.args.rows.now c.loop-row.row-index c.loop-row-test.false c.loop-row.invariant)

pub returns-then-is_unsettled : goal.returns-then-is_unsettled
returns-then-is_unsettled c =
    found-one is_held_unsettled c.args.rows.now c.loop-row.row-index c.row-item.result c.loop-row-test.true c.row-item.is (sym c.if-is_unsettled.ensures) c.loop-row.invariant

pub loop-row-preserved : goal.loop-row-preserved
loop-row-preserved c =
    past-one is_held_unsettled c.args.rows.now c.loop-row.row-index c.row-item.result c.loop-row-test.true c.row-item.is (sym c.if-is_unsettled.ensures) c.loop-row.invariant
