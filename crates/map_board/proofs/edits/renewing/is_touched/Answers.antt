use Rattle.map_board.proofs.Touched.{touched-by-path, touched-beside}
use Rattle.map_board.proofs.edits.renewing.is_touched.Goals as goal

pub returns-then-one : goal.returns-then-one
returns-then-one c = touched-by-path c.args.change.now c.args.receiver.now c.args.one c.requires.change c.requires.one c.if-one.true

pub returns-else-one : goal.returns-else-one
returns-else-one c =
    touched-beside c.args.change.now c.args.receiver.now c.args.one c.requires.change c.requires.one c.touches_row.result c.touches_row.ensures.exact c.if-one.false
