use Rattle.std.proofs.Common.{◌-◌, arith, mul_comm}
use Rattle.std.proofs.lemmas.Nat.{mul-add-lt}
use Rattle.part_grid.specs.Span.{width}
use Rattle.part_grid.proofs.Spans.{has-lines}
use Rattle.part_grid.proofs.cells.frame.cell_number.Goals as goal

pub returns-clause-within : goal.returns-clause-within
returns-clause-within c =
    let frame = c.args.frame in
    let column = has-lines frame.columns c.args.column c.requires.column in
    let row = has-lines frame.rows c.args.row c.requires.row in
    rw
    (c.width.ensures, mul_comm (width frame.columns) (width frame.rows))
    (mul-add-lt (c.args.column - frame.columns.low) (width frame.rows) (c.args.row - frame.rows.low) (width frame.columns) (omega (arith, column.0, column.1)) (omega (arith, row.0, row.1)))
