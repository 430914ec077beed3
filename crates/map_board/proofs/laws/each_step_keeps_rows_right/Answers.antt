use Rattle.map_board.proofs.RowsRight.{each-step-keeps-rows-right}
use Rattle.map_board.proofs.laws.each_step_keeps_rows_right.Goals as goal

pub returns : goal.returns
returns c = each-step-keeps-rows-right
