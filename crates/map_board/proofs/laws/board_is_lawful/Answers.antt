use Rattle.map_board.proofs.Lawful.{board-is-lawful}
use Rattle.map_board.proofs.laws.board_is_lawful.Goals as goal

pub returns : goal.returns
returns c = board-is-lawful
