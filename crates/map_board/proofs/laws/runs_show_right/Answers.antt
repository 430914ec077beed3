use Rattle.map_board.proofs.Showing.{runs-show-right}
use Rattle.map_board.proofs.laws.runs_show_right.Goals as goal

pub returns : goal.returns
returns c = runs-show-right c.untouched_receivers_stay.ensures.in_turn
