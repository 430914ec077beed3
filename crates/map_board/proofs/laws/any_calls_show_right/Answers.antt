use Rattle.map_board.proofs.AnyCalls.{any-calls-show-right}
use Rattle.map_board.proofs.laws.any_calls_show_right.Goals as goal

pub returns : goal.returns
returns c = any-calls-show-right c.untouched_receivers_stay.ensures.in_turn
