use Rattle.map_board.proofs.First.{first-is-least, no-first-passes-none}
use Rattle.map_board.proofs.laws.first_is_least.Goals as goal

pub returns-clause-some : goal.returns-clause-some
returns-clause-some c = first-is-least

pub returns-clause-none : goal.returns-clause-none
returns-clause-none c = no-first-passes-none
