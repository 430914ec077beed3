use Rattle.std.proofs.Common.{rules}
use Rattle.site_maker.specs.Draws.{next_state}
use Rattle.site_maker.proofs.draws.Draws.draw.Goals as goal

pub returns-clause-value : goal.returns-clause-value
unfolding next_state
returns-clause-value c = search rules

pub returns-clause-state : goal.returns-clause-state
unfolding next_state
returns-clause-state c = search rules
