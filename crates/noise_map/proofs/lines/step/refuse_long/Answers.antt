use Rattle.noise_map.proofs.Meeting.{long-refused}
use Rattle.noise_map.proofs.lines.step.refuse_long.Goals as goal

pub returns-clause-met : goal.returns-clause-met
returns-clause-met c = long-refused
