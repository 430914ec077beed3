use Rattle.level_contours.proofs.GridNameLemmas.{names_are_of_grid}
use Rattle.level_contours.proofs.missing.first_missing.Goals as goal

pub returns-clause-order : goal.returns-clause-order
returns-clause-order c = names_are_of_grid c.args.spec.now
