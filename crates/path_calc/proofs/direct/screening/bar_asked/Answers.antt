use Rattle.path_calc.proofs.Uncrossed.{zero-screens}
use Rattle.path_calc.proofs.direct.screening.bar_asked.Goals as goal

pub returns-else-asked-place-clause-bounds : goal.returns-else-asked-place-clause-bounds
returns-else-asked-place-clause-bounds c = rw c.exact.ensures zero-screens
