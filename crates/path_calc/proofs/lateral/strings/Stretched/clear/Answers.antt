use Rattle.std.proofs.Common.{refl}
use Rattle.path_calc.proofs.Measuring.{unmeasured}
use Rattle.path_calc.proofs.Stretching.{none-stretched}
use Rattle.path_calc.proofs.lateral.strings.Stretched.clear.Goals as goal

pub returns-clause-stretched : goal.returns-clause-stretched
returns-clause-stretched c = λ ends obstacles hand. none-stretched _ ends obstacles hand c.clear.ensures.items

pub returns-clause-measured : goal.returns-clause-measured
returns-clause-measured c = λ ends d. unmeasured _ ends d refl c.clear.ensures.items
