use Rattle.std.proofs.Common.{refl}
use Rattle.path_calc.proofs.Bounds.{screened-within, small}
use Rattle.path_calc.proofs.direct.screening.past_screens.Goals as goal

pub minus-requires-clause-first : goal.minus-requires-clause-first
minus-requires-clause-first c = small _ _ c.args.level c.requires.level refl

pub minus-requires-clause-second : goal.minus-requires-clause-second
minus-requires-clause-second c = small _ _ c.args.screening c.requires.screening refl

pub returns-clause-range : goal.returns-clause-range
returns-clause-range c = rw (c.minus.ensures) (screened-within c.args.level c.args.screening c.requires.level c.requires.screening)
