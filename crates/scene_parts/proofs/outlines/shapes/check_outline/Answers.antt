use Rattle.std.proofs.Common.{rules}
use Rattle.scene_parts.specs.Checking.{check_outline}
use Rattle.scene_parts.proofs.outlines.shapes.check_outline.Goals as goal

pub returns-clause-value : goal.returns-clause-value
unfolding check_outline
returns-clause-value c = search rules

pub returns-clause-enough : goal.returns-clause-enough
unfolding check_outline
returns-clause-enough c = search rules
