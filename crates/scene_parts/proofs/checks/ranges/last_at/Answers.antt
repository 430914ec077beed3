use Rattle.std.proofs.Common.{arith}
use Rattle.std.proofs.lemmas.Grind.{common_steps}
use Rattle.scene_parts.proofs.checks.ranges.last_at.Goals as goal

pub overflow_mul-step : goal.overflow_mul-step
overflow_mul-step c = grind (arith, common_steps)

pub overflow_add-result : goal.overflow_add-result
overflow_add-result c = grind (arith, common_steps)

pub returns : goal.returns
returns c = grind (arith, common_steps)
