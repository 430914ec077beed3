use Rattle.std.proofs.Common.{rules}
use Rattle.scene_parts.specs.Checking.{plan_point}
use Rattle.scene_parts.proofs.checks.ranges.plan_point.Goals as goal

pub returns-in_err-east : goal.returns-in_err-east
unfolding plan_point
returns-in_err-east c = search rules
