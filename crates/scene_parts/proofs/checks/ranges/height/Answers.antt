use Rattle.std.proofs.Common.{rules}
use Rattle.scene_parts.specs.Checking.{height_of}
use Rattle.scene_parts.proofs.checks.ranges.height.Goals as goal

pub returns-clause-value : goal.returns-clause-value
unfolding height_of
returns-clause-value c = search rules

pub returns-clause-height : goal.returns-clause-height
unfolding height_of
returns-clause-height c = search rules
