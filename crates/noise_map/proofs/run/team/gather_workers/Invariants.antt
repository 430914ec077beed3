-- The workers so far have come.
use Rattle.std.proofs.Common.{◌-◌, length}
use Rattle.noise_map.specs.inner.Teams.{IsGathering}
use Rattle.noise_map.proofs.run.team.gather_workers.Given as goal

abbrev pub invariant-loop-editor : goal.invariant-loop-editor
invariant-loop-editor g l = IsGathering l.lock l.count l.editor l.workers.items

abbrev pub decreases-loop-editor : goal.decreases-loop-editor
decreases-loop-editor g l = l.count - length l.workers.items
