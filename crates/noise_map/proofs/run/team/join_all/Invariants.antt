-- So many seats have been joined; those that are left are to come.
use Rattle.std.proofs.Common.{◌≡◌, ◌+◌, ℕ, length, vec_len}
use Rattle.std.specs.Prelude.{All}
use Rattle.noise_map.specs.inner.Teams.{IsBack, HasJoinedAll}
use Rattle.noise_map.proofs.run.team.join_all.Given as goal

abbrev pub invariant-loop-worker : goal.invariant-loop-worker
invariant-loop-worker l = record {
  joined : (count : ℕ) × (count + length l.workers.items ≡ length l.initial.workers.items) × HasJoinedAll l.lock l.initial.editor count l.editor;
  left : All (IsBack l.lock) l.workers.items;
  own : l.editor.table ≡ l.lock;
}

abbrev pub decreases-loop-worker : goal.decreases-loop-worker
decreases-loop-worker l = vec_len l.workers
