-- The versions behind the one asked for were taken off the end, and the edits are those that undo theirs.
use Rattle.std.proofs.Common.{◌≡◌, ◌<◌, ◌++◌, List, vec_len}
use Rattle.std.specs.Prelude.{All, flat_map, reverse}
use Rattle.scene_undo.specs.declared.versions.KeptVersion.{KeptVersion}
use Rattle.scene_undo.proofs.versions.take_later.Given as goal

abbrev pub invariant-loop-one : goal.invariant-loop-one
invariant-loop-one l =
    (later : List KeptVersion) × (l.initial.kept.items ≡ l.kept.items ++ later) × All (λ (one : KeptVersion). l.version < one.version) later
    × (l.edits.items ≡ flat_map (λ (one : KeptVersion). one.back) (reverse later))

abbrev pub decreases-loop-one : goal.decreases-loop-one
decreases-loop-one l = vec_len l.kept
