-- The edits before those that are left were made.
use Rattle.std.proofs.Common.{◌≡◌, ◌++◌, List, vec_len}
use Rattle.std.specs.Prelude.{reverse}
use Rattle.scene_book.specs.declared.edits.Edit.{Edit}
use Rattle.noise_map.specs.inner.Steps.{HasMadeAll}
use Rattle.noise_map.proofs.lines.step.Context.make_all.Given as goal

abbrev pub invariant-loop-edit : goal.invariant-loop-edit
invariant-loop-edit g l = record {
  made : (done : List Edit) × (reverse l.initial.edits.items ≡ done ++ reverse l.edits.items) × HasMadeAll l.initial.keeps l.initial.editor done l.editor;
  own : l.editor.seat.table ≡ l.self.lock.now;
}

abbrev pub decreases-loop-edit : goal.decreases-loop-edit
decreases-loop-edit g l = vec_len l.edits
