use Rattle.std.proofs.Common.{◌≡◌, drop}
use Rattle.scene_book.specs.Applying.{applied}
use Rattle.line_sources.proofs.edits.try_all.Given as goal

abbrev pub invariant-loop-edit : goal.invariant-loop-edit
invariant-loop-edit l = applied (drop l.edit-index l.edits) l.after ≡ applied l.edits l.scene
