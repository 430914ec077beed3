-- A journal as the proofs hold it.
use Rattle.std.specs.Prelude.{List, [], ◌∷◌, ◌++◌, Option, Some, None}
use Rattle.std.specs.declared.snapshot.Snapshot.{Snapshot}
use Rattle.scene_book.specs.declared.edits.Edit.{Edit}
use Rattle.map_board.specs.declared.past.Grown.{Grown}

-- the edits of the last journal and the edit that was added to it
abbrev pub journal_of : Option (Snapshot Grown) → List Edit
journal_of None = []
journal_of (Some last) = last.value.before ++ last.value.edit ∷ []
