use Rattle.scene_book.proofs.EditLemmas.{accepted-changes}
use Rattle.scene_book.proofs.laws.accepted_edits_change_pieces.Goals as goal

pub returns : goal.returns
returns c = accepted-changes
