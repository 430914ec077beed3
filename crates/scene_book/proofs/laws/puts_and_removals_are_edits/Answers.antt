use Rattle.scene_book.proofs.EditLemmas.{put-edited, take-edited}
use Rattle.scene_book.proofs.laws.puts_and_removals_are_edits.Goals as goal

pub returns-clause-put : goal.returns-clause-put
returns-clause-put g c = put-edited

pub returns-clause-removal : goal.returns-clause-removal
returns-clause-removal g c = take-edited
