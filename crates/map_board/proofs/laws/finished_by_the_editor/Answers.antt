use Rattle.map_board.proofs.AnyCalls.{finished-by-an-entry, finished-by-the-editor}
use Rattle.map_board.proofs.laws.finished_by_the_editor.Goals as goal

pub returns-clause-entry : goal.returns-clause-entry
returns-clause-entry c = finished-by-an-entry

pub returns-clause-editor : goal.returns-clause-editor
returns-clause-editor c = finished-by-the-editor
