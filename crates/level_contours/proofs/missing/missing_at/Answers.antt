use Rattle.scene_book.proofs.GridLemmas.{grid_name}
use Rattle.level_contours.proofs.missing.missing_at.Goals as goal

pub from_vec-requires : goal.from_vec-requires
from_vec-requires c =
    rw c.in_ok-bytes.ensures (grid_name c.args.name.now c.args.row c.args.column c.requires.name c.requires.row c.requires.column)
