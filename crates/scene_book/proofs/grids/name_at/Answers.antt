use Rattle.std.proofs.Common.{◌≡◌, rules}
use Rattle.scene_book.specs.Grid.{name_in}
use Rattle.scene_book.proofs.GridLemmas.{grid_name}
use Rattle.scene_book.proofs.grids.name_at.Goals as goal

pub from_vec-requires : goal.from_vec-requires
from_vec-requires c =
    let e : c.add_number-2.new.bytes.items ≡ name_in c.args.name.now c.args.row c.args.column = search rules in
    rw e (grid_name c.args.name.now c.args.row c.args.column c.requires.name c.requires.row c.requires.column)
