use Rattle.scene_book.proofs.EditLemmas.{flat-stays}
use Rattle.scene_book.proofs.laws.flat_map_stays.Goals as goal

pub returns : goal.returns
returns g c = flat-stays
