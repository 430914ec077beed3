use Rattle.scene_book.proofs.EditLemmas.{filter-stays, any-stays}
use Rattle.scene_book.proofs.laws.filter_and_any_stay.Goals as goal

pub returns-clause-filter : goal.returns-clause-filter
returns-clause-filter g c = filter-stays

pub returns-clause-any : goal.returns-clause-any
returns-clause-any g c = any-stays
