use Rattle.scene_book.proofs.FiledLemmas.{apart}
use Rattle.scene_book.proofs.register.Register.items.Goals as goal

pub returns-clause-apart : goal.returns-clause-apart
returns-clause-apart g c =
    rw (← c.self.view_is) (apart g.T.Named.slot.name_of c.self.inside.things.entries c.as_slice-entries.ensures.unique c.self.invariant)
