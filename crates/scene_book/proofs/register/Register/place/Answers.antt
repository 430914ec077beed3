use Rattle.std.proofs.Common.{◌∙◌}
use Rattle.scene_book.proofs.FiledLemmas.{place-lookup}
use Rattle.scene_book.proofs.register.Register.place.Goals as goal

pub returns : goal.returns
returns g c = rw (← c.self.view_is) (c.get_index_of.ensures.index ∙ place-lookup g.T.Named.slot.name_of c.args.name.now c.self.inside.things.entries c.self.invariant)
