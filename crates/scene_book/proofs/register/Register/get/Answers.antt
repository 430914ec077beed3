use Rattle.std.proofs.Common.{◌∙◌}
use Rattle.scene_book.proofs.FiledLemmas.{named-lookup}
use Rattle.scene_book.proofs.register.Register.get.Goals as goal

pub returns : goal.returns
returns g c = rw (← c.self.view_is) (c.get.ensures.value ∙ named-lookup g.T.Named.slot.name_of c.args.name.now c.self.inside.things.entries c.self.invariant)
