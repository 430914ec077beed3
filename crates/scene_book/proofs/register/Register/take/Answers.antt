use Rattle.std.proofs.Common.{◌∙◌}
use Rattle.std.specs.Map.{values_of}
use Rattle.scene_book.proofs.FiledLemmas.{named-lookup, take-values, take-filed, apart}
use Rattle.scene_book.proofs.ListLemmas.{length-take_out}
use Rattle.scene_book.proofs.register.Register.take.Goals as goal

pub invariant_of-self : goal.invariant_of-self
invariant_of-self g c = rw c.shift_remove.ensures.entries (take-filed g.T.Named.slot.name_of c.args.name.now c.self.inside.things.entries c.self.invariant)

pub returns-clause-value : goal.returns-clause-value
returns-clause-value g c =
    rw (← c.self.view_is) (c.shift_remove.ensures.value ∙ named-lookup g.T.Named.slot.name_of c.args.name.now c.self.inside.things.entries c.self.invariant)

pub returns-clause-left : goal.returns-clause-left
returns-clause-left g c =
    rw (← c.self.view_is, c.shift_remove.ensures.entries) (take-values g.T.Named.slot.name_of c.args.name.now c.self.inside.things.entries c.self.invariant)

pub returns-clause-apart : goal.returns-clause-apart
returns-clause-apart g c =
    apart g.T.Named.slot.name_of c.shift_remove.new.self.entries c.shift_remove.ensures.unique
    (rw c.shift_remove.ensures.entries (take-filed g.T.Named.slot.name_of c.args.name.now c.self.inside.things.entries c.self.invariant))

pub returns-clause-fewer : goal.returns-clause-fewer
returns-clause-fewer g c =
    rw (c.shift_remove.ensures.entries, take-values g.T.Named.slot.name_of c.args.name.now c.self.inside.things.entries c.self.invariant)
    (rw (← c.self.view_is)
    (length-take_out g.T.Named.slot.name_of c.args.name.now (values_of c.self.inside.things.entries)))
