use Rattle.std.proofs.Common.{◌∙◌}
use Rattle.scene_book.proofs.FiledLemmas.{named-lookup, put-values, put-filed, apart}
use Rattle.scene_book.proofs.register.Register.insert.Goals as goal

pub invariant_of-self-2 : goal.invariant_of-self-2
invariant_of-self-2 g c = rw c.in_ok-insert.ensures.entries (put-filed g.T.Named.slot.name_of c.args.key c.args.thing c.self.inside.things.entries c.requires c.self.invariant)

pub returns-clause-old : goal.returns-clause-old
returns-clause-old g c =
    rw (← c.self.view_is, ← c.requires) (c.in_ok-insert.ensures.old ∙ named-lookup g.T.Named.slot.name_of c.args.key.items c.self.inside.things.entries c.self.invariant)

pub returns-clause-new : goal.returns-clause-new
returns-clause-new g c =
    rw (← c.self.view_is, c.in_ok-insert.ensures.entries) (put-values g.T.Named.slot.name_of c.args.key c.args.thing c.self.inside.things.entries c.requires c.self.invariant)

pub returns-clause-apart : goal.returns-clause-apart
returns-clause-apart g c =
    apart g.T.Named.slot.name_of c.insert.new.self.entries c.insert.ensures.unique
    (rw c.in_ok-insert.ensures.entries (put-filed g.T.Named.slot.name_of c.args.key c.args.thing c.self.inside.things.entries c.requires c.self.invariant))
