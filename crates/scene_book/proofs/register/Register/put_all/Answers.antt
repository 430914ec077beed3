use Rattle.std.proofs.Common.{◌∙◌, ap}
use Rattle.std.specs.Map.{values_of}
use Rattle.scene_book.specs.Lists.{put_all}
use Rattle.scene_book.proofs.FiledLemmas.{all-filed, all-values, apart}
use Rattle.scene_book.proofs.register.Register.put_all.Goals as goal

pub invariant_of-self-2 : goal.invariant_of-self-2
invariant_of-self-2 g c =
    rw (c.insert_all.ensures.entries, c.in_ok-reserve.ensures.entries)
    (all-filed g.T.Named.slot.name_of c.in_ok-entries.entries.items c.self.inside.things.entries c.in_ok-entries.ensures.filed c.self.invariant)

pub returns-clause-new : goal.returns-clause-new
returns-clause-new g c =
    rw (← c.self.view_is, c.insert_all.ensures.entries, c.in_ok-reserve.ensures.entries)
    (all-values g.T.Named.slot.name_of c.in_ok-entries.entries.items c.self.inside.things.entries c.in_ok-entries.ensures.filed c.self.invariant
    ∙ ap (λ l. put_all g.T.Named.slot.name_of l (values_of c.self.inside.things.entries)) c.in_ok-entries.ensures.things)

pub returns-clause-apart : goal.returns-clause-apart
returns-clause-apart g c =
    apart g.T.Named.slot.name_of c.insert_all.new.things.entries c.insert_all.ensures.unique
    (rw (c.insert_all.ensures.entries, c.in_ok-reserve.ensures.entries)
    (all-filed g.T.Named.slot.name_of c.in_ok-entries.entries.items c.self.inside.things.entries c.in_ok-entries.ensures.filed c.self.invariant))
