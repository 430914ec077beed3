use Rattle.std.proofs.Common.{sym, ◌∙◌}
use Rattle.image_source.proofs.Found.{none-added, some-added}
use Rattle.image_source.proofs.search.add_crossing.Goals as goal

pub returns-in-None : goal.returns-in-None
returns-in-None c =
    none-added c.args.leg c.args.m.now c.args.ends c.args.numbers.0 c.args.numbers.1 c.args.obstacle.now c.args.side c.args.found.now.items
    (rw (← c.obstacle.view_is) (sym c.edge.ensures ∙ c.in-None.is))

pub returns-in_ok-push-in-Some : goal.returns-in_ok-push-in-Some
returns-in_ok-push-in-Some c =
    c.in_ok-push-in-Some.ensures.items
    ∙ some-added c.args.leg c.args.m.now c.args.ends c.args.numbers.0 c.args.numbers.1 c.args.obstacle.now c.args.side c.in-Some.edge c.bands_of.result c.args.found.now.items
    (rw (← c.obstacle.view_is) (sym c.edge.ensures ∙ c.in-Some.is)) c.bands_of.ensures
