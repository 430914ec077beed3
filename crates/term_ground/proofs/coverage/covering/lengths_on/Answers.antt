use Rattle.std.proofs.Common.{◌∙◌}
use Rattle.term_ground.proofs.Routing.{route-lengths}
use Rattle.term_ground.proofs.coverage.covering.lengths_on.Goals as goal

pub returns-in-Some : goal.returns-in-Some
returns-in-Some c = λ path is.
    c.joined.ensures
    ∙ rw (c.on_leg-first.ensures, c.on_leg.ensures) (route-lengths c.args.outline.now c.args.route.now path c.in-Some.leg is c.in-Some.is)
