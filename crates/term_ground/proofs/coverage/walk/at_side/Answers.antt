use Rattle.std.proofs.Common.{sym, ◌∙◌}
use Rattle.term_ground.proofs.Windings.{side-added}
use Rattle.term_ground.proofs.coverage.walk.at_side.Goals as goal

pub returns-in-Some : goal.returns-in-Some
returns-in-Some c =
    side-added c.args.line.now c.args.crossed c.args.side c.in-Some.passage c.with.result (sym c.passage.ensures ∙ c.in-Some.is) c.with.ensures
