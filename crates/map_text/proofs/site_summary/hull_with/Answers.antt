use Rattle.map_text.proofs.Spans.{hull-level}
use Rattle.map_text.proofs.site_summary.hull_with.Goals as goal

pub returns-in-Some-clause-level : goal.returns-in-Some-clause-level
returns-in-Some-clause-level c =
    rw c.hull.ensures (hull-level c.in-Some.span c.args.level (rw c.in-Some.is at c.requires.span) c.requires.level)
