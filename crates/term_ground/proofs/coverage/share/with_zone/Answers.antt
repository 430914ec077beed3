use Rattle.std.proofs.Common.{rules}
use Rattle.term_ground.specs.inner.Extents.{by_ends, regional_of}
use Rattle.term_ground.specs.inner.Walks.{stretches_of}
use Rattle.term_ground.proofs.Windings.{along-met}
use Rattle.term_ground.proofs.coverage.share.with_zone.Goals as goal

pub returns : goal.returns
returns c = λ path is.
    let line = c.args.line.now in
    let walked = c.in_ok-crossed.ensures in
    rw (c.in_ok-with_term.ensures, c.in_ok-with_term-2.ensures, c.in_ok-with_term-3.ensures)
    (along-met line path c.args.zone.now (by_ends c.args.outside) (regional_of c.args.total) is c.in_ok-difference.difference c.held-lengths.result
    (search (rules, walked.met))
    (search (rules, c.in_ok-difference.ensures))
    (search (rules, c.held-lengths.ensures line (stretches_of path) walked is.sections_are)))
