use Rattle.std.proofs.Common.{◌∙◌, ap}
use Rattle.std.specs.Prelude.{Some}
use Rattle.term_barrier.proofs.Marked.{decided-all}
use Rattle.term_barrier.proofs.screens.edges.best_over.Goals as goal

pub returns-in-Some : goal.returns-in-Some
returns-in-Some c =
    ap Some c.double_attenuation.ensures
    ∙ decided-all c.args.path.now c.args.d c.args.singles.now c.args.pairs.now c.args.band c.args.marks.now c.in-Some.argument c.requires c.in-Some.ensures
