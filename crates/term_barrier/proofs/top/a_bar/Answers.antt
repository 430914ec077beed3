use Rattle.std.proofs.Common.{◌≡◌, ap, sym, subst, ◌∙◌}
use Rattle.std.specs.Prelude.{Option, None}
use Rattle.fix_interval.specs.Interval.{Interval}
use Rattle.fix_interval.specs.Tree.{Known, enc}
use Rattle.term_barrier.specs.Limits.{IsScreening}
use Rattle.term_barrier.specs.Screening.{screening}
use Rattle.term_barrier.specs.inner.Prepared.{best_argument, screened_by}
use Rattle.term_barrier.proofs.Bounds.{screening-between}
use Rattle.term_barrier.proofs.Screened.{screening-is}
use Rattle.term_barrier.proofs.top.a_bar.Goals as goal

over : (c : goal.After-less_ground)
    → c.less_ground.result ≡ enc (screening c.args.path.now (Known c.args.path.now.dp) c.args.edges.now (Known c.args.d) (Known c.args.gr) c.args.band)
over c =
    let path = c.args.path.now in
    let argument = best_argument path c.args.d c.args.band c.args.edges.now in
    c.less_ground.ensures
    ∙ ap (λ (best : Option Interval). screened_by best argument c.args.gr) (sym c.in-Some.is ∙ c.best_over.ensures)
    ∙ sym (screening-is path c.args.d c.args.gr c.args.band c.args.edges.now)

below : (c : goal.After-below_line)
    → c.below_line.result ≡ enc (screening c.args.path.now (Known c.args.path.now.dp) c.args.edges.now (Known c.args.d) (Known c.args.gr) c.args.band)
below c =
    c.below_line.ensures
    ∙ ap (λ (argument : Option Interval). screened_by None argument c.args.gr) c.greatest_argument.ensures
    ∙ ap (λ (best : Option Interval). screened_by best (best_argument c.args.path.now c.args.d c.args.band c.args.edges.now) c.args.gr) (sym c.in-None.is ∙ c.best_over.ensures)
    ∙ sym (screening-is c.args.path.now c.args.d c.args.gr c.args.band c.args.edges.now)

pub returns-in-Some-clause-value : goal.returns-in-Some-clause-value
returns-in-Some-clause-value c = over c

pub returns-in-Some-clause-bounds : goal.returns-in-Some-clause-bounds
returns-in-Some-clause-bounds c = λ ground.
    subst IsScreening (sym (over c)) (screening-between c.args.path.now c.args.d c.args.gr c.args.band c.args.edges.now ground)

pub returns-in-None-clause-value : goal.returns-in-None-clause-value
returns-in-None-clause-value c = below c

pub returns-in-None-clause-bounds : goal.returns-in-None-clause-bounds
returns-in-None-clause-bounds c = λ ground.
    subst IsScreening (sym (below c)) (screening-between c.args.path.now c.args.d c.args.gr c.args.band c.args.edges.now ground)
