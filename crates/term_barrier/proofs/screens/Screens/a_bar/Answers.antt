use Rattle.std.proofs.Common.{◌≡◌, ap, sym, refl, subst, ◌∙◌, map}
use Rattle.std.specs.Prelude.{Option, None}
use Rattle.fix_interval.specs.Interval.{Interval}
use Rattle.fix_interval.specs.Tree.{Known, enc}
use Rattle.term_barrier.specs.Limits.{IsScreening}
use Rattle.term_barrier.specs.Screening.{marked, screening}
use Rattle.term_barrier.specs.inner.Prepared.{greatest_from, known_argument, screened_by}
use Rattle.term_barrier.proofs.Bounds.{screening-between}
use Rattle.term_barrier.proofs.Marked.{screened-known}
use Rattle.term_barrier.proofs.screens.Screens.a_bar.Goals as goal

over : (c : goal.After-less_ground)
    → c.less_ground.result
    ≡ enc (screening c.args.self.now.path (Known c.args.self.now.path.dp) (marked c.args.marks.now c.args.self.now.edges) (Known c.args.self.now.d) (Known c.args.gr) c.args.band)
over c =
    let s = c.self.inside in
    let argument = greatest_from None (map (known_argument c.args.band) (marked c.args.marks.now s.singles.now)) in
    c.less_ground.ensures
    ∙ ap (λ (best : Option Interval). screened_by best argument c.args.gr) (sym c.in-Some.is)
    ∙ screened-known c.args.self.now s.path s.d c.args.gr s.singles.now s.pairs.now c.args.band c.args.marks.now c.best_over.result argument
    c.self.invariant c.self.view_is c.best_over.ensures refl

below : (c : goal.After-below_line)
    → c.below_line.result
    ≡ enc (screening c.args.self.now.path (Known c.args.self.now.path.dp) (marked c.args.marks.now c.args.self.now.edges) (Known c.args.self.now.d) (Known c.args.gr) c.args.band)
below c =
    let s = c.self.inside in
    c.below_line.ensures
    ∙ ap (λ (best : Option Interval). screened_by best c.greatest_argument.result c.args.gr) (sym c.in-None.is)
    ∙ screened-known c.args.self.now s.path s.d c.args.gr s.singles.now s.pairs.now c.args.band c.args.marks.now c.best_over.result c.greatest_argument.result
    c.self.invariant c.self.view_is c.best_over.ensures c.greatest_argument.ensures

pub returns-in-Some-clause-value : goal.returns-in-Some-clause-value
returns-in-Some-clause-value c = over c

pub returns-in-Some-clause-bounds : goal.returns-in-Some-clause-bounds
returns-in-Some-clause-bounds c = λ ground.
    subst IsScreening (sym (over c)) (screening-between c.args.self.now.path c.args.self.now.d c.args.gr c.args.band (marked c.args.marks.now c.args.self.now.edges) ground)

pub returns-in-None-clause-value : goal.returns-in-None-clause-value
returns-in-None-clause-value c = below c

pub returns-in-None-clause-bounds : goal.returns-in-None-clause-bounds
returns-in-None-clause-bounds c = λ ground.
    subst IsScreening (sym (below c)) (screening-between c.args.self.now.path c.args.self.now.d c.args.gr c.args.band (marked c.args.marks.now c.args.self.now.edges) ground)
