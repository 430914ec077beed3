use Rattle.std.proofs.Common.{◌≡◌, ap, sym, subst, ◌∙◌}
use Rattle.std.specs.Prelude.{Option, unwrap_or}
use Rattle.fix_interval.specs.Interval.{Interval}
use Rattle.fix_interval.specs.Tree.{Known, enc}
use Rattle.term_barrier.specs.Diffraction.{whole}
use Rattle.term_barrier.specs.Screening.{top_attenuation}
use Rattle.term_barrier.proofs.Bounds.{IsLimited, limited-top}
use Rattle.term_barrier.proofs.Screened.{top-is}
use Rattle.term_barrier.proofs.top.d_z_top.Goals as goal

found : (c : goal.In-Some) → c.in-Some.best ≡ enc (top_attenuation c.args.path.now (Known c.args.path.now.dp) c.args.edges.now (Known c.args.d) c.args.band)
found c =
    ap (λ (best : Option Interval). unwrap_or best (enc (whole 0))) (sym c.in-Some.is ∙ c.best_over.ensures)
    ∙ top-is c.args.path.now c.args.d c.args.band c.args.edges.now

none : (c : goal.After-exact) → c.exact.result ≡ enc (top_attenuation c.args.path.now (Known c.args.path.now.dp) c.args.edges.now (Known c.args.d) c.args.band)
none c =
    c.exact.ensures ∙ ap (λ (best : Option Interval). unwrap_or best (enc (whole 0))) (sym c.in-None.is ∙ c.best_over.ensures)
    ∙ top-is c.args.path.now c.args.d c.args.band c.args.edges.now

pub returns-in-Some-clause-value : goal.returns-in-Some-clause-value
returns-in-Some-clause-value c = found c

pub returns-in-Some-clause-low : goal.returns-in-Some-clause-low
returns-in-Some-clause-low c = (subst IsLimited (sym (found c)) (limited-top c.args.path.now c.args.d c.args.band c.args.edges.now)).low

pub returns-in-Some-clause-high : goal.returns-in-Some-clause-high
returns-in-Some-clause-high c = (subst IsLimited (sym (found c)) (limited-top c.args.path.now c.args.d c.args.band c.args.edges.now)).high

pub returns-in-None-clause-value : goal.returns-in-None-clause-value
returns-in-None-clause-value c = none c

pub returns-in-None-clause-low : goal.returns-in-None-clause-low
returns-in-None-clause-low c = (subst IsLimited (sym (none c)) (limited-top c.args.path.now c.args.d c.args.band c.args.edges.now)).low

pub returns-in-None-clause-high : goal.returns-in-None-clause-high
returns-in-None-clause-high c = (subst IsLimited (sym (none c)) (limited-top c.args.path.now c.args.d c.args.band c.args.edges.now)).high
