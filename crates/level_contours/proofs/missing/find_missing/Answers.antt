use Rattle.std.proofs.Common.{◌<◌, ◌+◌, ◌-◌, ◌∙◌, ap, sym, arith}
use Rattle.std.specs.Prelude.{find}
use Rattle.level_contours.specs.GridNames.{names_along, names_from}
use Rattle.level_contours.specs.inner.Filing.{is_absent}
use Rattle.level_contours.proofs.GridNameLemmas.{from-step, find-here, find-later}
use Rattle.level_contours.proofs.missing.find_missing.Goals as goal

pub returns-then-is_some : goal.returns-then-is_some
returns-then-is_some c =
    let row = c.loop-row.row in
    let spec = c.args.spec.now in
    let within : c.loop-row.row < c.args.spec.now.rows = omega (arith, c.loop-row.invariant.all, c.loop-row-test.true) in
    sym (find-here (is_absent c.args.names.now.entries) (names_along spec.name row 0 spec.columns) (names_from spec (row + 1) (spec.rows - (row + 1)))
    c.in_ok-missing.missing c.in_ok-missing.ensures (sym c.is_some.ensures ∙ c.if-is_some.true))
    ∙ sym (ap (find (is_absent c.args.names.now.entries)) (from-step spec row spec.rows within))
    ∙ c.loop-row.invariant.behind

pub loop-row-preserved : goal.loop-row-preserved
loop-row-preserved c =
    let row = c.loop-row.row in
    let spec = c.args.spec.now in
    let within : c.loop-row.row < c.args.spec.now.rows = omega (arith, c.loop-row.invariant.all, c.loop-row-test.true) in
    record {
      behind = sym (find-later (is_absent c.args.names.now.entries) (names_along spec.name row 0 spec.columns) (names_from spec (row + 1) (spec.rows - (row + 1)))
          c.in_ok-missing.missing c.in_ok-missing.ensures (sym c.is_some.ensures ∙ c.if-is_some.false))
          ∙ sym (ap (find (is_absent c.args.names.now.entries)) (from-step spec row spec.rows within))
          ∙ c.loop-row.invariant.behind;
      all = c.loop-row.invariant.all;
    }
