use Rattle.std.proofs.Common.{◌<◌, ◌+◌, ◌-◌, ◌∙◌, ap, sym, arith, List, ℕ, [], ◌∷◌}
use Rattle.std.specs.Prelude.{find}
use Rattle.scene_book.specs.Grid.{name_in}
use Rattle.command_lines.specs.Views.{Contour}
use Rattle.level_contours.specs.GridNames.{names_along}
use Rattle.level_contours.specs.inner.Filing.{is_absent}
use Rattle.level_contours.proofs.GridNameLemmas.{along-step, find-later}
use Rattle.level_contours.proofs.missing.missing_in_row.Goals as goal

pub loop-column-preserved : goal.loop-column-preserved
loop-column-preserved c =
    let column = c.loop-column.column in
    let name = c.args.spec.now.name in
    let count = c.args.spec.now.columns in
    let named = c.items.ensures.value ∙ ap (λ (s : Contour). s.name) c.spec.view_is in
    let within : c.loop-column.column < c.args.spec.now.columns = omega (arith, c.loop-column.invariant.all, c.loop-column-test.true) in
    record {
      behind = sym (find-later (is_absent c.args.names.now.entries) (name_in name c.args.row column ∷ []) (names_along name c.args.row (column + 1) (count - (column + 1)))
          c.in_ok-missing.missing (c.in_ok-missing.ensures ∙ ap (λ (n : List ℕ). find (is_absent c.args.names.now.entries) (name_in n c.args.row column ∷ [])) named) (sym c.is_some.ensures ∙ c.if-is_some.false))
          ∙ sym (ap (find (is_absent c.args.names.now.entries)) (along-step name c.args.row column count within))
          ∙ c.loop-column.invariant.behind;
      all = c.loop-column.invariant.all;
    }
