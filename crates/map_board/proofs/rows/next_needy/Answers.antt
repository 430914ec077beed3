use Rattle.std.proofs.Common.{sym, ap, ◌∙◌}
use Rattle.std.specs.Prelude.{◌||◌}
use Rattle.std.specs.List.{list_any}
use Rattle.std.proofs.lemmas.List.{take_all}
use Rattle.std.proofs.lemmas.List.Folds.{list_any_more}
use Rattle.map_board.specs.inner.Boards.{is_held_needy}
use Rattle.map_board.proofs.Scanning.{here-at}
use Rattle.map_board.proofs.rows.next_needy.Goals as goal

pub returns-clause-none : goal.returns-clause-none
returns-clause-none c =
    ap (list_any is_held_needy) (sym (take_all c.loop-place.place c.args.rows.now c.loop-place-test.false)) ∙ c.loop-place.invariant

pub returns-then-is_needy-clause-some : goal.returns-then-is_needy-clause-some
returns-then-is_needy-clause-some c =
    here-at is_held_needy c.args.rows.now c.loop-place.place c.index-rows-place.result c.loop-place-test.true c.index-rows-place.is (sym c.if-is_needy.ensures)

pub loop-place-preserved : goal.loop-place-preserved
loop-place-preserved c =
    list_any_more is_held_needy c.args.rows.now c.loop-place.place c.index-rows-place.result c.loop-place-test.true
    ∙ (λ i. c.loop-place.invariant i || (ap is_held_needy (sym c.index-rows-place.is) ∙ sym c.if-is_needy.ensures) i)
