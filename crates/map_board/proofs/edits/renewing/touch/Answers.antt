use Rattle.std.proofs.Common.{◌≡◌, ap, sym, ◌∙◌, subst, false, true, None}
use Rattle.std.specs.Prelude.{not}
use Rattle.map_board.specs.inner.Boards.{ByIsRight}
use Rattle.map_board.specs.inner.Changes.{journal_after}
use Rattle.map_board.proofs.Keeping.{none-of}
use Rattle.map_board.proofs.AfterEdits.{stale-still, current-by}
use Rattle.map_board.proofs.edits.renewing.touch.Goals as goal
use Rattle.map_board.proofs.edits.renewing.touch.Goals.{else-is_none-via-then-is_none+else-is_touched, else-is_none-via-else-is_none}

pub is_touched-requires-clause-one : goal.is_touched-requires-clause-one
is_touched-requires-clause-one c =
    c.requires.one c.in-Some.levels c.in-Some.is (none-of c.in-Some.levels.by (c.is_none.ensures ∙ ap not c.if-is_none.true))

pub returns-then-is_touched-clause-by : goal.returns-then-is_touched-clause-by
returns-then-is_touched-clause-by c =
    let levels = c.in-Some.levels in
    let change = c.args.change.now in
    let r = c.args.receiver.now in
    let none : levels.by ≡ None = none-of levels.by (c.is_none.ensures ∙ ap not c.if-is_none.true) in
    current-by change c.requires.change r levels (c.requires.past levels c.in-Some.is)
    (subst (ByIsRight change.past.value r) c.in-Some.is c.requires.by) none true (sym c.if-is_touched.true ∙ c.is_touched.ensures)

pub returns-else-is_none-clause-by : goal.returns-else-is_none-clause-by
returns-else-is_none-clause-by c =
    let levels = c.in-Some.levels in
    let change = c.args.change.now in
    let r = c.args.receiver.now in
    let past = c.requires.past levels c.in-Some.is in
    let was = subst (ByIsRight change.past.value r) c.in-Some.is c.requires.by in
    elim c.else-is_none.branch [
      | else-is_none-via-then-is_none+else-is_touched w ↦
          let none : levels.by ≡ None = none-of levels.by (c.is_none.ensures ∙ ap not w.if-is_none.true) in
          subst (ByIsRight (journal_after change) r) (sym w.kept-is)
          (none ∙ current-by change c.requires.change r levels past was none false (sym w.if-is_touched.false ∙ w.is_touched.ensures))
      | else-is_none-via-else-is_none w ↦
          subst (ByIsRight (journal_after change) r) (sym w.kept-is)
          (stale-still change c.requires.change r levels past was (c.is_none.ensures ∙ ap not w.if-is_none.false))
    ]
