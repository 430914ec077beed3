use Rattle.std.proofs.Common.{◌≡◌, ℕ, Bool, true, Some, None, refl, ap, sym, ◌∙◌, subst}
use Rattle.std.specs.Prelude.{Option, IfSome, IsSomeAnd, not}
use Rattle.std.specs.Option.{option_map}
use Rattle.map_board.specs.declared.rows.caches.Cache.{Cache}
use Rattle.map_board.specs.declared.rows.HeldRow.{HeldRow}
use Rattle.map_board.specs.declared.rows.KeptLevels.{KeptLevels}
use Rattle.map_board.specs.Rows.{is_current, shown_since}
use Rattle.map_board.specs.Boards.{kept_of}
use Rattle.map_board.specs.inner.Boards.{is_held_current, shown_by, HasNone}
use Rattle.map_board.specs.inner.Marks.{marks_after, touches_one}
use Rattle.map_board.specs.inner.Paths.{kept_in, tests_to}
use Rattle.map_board.proofs.AfterEdits.{kept-past, kept-fresh, out-holds, marked-holds}
use Rattle.map_board.proofs.edits.renewing.renew.Goals as goal

pub returns-in_default-clause-holds : goal.returns-in_default-clause-holds
returns-in_default-clause-holds c =
    rw c.in_default.is (out-holds c.args.change.now c.requires.change c.args.receiver.now c.args.row.now c.requires.holds c.in_default.is)

-- levels that no edit touches yet make a row current
current : (row : HeldRow) (levels : KeptLevels) → row.kept ≡ Some levels → levels.by ≡ None → is_held_current row ≡ true
current row levels some none =
    ap (λ (k : Option KeptLevels). is_current (shown_by row.since k)) some
    ∙ ap (λ (by : Option ℕ). is_current (shown_since (kept_of levels) by)) none

pub mark_row-one-requires-clause-tests : goal.mark_row-one-requires-clause-tests
mark_row-one-requires-clause-tests c =
    subst (λ (x : Bool × Option Cache). IfSome c.args.tests (λ t. t.now ≡ tests_to c.args.change.now.logged c.args.receiver.now (kept_in x.0 x.1)))
    (λ i. (not (sym c.is_current-counts.ensures i), c.in-Some.is i)) c.requires.tests

pub touch-requires-clause-past : goal.touch-requires-clause-past
touch-requires-clause-past c =
    kept-past c.args.change.now c.requires.change c.args.receiver.now c.args.row.now c.requires.holds

pub touch-requires-clause-one : goal.touch-requires-clause-one
touch-requires-clause-one c levels some none =
    let change = c.args.change.now in
    let r = c.args.receiver.now in
    c.mark_row-one.ensures.one (ap not (c.is_current-counts.ensures ∙ current c.args.row.now levels some none))
    ∙ ap (touches_one change.logged.edit change.logged.old r)
    (kept-fresh change c.requires.change r c.args.row.now c.requires.holds c.in-Some.cache c.in-Some.is levels some none)

pub returns-in-Some-clause-holds : goal.returns-in-Some-clause-holds
returns-in-Some-clause-holds c =
    marked-holds c.args.change.now c.requires.change c.args.receiver.now c.args.row.now c.requires.holds c.touch.new.kept c.in-Some.cache c.mark_row-one.new.cache
    c.in-Some.is c.touch.ensures.same c.touch.ensures.by (ap (λ b. b.items) c.mark_row-one.ensures.bundles) c.mark_row-one.ensures.order c.mark_row-one.ensures.marks

-- ---- an empty row

no-levels : (kept : Option KeptLevels) → option_map kept_of kept ≡ None → kept ≡ None
no-levels None is = refl
no-levels (Some levels) is = absurd (cc is)

pub returns-in_default-clause-empty : goal.returns-in_default-clause-empty
returns-in_default-clause-empty c empty =
    absurd (subst (λ (o : Option Cache). IsSomeAnd o HasNone) c.in_default.is empty.bundles)

pub returns-in-Some-clause-empty : goal.returns-in-Some-clause-empty
returns-in-Some-clause-empty c empty =
    let were = subst (λ (o : Option Cache). IsSomeAnd o HasNone) c.in-Some.is empty.bundles in
    let change = c.args.change.now in
    record {
      kept = no-levels c.touch.new.kept (c.touch.ensures.same ∙ ap (option_map kept_of) empty.kept);
      out = empty.out;
      bundles = (
        ap (λ b. b.items) c.mark_row-one.ensures.bundles ∙ were.0,
        c.mark_row-one.ensures.marks ∙ (λ i. marks_after change.logged.edit change.logged.old c.args.receiver.now (were.0 i) (were.1 i)),
        c.mark_row-one.ensures.order ∙ were.2,
      );
    }
