use Rattle.std.proofs.Common.{◌≡◌, ◌∙◌, ap, sym, subst, refl, arith, true, false, length, Some}
use Rattle.std.specs.Prelude.{Option, IfSome, IsSomeAnd, slice_get}
use Rattle.std.proofs.lemmas.Option.{slice_get_read}
use Rattle.scene_parts.specs.Parts.{Receiver}
use Rattle.map_board.specs.declared.rows.HeldRow.{HeldRow}
use Rattle.map_board.specs.Boards.{row_of}
use Rattle.map_board.specs.inner.Boards.{RowHolds, IsEmpty}
use Rattle.map_board.specs.inner.Changes.{is_unnamed}
use Rattle.map_board.specs.inner.Paths.{kept_at, tests_to}
use Rattle.map_board.proofs.Carrying.{tested, placed-set, placed-same, item-holds, some-item, some-within, item-there}
use Rattle.map_board.proofs.Untouched.{stays-right}
use Rattle.map_board.proofs.edits.renewing.renew_at.Goals as goal
use Rattle.map_board.proofs.edits.renewing.renew_at.Goals.{After-names_receiver, After-index_mut}

-- the edit names the receiver or it doesn't
named : (c : After-names_receiver) → c.names_receiver.result ≡ true → is_unnamed c.args.change.now c.args.receiver.now ≡ false
named c is =
    tested c.args.change.now c.args.receiver.now c.items.result.now c.names_receiver.result true
    (c.items.ensures.value ∙ ap (λ (r : Receiver). r.name) c.receiver.view_is) c.names_receiver.ensures is

unnamed : (c : After-names_receiver) → c.names_receiver.result ≡ false → is_unnamed c.args.change.now c.args.receiver.now ≡ true
unnamed c is =
    tested c.args.change.now c.args.receiver.now c.items.result.now c.names_receiver.result false
    (c.items.ensures.value ∙ ap (λ (r : Receiver). r.name) c.receiver.view_is) c.names_receiver.ensures is

pub returns-then-names_receiver-clause-made : goal.returns-then-names_receiver-clause-made
returns-then-names_receiver-clause-made c =
    let named_is = named (goal.at.returns-then-names_receiver-clause-made c).After-names_receiver c.if-names_receiver.true in (
      c.fresh_row.result,
      c.put_at.ensures.items,
      record {
        anew = λ n. c.fresh_row.ensures;
        same = λ u. absurd (cc (u, named_is));
        holds = λ u. absurd (cc (u, named_is));
        empty = λ was. c.fresh_row.ensures.empty;
      },
    )

pub index_mut-requires : goal.index_mut-requires
index_mut-requires c =
    let unnamed_is = unnamed (goal.at.index_mut-requires c).After-names_receiver c.if-names_receiver.false in
    omega (arith, some-within (RowHolds c.args.change.now.past.value c.args.receiver.now) c.args.rows.now.items c.args.place (c.requires.there unnamed_is), c.args.rows.now.ok.0)

pub renew-requires-clause-holds : goal.renew-requires-clause-holds
renew-requires-clause-holds c =
    let unnamed_is = unnamed (goal.at.renew-requires-clause-holds c).After-names_receiver c.if-names_receiver.false in
    item-holds (RowHolds c.args.change.now.past.value c.args.receiver.now) c.args.rows.now.items c.args.place c.index_mut.result.now (c.requires.there unnamed_is) c.index_mut.ensures.value

pub renew-requires-clause-tests : goal.renew-requires-clause-tests
renew-requires-clause-tests c =
    let rows = c.args.rows.now.items in
    let change = c.args.change.now in
    let r = c.args.receiver.now in
    let unnamed_is = unnamed (goal.at.renew-requires-clause-tests c).After-names_receiver c.if-names_receiver.false in
    let below = some-within (RowHolds change.past.value r) rows c.args.place (c.requires.there unnamed_is) in
    let there : slice_get rows c.args.place ≡ Some c.index_mut.result.now =
    slice_get_read rows (length rows) c.args.place c.index_mut.result.now refl below c.index_mut.ensures.value in
    subst (λ (o : Option HeldRow). IfSome c.args.tests (λ t. t.now ≡ tests_to change.logged r (kept_at o))) there c.requires.tests

pub returns-then-not-changes_receivers_alone-clause-made : goal.returns-then-not-changes_receivers_alone-clause-made
returns-then-not-changes_receivers_alone-clause-made c =
    let rows = c.args.rows.now.items in
    let r = c.args.receiver.now in
    let unnamed_is = unnamed (goal.at.returns-then-not-changes_receivers_alone-clause-made c).After-names_receiver c.if-names_receiver.false in
    let below = some-within (RowHolds c.args.change.now.past.value r) rows c.args.place (c.requires.there unnamed_is) in (
      c.renew.new.row,
      placed-set c.args.place c.renew.new.row rows below,
      record {
        anew = λ n. absurd (cc (n, unnamed_is));
        same = λ u. item-there (λ (old : HeldRow). row_of r c.renew.new.row ≡ row_of r old) rows c.args.place c.index_mut.result.now below c.index_mut.ensures.value c.renew.ensures.row;
        holds = λ u. c.renew.ensures.holds;
        empty = λ was. c.renew.ensures.empty (subst (λ (o : Option HeldRow). IfSome o IsEmpty) (slice_get_read rows (length rows) c.args.place c.index_mut.result.now refl below c.index_mut.ensures.value) was);
      },
    )

pub returns-else-not-changes_receivers_alone-clause-made : goal.returns-else-not-changes_receivers_alone-clause-made
returns-else-not-changes_receivers_alone-clause-made c =
    let rows = c.args.rows.now.items in
    let r = c.args.receiver.now in
    let unnamed_is = unnamed (goal.at.returns-else-not-changes_receivers_alone-clause-made c).After-names_receiver c.if-names_receiver.false in
    let found = some-item (RowHolds c.args.change.now.past.value r) rows c.args.place (c.requires.there unnamed_is) in (
      found.item,
      placed-same c.args.place found.item rows found.there,
      record {
        anew = λ n. absurd (cc (n, unnamed_is));
        same = λ u. subst (λ o. IsSomeAnd o (λ (old : HeldRow). row_of r found.item ≡ row_of r old)) (sym found.there) refl;
        holds = λ u. stays-right c.args.change.now c.requires.change r unnamed_is (sym c.changes_receivers_alone.ensures ∙ c.if-not-changes_receivers_alone.false) found.item found.holds;
        empty = λ was. subst (λ (o : Option HeldRow). IfSome o IsEmpty) found.there was;
      },
    )
