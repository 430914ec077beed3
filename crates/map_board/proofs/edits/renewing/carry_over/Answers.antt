use Rattle.std.proofs.Common.{◌≡◌, ◌∙◌, ◌<◌, ℕ, ap, sym, subst, arith, length, List}
use Rattle.std.specs.Prelude.{slice_get, Some, Option, IfSome, IsSomeAnd}
use Rattle.scene_parts.specs.Parts.{Receiver}
use Rattle.map_board.specs.declared.rows.HeldRow.{HeldRow}
use Rattle.map_board.specs.Boards.{rows_of}
use Rattle.map_board.specs.inner.Boards.{EachHolds, EmptyFrom}
use Rattle.map_board.specs.inner.Changes.{scene_after, journal_after, removed_place, without_place, put_place, placed, HasRow, IsRowAfter}
use Rattle.map_board.proofs.Carrying.{left, gone-below, few-left, has-row, each-after, all-after}
use Rattle.map_board.proofs.Emptiness.{empty-without, empty-made}
use Rattle.map_board.proofs.OnePut.{place-upto, place-below, many as many-put, are as are-put}
use Rattle.map_board.proofs.edits.renewing.carry_over.Given.{Over}
use Rattle.map_board.proofs.edits.renewing.carry_over.Goals as goal
use Rattle.map_board.proofs.edits.renewing.carry_over.Goals.{After-drop_at, After-fresh_row, After-put_at, After-renew_each}

-- the rows that are left
left-are : (g : Over) (c : After-drop_at g) → c.drop_at.new.rows.items ≡ left c.args.change.now c.requires.change c.args.rows.now.items c.requires.apart c.requires.each
left-are g c = c.drop_at.ensures.items ∙ ap (λ (gone : Option ℕ). without_place gone c.args.rows.now.items) c.requires.gone

pub drop_at-requires : goal.drop_at-requires
drop_at-requires g c =
    subst (λ (gone : Option ℕ). IfSome gone (λ place. place < length c.args.rows.now.items)) (sym c.requires.gone)
    (gone-below c.args.change.now c.requires.change c.args.rows.now.items c.requires.apart c.requires.each)

-- ---- one receiver is put, and nothing else

found : (g : Over) (c : After-fresh_row g) → put_place c.args.change.now.logged.edit c.args.change.now.logged.old (scene_after c.args.change.now).receivers ≡ Some c.in-Some.place
found g c =
    ap (put_place c.args.change.now.logged.edit c.args.change.now.logged.old) (sym c.requires.news) ∙ (sym c.place_alone.ensures ∙ c.in-Some.is)

pub put_at-requires-clause-place : goal.put_at-requires-clause-place
put_at-requires-clause-place g c =
    let at = goal.at.put_at-requires-clause-place g c in
    omega (
      arith,
      ap length (left-are g at.After-drop_at),
      place-upto c.args.change.now c.requires.change c.args.rows.now.items c.requires.apart c.requires.each c.in-Some.place (found g c),
    )

pub put_at-requires-clause-room : goal.put_at-requires-clause-room
put_at-requires-clause-room g c =
    omega (
      arith,
      ap length c.requires.news,
      c.requires.room,
      c.drop_at.ensures.room,
      place-below c.args.change.now c.requires.change c.args.rows.now.items c.requires.apart c.requires.each c.in-Some.place (found g c),
    )

put-is : (g : Over) (c : After-put_at g) → c.put_at.new.rows.items ≡ placed c.in-Some.place c.fresh_row.result (left c.args.change.now c.requires.change c.args.rows.now.items c.requires.apart c.requires.each)
put-is g c =
    c.put_at.ensures.items
    ∙ ap (placed c.in-Some.place c.fresh_row.result)
    (c.drop_at.ensures.items ∙ ap (λ (gone : Option ℕ). without_place gone c.args.rows.now.items) c.requires.gone)

pub returns-in-Some-clause-each : goal.returns-in-Some-clause-each
returns-in-Some-clause-each g c =
    let place = found g (goal.at.returns-in-Some-clause-each g c).After-fresh_row in
    let change = c.args.change.now in
    let rows = c.args.rows.now.items in
    subst (λ (x : List Receiver × List HeldRow). EachHolds (journal_after change) x.0 x.1) (λ i. (sym c.requires.news i, sym (put-is g c) i))
    (each-after change c.requires.change rows c.requires.apart c.requires.each (placed c.in-Some.place c.fresh_row.result (left change c.requires.change rows c.requires.apart c.requires.each))
    (many-put change c.requires.change rows c.requires.apart c.requires.each c.in-Some.place place c.fresh_row.result c.fresh_row.ensures)
    (are-put change c.requires.change rows c.requires.apart c.requires.each c.in-Some.place place c.fresh_row.result c.fresh_row.ensures))

pub returns-in-Some-clause-rows : goal.returns-in-Some-clause-rows
returns-in-Some-clause-rows g c =
    let place = found g (goal.at.returns-in-Some-clause-rows g c).After-fresh_row in
    let change = c.args.change.now in
    let rows = c.args.rows.now.items in
    (λ i. rows_of (c.requires.news i) (put-is g c i))
    ∙ all-after change c.requires.change rows c.requires.apart c.requires.each (placed c.in-Some.place c.fresh_row.result (left change c.requires.change rows c.requires.apart c.requires.each))
    (many-put change c.requires.change rows c.requires.apart c.requires.each c.in-Some.place place c.fresh_row.result c.fresh_row.ensures)
    (are-put change c.requires.change rows c.requires.apart c.requires.each c.in-Some.place place c.fresh_row.result c.fresh_row.ensures)

-- ---- any other edit

pub renew_each-requires-clause-few : goal.renew_each-requires-clause-few
renew_each-requires-clause-few g c =
    let are = left-are g (goal.at.renew_each-requires-clause-few g c).After-drop_at in
    omega (
      arith,
      ap length are,
      ap length c.receivers.ensures.value,
      ap length c.requires.news,
      few-left c.args.change.now c.requires.change c.args.rows.now.items c.requires.apart c.requires.each,
    )

pub renew_each-requires-clause-there : goal.renew_each-requires-clause-there
renew_each-requires-clause-there g c k r at =
    let are = left-are g (goal.at.renew_each-requires-clause-there g c).After-drop_at in
    subst (λ (hs : List HeldRow). HasRow c.args.change.now r (slice_get hs k)) (sym are)
    (has-row c.args.change.now c.requires.change c.args.rows.now.items c.requires.apart c.requires.each k r
    (ap (λ (rs : List Receiver). slice_get rs k) (sym (c.receivers.ensures.value ∙ c.requires.news)) ∙ at))

many : (g : Over) (c : After-renew_each g) → length c.renew_each.new.rows.items ≡ length (scene_after c.args.change.now).receivers
many g c = c.renew_each.ensures.count ∙ ap length (c.receivers.ensures.value ∙ c.requires.news)

are-after : (g : Over) (c : After-renew_each g) (k : ℕ) (r : Receiver) → slice_get (scene_after c.args.change.now).receivers k ≡ Some r
    → IsSomeAnd (slice_get c.renew_each.new.rows.items k)
    (IsRowAfter c.args.change.now r (slice_get (left c.args.change.now c.requires.change c.args.rows.now.items c.requires.apart c.requires.each) k))
are-after g c k r at =
    subst (λ (hs : List HeldRow). IsSomeAnd (slice_get c.renew_each.new.rows.items k) (IsRowAfter c.args.change.now r (slice_get hs k)))
    (c.drop_at.ensures.items ∙ ap (λ (gone : Option ℕ). without_place gone c.args.rows.now.items) c.requires.gone)
    (c.renew_each.ensures.each k r (ap (λ (rs : List Receiver). slice_get rs k) (c.receivers.ensures.value ∙ c.requires.news) ∙ at))

pub returns-in-None-clause-each : goal.returns-in-None-clause-each
returns-in-None-clause-each g c =
    subst (λ (rs : List Receiver). EachHolds (journal_after c.args.change.now) rs c.renew_each.new.rows.items) (sym c.requires.news)
    (each-after c.args.change.now c.requires.change c.args.rows.now.items c.requires.apart c.requires.each c.renew_each.new.rows.items (many g c) (are-after g c))

pub returns-in-None-clause-rows : goal.returns-in-None-clause-rows
returns-in-None-clause-rows g c =
    ap (λ (rs : List Receiver). rows_of rs c.renew_each.new.rows.items) c.requires.news
    ∙ all-after c.args.change.now c.requires.change c.args.rows.now.items c.requires.apart c.requires.each c.renew_each.new.rows.items (many g c) (are-after g c)

-- ---- empty rows

left-empty : (g : Over) (c : After-drop_at g) → EmptyFrom c.args.empty_from (left c.args.change.now c.requires.change c.args.rows.now.items c.requires.apart c.requires.each)
left-empty g c = empty-without c.args.empty_from (removed_place c.args.change.now) c.args.rows.now.items c.requires.empty

pub renew_each-requires-clause-empty : goal.renew_each-requires-clause-empty
renew_each-requires-clause-empty g c =
    let at = (goal.at.renew_each-requires-clause-empty g c).After-drop_at in
    subst (EmptyFrom c.args.empty_from) (sym (left-are g at)) (left-empty g at)

pub returns-in-Some-clause-empty : goal.returns-in-Some-clause-empty
returns-in-Some-clause-empty g c =
    let at = goal.at.returns-in-Some-clause-empty g c in
    let place = found g at.After-fresh_row in
    let change = c.args.change.now in
    let rows = c.args.rows.now.items in
    let before = left change c.requires.change rows c.requires.apart c.requires.each in
    subst (EmptyFrom c.args.empty_from) (sym (put-is g c))
    (empty-made change (scene_after change).receivers before (placed c.in-Some.place c.fresh_row.result before) c.args.empty_from (left-empty g at.After-drop_at)
    (many-put change c.requires.change rows c.requires.apart c.requires.each c.in-Some.place place c.fresh_row.result c.fresh_row.ensures)
    (are-put change c.requires.change rows c.requires.apart c.requires.each c.in-Some.place place c.fresh_row.result c.fresh_row.ensures))

pub returns-in-None-clause-empty : goal.returns-in-None-clause-empty
returns-in-None-clause-empty g c =
    let at = goal.at.returns-in-None-clause-empty g c in
    let change = c.args.change.now in
    empty-made change (scene_after change).receivers (left change c.requires.change c.args.rows.now.items c.requires.apart c.requires.each) c.renew_each.new.rows.items
    c.args.empty_from (left-empty g at.After-drop_at) (many g c) (are-after g c)
