use Rattle.std.proofs.Common.{◌≡◌, ap, sym, ◌∙◌, arith, length, get_or, Some, List}
use Rattle.std.specs.Prelude.{map, slice_get}
use Rattle.map_board.specs.declared.rows.HeldRow.{HeldRow}
use Rattle.map_board.specs.Rows.{State, shown_of}
use Rattle.map_board.proofs.Places.{each-lengths, rows-lengths, shown-at}
use Rattle.map_board.proofs.state.Board.shown.Goals as goal

pub bounds-as_slice-row : goal.bounds-as_slice-row
bounds-as_slice-row c =
    let same = each-lengths c.self.inside.past c.self.inside.hold.scene.receivers c.self.inside.rows.items c.self.invariant.0.each in
    let rows = rows-lengths c.self.inside.past c.self.inside.hold.scene.receivers c.self.inside.rows.items c.self.invariant.0.each in
    omega (arith, same, rows, ap length c.as_slice.ensures, c.requires, ap (λ (s : State). length s.rows) c.self.view_is)

pub returns : goal.returns
returns c =
    let b = c.self.inside in
    let same = each-lengths b.past b.hold.scene.receivers b.rows.items c.self.invariant.0.each in
    let rows = rows-lengths b.past b.hold.scene.receivers b.rows.items c.self.invariant.0.each in
    let row = c.index-as_slice-row.result in
    let is : row ≡ get_or b.rows.items c.args.row row =
    c.index-as_slice-row.is ∙ ap (λ (hs : List HeldRow). get_or hs c.args.row row) c.as_slice.ensures in
    ap (λ (s : State). slice_get (map (shown_of s.journal) s.rows) c.args.row) (sym c.self.view_is)
    ∙ (shown-at b.past b.hold.scene.receivers b.rows.items c.args.row row c.self.invariant.0.each
    (omega (arith, same, rows, c.requires, ap (λ (s : State). length s.rows) c.self.view_is)) is
    ∙ ap (λ shown. Some shown) (sym c.shown.ensures))
