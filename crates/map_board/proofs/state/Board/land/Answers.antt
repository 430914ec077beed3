use Rattle.std.proofs.Common.{◌≡◌, ◌∙◌, sym, subst, ap, Some, List}
use Rattle.std.specs.Prelude.{slice_get}
use Rattle.map_board.specs.declared.rows.HeldRow.{HeldRow}
use Rattle.map_board.specs.Rows.{State, with_row}
use Rattle.map_board.specs.inner.Back.{row_with, SuitsAt}
use Rattle.map_board.specs.Boards.{rows_of}
use Rattle.map_board.specs.inner.Boards.{IsBoard}
use Rattle.map_board.proofs.Landings.{seen, at, place-below, board-with, rows-with}
use Rattle.map_board.proofs.state.Board.land.Goals as goal
use Rattle.map_board.proofs.state.Board.land.Goals.{After-self}

suits : (c : After-self) → SuitsAt (seen c.self.inside) c.args.place c.args.back
suits c = subst (λ (s : State). SuitsAt s c.args.place c.args.back) (sym c.self.view_is) c.requires

pub put_back-requires : goal.put_back-requires
put_back-requires c =
    place-below c.self.inside c.self.invariant.0 c.args.place c.args.back (suits (goal.at.put_back-requires c).After-self)

pub invariant_of-self : goal.invariant_of-self
invariant_of-self c =
    let b = c.self.inside in
    let suited = suits (goal.at.invariant_of-self c).After-self in
    let there = at b c.self.invariant.0 c.args.place c.args.back suited in (
      subst (λ (hs : List HeldRow). IsBoard b.version b.past b.hold.scene hs b.log b.namings.items)
          (sym (c.put_back.ensures there.held there.there)) (board-with b c.self.invariant.0 c.args.place c.args.back suited),
      c.self.invariant.1,
    )

pub returns : goal.returns
returns c row there =
    let b = c.self.inside in
    let suited = suits (goal.at.returns c).After-self in
    let found = at b c.self.invariant.0 c.args.place c.args.back suited in
    ap (λ (hs : List HeldRow). record (seen b) { rows = rows_of b.hold.scene.receivers hs }) (c.put_back.ensures found.held found.there)
    ∙ (rows-with b c.self.invariant.0 c.args.place c.args.back suited row
    (subst (λ (s : State). slice_get s.rows c.args.place ≡ Some row) (sym c.self.view_is) there)
    ∙ ap (λ (s : State). record s { rows = with_row row.receiver.name (row_with c.args.back.kept) s.rows }) c.self.view_is)
