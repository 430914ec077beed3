use Rattle.std.proofs.Common.{◌≡◌, ap, sym, ◌∙◌, arith, Some}
use Rattle.std.specs.Prelude.{slice_get, slice_set, Vec}
use Rattle.std.specs.declared.alloc.Global.{Global}
use Rattle.std.proofs.lemmas.Option.{get_or_from_slice_get}
use Rattle.map_board.specs.declared.rows.HeldRow.{HeldRow}
use Rattle.map_board.specs.inner.Boards.{is_held_needy, row_out}
use Rattle.map_board.proofs.Needy.{none-put, out-rests}
use Rattle.map_board.proofs.Emptiness.{empty-set, empty-later}
use Rattle.map_board.proofs.rows.held_rows.HeldRows.take_row.Goals as goal
use Rattle.map_board.proofs.rows.held_rows.HeldRows.take_row.Goals.{After-index_mut}

-- the row at the place
item : (c : After-index_mut) (held : HeldRow) → slice_get c.args.self.now.items c.args.place ≡ Some held → c.index_mut.result.now ≡ held
item c held there =
    c.index_mut.ensures.value
    ∙ get_or_from_slice_get c.self.inside.rows.items c.args.place held c.index_mut.result.now
    (ap (λ (rows : Vec HeldRow Global). slice_get rows.items c.args.place) c.self.view_is ∙ there)

pub invariant_of-self : goal.invariant_of-self
invariant_of-self c =
    let rows = c.self.inside.rows.items in (
      none-put is_held_needy rows c.self.inside.passed c.args.place c.take_row.new.row
          (ap is_held_needy c.take_row.ensures.row ∙ out-rests c.args.version c.index_mut.result.now) c.self.invariant.0,
      empty-set c.max-self-inside.result c.args.place c.take_row.new.row rows (omega (arith, c.max-self-inside.ensures))
          (empty-later c.self.inside.empty_from c.max-self-inside.result rows (omega (arith, c.max-self-inside.ensures)) c.self.invariant.1),
    )

pub returns-clause-cache : goal.returns-clause-cache
returns-clause-cache c held there =
    ap (λ (h : HeldRow). h.cache) (sym (item (goal.at.returns-clause-cache c).After-index_mut held there)) ∙ c.take_row.ensures.cache

pub returns-clause-rows : goal.returns-clause-rows
returns-clause-rows c held there =
    let new = c.take_row.ensures.row ∙ ap (row_out c.args.version) (item (goal.at.returns-clause-rows c).After-index_mut held there) in
    λ i. slice_set (c.self.view_is i).items c.args.place (new i)
