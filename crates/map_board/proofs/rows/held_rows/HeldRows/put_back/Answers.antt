use Rattle.std.proofs.Common.{ap, ◌∙◌, arith}
use Rattle.std.specs.Prelude.{slice_get, slice_set, Vec}
use Rattle.std.specs.declared.alloc.Global.{Global}
use Rattle.std.proofs.lemmas.Option.{get_or_from_slice_get}
use Rattle.map_board.specs.declared.rows.HeldRow.{HeldRow}
use Rattle.map_board.specs.inner.Back.{held_with}
use Rattle.map_board.specs.inner.Boards.{is_held_needy}
use Rattle.map_board.proofs.Needy.{none-put-past}
use Rattle.map_board.proofs.Emptiness.{empty-set, empty-later}
use Rattle.map_board.proofs.rows.held_rows.HeldRows.put_back.Goals as goal

pub invariant_of-self : goal.invariant_of-self
invariant_of-self c =
    let rows = c.self.inside.rows.items in (
      none-put-past is_held_needy rows c.min-self-inside.result c.self.inside.passed c.args.place c.put_back.new.row
          (omega (arith, c.min-self-inside.ensures)) (omega (arith, c.min-self-inside.ensures)) c.self.invariant.0,
      empty-set c.max-self-inside.result c.args.place c.put_back.new.row rows (omega (arith, c.max-self-inside.ensures))
          (empty-later c.self.inside.empty_from c.max-self-inside.result rows (omega (arith, c.max-self-inside.ensures)) c.self.invariant.1),
    )

pub returns : goal.returns
returns c held there =
    let item = c.index_mut.ensures.value
    ∙ get_or_from_slice_get c.self.inside.rows.items c.args.place held c.index_mut.result.now
    (ap (λ (rows : Vec HeldRow Global). slice_get rows.items c.args.place) c.self.view_is ∙ there) in
    let new = c.put_back.ensures ∙ ap (held_with c.args.back) item in
    λ i. slice_set (c.self.view_is i).items c.args.place (new i)
