use Rattle.std.proofs.Common.{◌≡◌, List, map, OnOk, ap, ◌∙◌, subst}
use Rattle.std.specs.List.{items_where_true}
use Rattle.part_grid.specs.declared.owned.Owned.{Owned}
use Rattle.part_grid.specs.Cells.{cells_meet_of}
use Rattle.part_grid.specs.Near.{sides_near}
use Rattle.part_grid.proofs.Gathering.{marked-by}
use Rattle.part_grid.proofs.grid.Grid.find_near.Goals as goal

pub returns-clause-found : goal.returns-clause-found
returns-clause-found c =
    let test = λ (owned : Owned). cells_meet_of owned.side c.args.p c.args.q in
    let sides = c.as_slice.result.now in
    let places : items_where_true c.mark_near.new.marks sides ≡ sides_near c.args.p c.args.q c.args.self.now =
    ap (λ marks. items_where_true marks sides) c.mark_near.ensures
    ∙ ap (λ (all : List Owned). items_where_true (map test c.args.self.now) all) (c.as_slice.ensures.value ∙ c.self.view_is)
    ∙ marked-by test c.args.self.now in
    subst (λ (found : List Owned). OnOk c.list_marked.result (c.list_marked.new.found.items ≡ found)) places c.list_marked.ensures.found
