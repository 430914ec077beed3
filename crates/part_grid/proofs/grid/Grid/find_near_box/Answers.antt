use Rattle.std.proofs.Common.{◌≡◌, List, map, OnOk, ap, ◌∙◌, subst}
use Rattle.std.specs.List.{items_where_true}
use Rattle.part_grid.specs.declared.owned.Owned.{Owned}
use Rattle.part_grid.specs.Cells.{boxes_meet}
use Rattle.part_grid.specs.Near.{sides_within}
use Rattle.part_grid.proofs.Gathering.{marked-by}
use Rattle.part_grid.proofs.grid.Grid.find_near_box.Goals as goal

pub returns-clause-found : goal.returns-clause-found
returns-clause-found c =
    let test = λ (owned : Owned). boxes_meet owned.side c.args.low c.args.high in
    let sides = c.as_slice.result.now in
    let places : items_where_true c.mark_box.new.marks sides ≡ sides_within c.args.low c.args.high c.args.self.now =
    ap (λ marks. items_where_true marks sides) c.mark_box.ensures
    ∙ ap (λ (all : List Owned). items_where_true (map test c.args.self.now) all) (c.as_slice.ensures.value ∙ c.self.view_is)
    ∙ marked-by test c.args.self.now in
    subst (λ (found : List Owned). OnOk c.list_marked.result (c.list_marked.new.found.items ≡ found)) places c.list_marked.ensures.found
