use Rattle.std.proofs.Common.{◌≡◌, List, map, OnOk, ap, ◌∙◌, subst}
use Rattle.std.specs.List.{items_where_true}
use Rattle.part_grid.specs.declared.owned.Owned.{Owned}
use Rattle.part_grid.specs.Ways.{cells_meet_way, sides_near_way}
use Rattle.part_grid.proofs.Gathering.{marked-by}
use Rattle.part_grid.proofs.grid.Grid.find_near_way.Goals as goal

pub returns-clause-found : goal.returns-clause-found
returns-clause-found c =
    let test = λ (owned : Owned). cells_meet_way owned.side c.args.from c.args.dir c.args.end in
    let sides = c.as_slice.result.now in
    let places : items_where_true c.mark_way.new.marks sides ≡ sides_near_way c.args.from c.args.dir c.args.end c.args.self.now =
    ap (λ marks. items_where_true marks sides) c.mark_way.ensures
    ∙ ap (λ (all : List Owned). items_where_true (map test c.args.self.now) all) (c.as_slice.ensures.value ∙ c.self.view_is)
    ∙ marked-by test c.args.self.now in
    subst (λ (found : List Owned). OnOk c.list_marked.result (c.list_marked.new.found.items ≡ found)) places c.list_marked.ensures.found
