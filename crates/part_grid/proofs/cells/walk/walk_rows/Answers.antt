use Rattle.std.proofs.Common.{◌∙◌, ap, sym, min, max, ◌*◌, ◌+◌}
use Rattle.part_grid.specs.Cells.{from_edge}
use Rattle.part_grid.proofs.Walks.{slanted-rows}
use Rattle.part_grid.proofs.cells.walk.walk_rows.Goals as goal

pub returns : goal.returns
returns c =
    let from = c.easting-from.ensures.value in let to = c.easting-to.ensures.value in
    let least = c.min.ensures ∙ ap (λ x. min x c.easting-to.result) from ∙ ap (min (from_edge c.args.p.x)) to in
    let greatest = c.max.ensures ∙ ap (λ x. max x c.easting-to.result) from ∙ ap (max (from_edge c.args.p.x)) to in
    slanted-rows c.args.p c.args.q c.args.column c.max-west.result c.min-east.result c.row_at.result c.row_at-2.result c.between.result
    (λ e. c.if-from-to.false (from ∙ e ∙ sym to)) (c.max-west.ensures ∙ ap (λ x. max x (c.args.column * 65536)) least) (c.min-east.ensures ∙ ap (λ x. min x ((c.args.column + 1) * 65536)) greatest)
    c.row_at.ensures c.row_at-2.ensures c.between.ensures
