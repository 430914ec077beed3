use Rattle.std.proofs.Common.{ap, sym, ◌∙◌, subst}
use Rattle.command_lines.specs.Views.{Contour}
use Rattle.cell_loops.specs.declared.kinds.Family.TheVariants.{Inner, Outer}
use Rattle.cell_loops.specs.Steps.{IsGrid}
use Rattle.level_contours.specs.Looking.{cells_of}
use Rattle.noise_map.proofs.Contours.{cells-grid, loops-are, rows-are}
use Rattle.noise_map.proofs.lines.contours.contour_texts.Goals as goal

pub loops-requires : goal.loops-requires
loops-requires c =
    let view : Contour = record { name = c.contour.inside.name; level = c.contour.inside.level; columns = c.contour.inside.columns; rows = c.contour.inside.rows } in
    subst (IsGrid c.contour.inside.columns c.contour.inside.rows) (ap (cells_of c.args.look.now) c.contour.view_is ∙ sym c.in_ok-cells.ensures) (cells-grid c.args.look.now view c.contour.invariant)

pub loops-requires-2 : goal.loops-requires-2
loops-requires-2 c =
    let view : Contour = record { name = c.contour.inside.name; level = c.contour.inside.level; columns = c.contour.inside.columns; rows = c.contour.inside.rows } in
    subst (IsGrid c.contour.inside.columns c.contour.inside.rows) (ap (cells_of c.args.look.now) c.contour.view_is ∙ sym c.in_ok-cells.ensures) (cells-grid c.args.look.now view c.contour.invariant)

pub returns : goal.returns
returns c =
    let view : Contour = record { name = c.contour.inside.name; level = c.contour.inside.level; columns = c.contour.inside.columns; rows = c.contour.inside.rows } in
    let look = c.args.look.now in
    rows-are look c.args.contour.now c.in_ok-inner.inner c.in_ok-outer.outer c.row_texts.result
    (loops-are look c.args.contour.now view c.in_ok-cells.cells Inner c.in_ok-inner.inner c.contour.view_is c.in_ok-cells.ensures c.in_ok-inner.ensures.loops)
    (loops-are look c.args.contour.now view c.in_ok-cells.cells Outer c.in_ok-outer.outer c.contour.view_is c.in_ok-cells.ensures c.in_ok-outer.ensures.loops)
    c.row_texts.ensures
