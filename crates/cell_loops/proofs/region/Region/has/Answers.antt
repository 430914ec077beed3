use Rattle.std.proofs.Common.{◌∙◌, ◌+◌, sym, ap}
use Rattle.cell_loops.specs.declared.kinds.Cell.TheVariants.{Above}
use Rattle.cell_loops.specs.Plane.{Plane, holds}
use Rattle.cell_loops.proofs.Outside.{holds-cell}
use Rattle.cell_loops.proofs.region.Region.has.Goals as goal

pub returns : goal.returns
returns c =
    let r = c.self.inside in
    c.bounds.ensures
    ∙ sym (holds-cell r.columns r.rows r.cells.now r.family c.args.column c.args.row Above c.if-column-self.false c.if-row-self.false c.self.invariant.whole)
    ∙ ap (λ (s : Plane). holds s (c.args.column + 1) (c.args.row + 1)) c.self.view_is
