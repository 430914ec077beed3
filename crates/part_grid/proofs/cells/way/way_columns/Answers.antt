use Rattle.std.proofs.Common.{◌/◌, ap, ◌∙◌, arith}
use Rattle.scene_geom.proofs.Whole.{kept}
use Rattle.part_grid.specs.Span.{between}
use Rattle.part_grid.specs.Cells.{line_of}
use Rattle.part_grid.specs.Ways.{nearest_line}
use Rattle.part_grid.proofs.Reading.{end-same, coordinate-kept}
use Rattle.part_grid.proofs.cells.way.way_columns.Goals as goal

pub returns : goal.returns
returns c =
    let p = c.args.from in let dir = c.args.dir in
    c.between.ensures ∙ ap (λ west. between (west / 65536) c.nearest_line-last.result) c.easting.ensures.value
    ∙ ap (between (line_of p.x))
    (c.nearest_line-last.ensures ∙ ap nearest_line
    (kept c.end_at.result 10000000000000000000000004000000 c.end_at.ensures.within (omega arith) ∙ c.end_at.ensures.value
    ∙ end-same _ p.x _ dir.x _ dir.w c.args.end (coordinate-kept p.x p.x_in_plan) (kept dir.x 2110000000000000000 c.requires.dir.x_within (omega arith)) (kept dir.w 68718952449 c.requires.dir.w_within (omega arith))))
