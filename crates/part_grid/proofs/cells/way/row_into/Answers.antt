use Rattle.std.proofs.Common.{max, min, arith, ap, ◌∙◌}
use Rattle.std.proofs.lemmas.Int.{ints}
use Rattle.scene_geom.proofs.Whole.{kept}
use Rattle.part_grid.specs.Ways.{nearest_line, northing_at}
use Rattle.part_grid.proofs.cells.way.row_into.Goals as goal

pub returns : goal.returns
returns c =
    c.max.ensures
    ∙ ap (max c.args.rows.low)
    (c.min.ensures ∙ ap (min c.args.rows.high)
    (c.nearest_line-line.ensures ∙ ap nearest_line
    (kept c.northing_at.result 10000000000000000000000004000000 c.northing_at.ensures.within (omega arith) ∙ c.northing_at.ensures.value
    ∙ ap (northing_at c.args.from c.args.dir) (omega (arith, ints, c.requires.column)))))
