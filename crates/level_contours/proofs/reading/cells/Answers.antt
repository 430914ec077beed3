use Rattle.std.proofs.Common.{◌∙◌, ap, List}
use Rattle.std.specs.Prelude.{Option, unwrap_or, option_map}
use Rattle.fix_interval.specs.Interval.{Interval, All}
use Rattle.map_board.specs.declared.looks.LookRow.{LookRow}
use Rattle.scene_book.specs.Lists.{named}
use Rattle.level_contours.specs.Comparing.{cell_of}
use Rattle.level_contours.specs.GridNames.{names_of}
use Rattle.level_contours.specs.Looking.{known_total, total_of}
use Rattle.level_contours.specs.inner.Filing.{cell_found}
use Rattle.level_contours.proofs.Found.{map-agree}
use Rattle.level_contours.proofs.reading.cells.Goals as goal

pub returns : goal.returns
unfolding cell_found
returns c =
    let level = c.args.spec.now.level in
    c.from_vec.ensures ∙ c.in_ok-cells.ensures
    ∙ map-agree (cell_found c.in_ok-known.known.entries level) (λ name. cell_of (total_of c.args.look.now.rows name) level)
    (λ name. ap (λ (o : Option Interval). cell_of (unwrap_or o All) level)
    (c.in_ok-known.ensures name ∙ ap (λ (rows : List LookRow). option_map (λ (row : LookRow). known_total row.shown) (named (λ (row : LookRow). row.name) name rows)) c.items.ensures))
    (names_of c.args.spec.now)
