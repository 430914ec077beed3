use Rattle.std.proofs.Common.{ap, ◌∙◌}
use Rattle.std.specs.Prelude.{bytes_eq}
use Rattle.std.specs.List.{list_any}
use Rattle.scene_parts.specs.Parts.{Receiver, Grid}
use Rattle.scene_book.specs.Grid.{receivers_of}
use Rattle.touch_test.proofs.Receivers.{puts-none, puts-some}
use Rattle.touch_test.proofs.grids.puts.Goals as goal

pub returns-in-None : goal.returns-in-None
returns-in-None c =
    puts-none (record { name = c.grid.inside.name; at = c.grid.inside.at; step = c.grid.inside.step; columns = c.grid.inside.columns; rows = c.grid.inside.rows; h = c.grid.inside.h })
    c.args.name.now c.items.result.now c.items.ensures.value c.in-None.ensures.cases
    ∙ ap (λ (grid : Grid). list_any (λ (receiver : Receiver). bytes_eq receiver.name c.args.name.now) (receivers_of grid)) c.grid.view_is

pub returns-in-Some : goal.returns-in-Some
returns-in-Some c =
    puts-some (record { name = c.grid.inside.name; at = c.grid.inside.at; step = c.grid.inside.step; columns = c.grid.inside.columns; rows = c.grid.inside.rows; h = c.grid.inside.h })
    c.args.name.now c.items.result.now c.in-Some.rest.now c.is_place.result c.items.ensures.value c.in-Some.ensures.cases.0 c.in-Some.ensures.cases.1 c.is_place.ensures
    ∙ ap (λ (grid : Grid). list_any (λ (receiver : Receiver). bytes_eq receiver.name c.args.name.now) (receivers_of grid)) c.grid.view_is
