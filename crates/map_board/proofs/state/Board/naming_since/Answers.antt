use Rattle.std.proofs.Common.{◌∙◌, ap}
use Rattle.map_board.specs.inner.FirstNaming.{first_noted}
use Rattle.map_board.specs.Journal.{first_naming}
use Rattle.map_board.specs.Rows.{State}
use Rattle.map_board.proofs.Noting.{noted-first}
use Rattle.map_board.proofs.state.Board.naming_since.Goals as goal

pub returns : goal.returns
returns c =
    let version = c.args.version in
    let name = c.args.name.now in
    c.first_naming.ensures
    ∙ (ap (first_noted version name) (c.as_slice.ensures.value ∙ c.self.invariant.0.named)
    ∙ (noted-first c.self.inside.past version name ∙ ap (λ (s : State). first_naming s.journal version name) c.self.view_is))
