use Rattle.std.proofs.Common.{ap, sym, ◌∙◌}
use Rattle.std.specs.Prelude.{not}
use Rattle.std.specs.List.{list_any}
use Rattle.map_board.specs.Rows.{State}
use Rattle.map_board.specs.Boards.{is_unsettled}
use Rattle.map_board.specs.inner.Boards.{is_held_unsettled}
use Rattle.map_board.proofs.Places.{any-unsettled}
use Rattle.map_board.proofs.state.Board.settled.Goals as goal

pub returns : goal.returns
returns c =
    ap not (c.is_any_unsettled.ensures
    ∙ (ap (list_any is_held_unsettled) c.as_slice.ensures
    ∙ (sym (any-unsettled c.self.inside.past c.self.inside.hold.scene.receivers c.self.inside.rows.items c.self.invariant.0.each)
    ∙ ap (λ (s : State). list_any (is_unsettled s.journal) s.rows) c.self.view_is)))
