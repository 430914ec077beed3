use Rattle.std.proofs.Common.{ap, arith, length}
use Rattle.map_board.specs.Rows.{State}
use Rattle.map_board.proofs.Places.{each-lengths, rows-lengths}
use Rattle.map_board.proofs.state.Board.rows.Goals as goal

pub overflow_cast-result : goal.overflow_cast-result
overflow_cast-result c =
    let same = each-lengths c.self.inside.past c.self.inside.hold.scene.receivers c.self.inside.rows.items c.self.invariant.0.each in
    omega (arith, same, c.self.invariant.0.few, ap length c.as_slice.ensures)

pub returns : goal.returns
returns c =
    let same = each-lengths c.self.inside.past c.self.inside.hold.scene.receivers c.self.inside.rows.items c.self.invariant.0.each in
    let rows = rows-lengths c.self.inside.past c.self.inside.hold.scene.receivers c.self.inside.rows.items c.self.invariant.0.each in
    omega (arith, same, rows, ap length c.as_slice.ensures, ap (λ (s : State). length s.rows) c.self.view_is)
