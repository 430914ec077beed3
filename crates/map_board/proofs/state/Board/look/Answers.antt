use Rattle.std.proofs.Common.{◌≡◌, ◌∙◌, ap, sym, refl, length, map}
use Rattle.map_board.specs.Rows.{State}
use Rattle.map_board.specs.inner.Boards.{held_looks}
use Rattle.map_board.specs.Machine.{look_row}
use Rattle.map_board.proofs.Places.{each-lengths}
use Rattle.map_board.proofs.SeenRows.{looks-are}
use Rattle.map_board.proofs.state.Board.look.Goals as goal

pub look_at_each-requires : goal.look_at_each-requires
look_at_each-requires c =
    let b = c.self.inside in
    let receivers : c.receivers.result.now ≡ b.hold.scene.receivers = c.receivers.ensures.value in
    ap length c.as_slice.ensures
    ∙ (each-lengths b.past b.hold.scene.receivers b.rows.items c.self.invariant.0.each ∙ sym (ap length receivers))

pub returns : goal.returns
returns c =
    let b = c.self.inside in
    let receivers : c.receivers.result.now ≡ b.hold.scene.receivers = c.receivers.ensures.value in
    let rows =
    c.from_vec.ensures
    ∙ (c.in_ok-rows.ensures
    ∙ ((λ i. held_looks (receivers i) (c.as_slice.ensures i))
    ∙ looks-are b.past b.hold.scene.receivers b.rows.items c.self.invariant.0.each)) in
    let all : c.from_vec.result ≡ map (look_row c.args.self.now.journal) c.args.self.now.rows =
    rows ∙ ap (λ (s : State). map (look_row s.journal) s.rows) c.self.view_is in
    let version : b.version ≡ length c.args.self.now.journal = c.self.invariant.0.newest ∙ ap (λ (s : State). length s.journal) c.self.view_is in
    (λ i. record { version = version i; rows = all i; counts = c.counts.ensures i }, refl)
