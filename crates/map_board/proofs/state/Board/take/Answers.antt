use Rattle.std.proofs.Common.{◌≡◌, ap, sym, ◌∙◌, subst, refl, arith, length, List}
use Rattle.std.specs.Prelude.{count_by, Vec}
use Rattle.std.specs.declared.alloc.Global.{Global}
use Rattle.map_board.specs.declared.rows.HeldRow.{HeldRow}
use Rattle.map_board.specs.Rows.{State}
use Rattle.map_board.specs.Machine.{TakesJob}
use Rattle.map_board.specs.Boards.{rows_of, counts_of}
use Rattle.map_board.specs.inner.Boards.{is_held_out, EachHolds, IsNeedyAt}
use Rattle.map_board.proofs.Places.{each-lengths}
use Rattle.map_board.proofs.Taking.{needy-seen, idle-seen}
use Rattle.map_board.proofs.state.Board.take.Goals as goal
use Rattle.map_board.proofs.state.Board.take.Goals.{After-first_needy}

-- contracts see the same board after the search
seen-after : (c : After-first_needy) → record { journal = c.self.inside.past; rows = rows_of c.self.inside.hold.scene.receivers c.first_needy.new.self.items; finished = c.self.inside.finished; counts = counts_of c.self.inside.counts }
    ≡ c.args.self.now
seen-after c =
    let b = c.self.inside in
    ap (λ (hs : List HeldRow). record { journal = b.past; rows = rows_of b.hold.scene.receivers hs; finished = b.finished; counts = counts_of b.counts }) (ap (λ (rows : Vec HeldRow Global). rows.items) c.first_needy.ensures.same)
    ∙ c.self.view_is

pub take_at-requires-clause-needy : goal.take_at-requires-clause-needy
take_at-requires-clause-needy c =
    let b = c.self.inside in
    needy-seen b.past b.hold.scene.receivers c.first_needy.new.self.items b.finished b.counts
    (record { journal = b.past; rows = rows_of b.hold.scene.receivers c.first_needy.new.self.items; finished = b.finished; counts = counts_of b.counts }) c.in-Some.place refl
    (subst (EachHolds b.past b.hold.scene.receivers) (sym (ap (λ (rows : Vec HeldRow Global). rows.items) c.first_needy.ensures.same)) c.self.invariant.0.each)
    (subst (λ (hs : List HeldRow). IsNeedyAt hs c.in-Some.place) (sym (ap (λ (rows : Vec HeldRow Global). rows.items) c.first_needy.ensures.same)) c.in-Some.ensures.some)

pub returns-in-Some : goal.returns-in-Some
returns-in-Some c =
    subst (λ (s : State). TakesJob s c.take_at.result c.take_at.new.self) (seen-after (goal.at.returns-in-Some c).After-first_needy) c.take_at.ensures

pub count_out-requires : goal.count_out-requires
count_out-requires c =
    let b = c.self.inside in
    let same = each-lengths b.past b.hold.scene.receivers b.rows.items c.self.invariant.0.each in
    omega (arith, ap length (c.as_slice.ensures ∙ (ap (λ (rows : Vec HeldRow Global). rows.items) c.first_needy.ensures.same)), same, c.self.invariant.0.few)

pub returns-in-None : goal.returns-in-None
returns-in-None c =
    let b = c.self.inside in (
      idle-seen b.past b.hold.scene.receivers b.rows.items b.finished b.counts c.args.self.now c.count_out.result c.self.view_is c.self.invariant.0.each
          c.if-self.false c.in-None.ensures.none
          (c.count_out.ensures ∙ ap (count_by is_held_out) (c.as_slice.ensures ∙ (ap (λ (rows : Vec HeldRow Global). rows.items) c.first_needy.ensures.same))),
      seen-after (goal.at.returns-in-None c).After-first_needy,
    )
