use Rattle.std.proofs.Common.{◌≡◌, ℕ, ◌+◌, ◌-◌, ◌≤◌, sym, ap, ◌∙◌, subst, arith, length, add-one, drop, List, [], ◌∷◌, ◌++◌, Ok}
use Rattle.std.specs.Prelude.{All}
use Rattle.std.proofs.lemmas.List.{length_push}
use Rattle.scene_parts.specs.Parts.{Receiver}
use Rattle.scene_book.specs.Book.{most_receivers}
use Rattle.scene_book.specs.Applying.{apply_of}
use Rattle.scene_book.specs.declared.edits.Edit.{Edit}
use Rattle.map_board.specs.Journal.{newest_scene}
use Rattle.map_board.specs.inner.Namings.{noted}
use Rattle.map_board.specs.inner.Boards.{IsOutSince, EachHolds, IsBoard}
use Rattle.map_board.specs.inner.Standing.{NamesStand}
use Rattle.map_board.specs.inner.Changes.{most_more}
use Rattle.map_board.proofs.Ordered.{names-after}
use Rattle.map_board.proofs.Places.{each-lengths}
use Rattle.map_board.proofs.Receivers.{accepted-fine}
use Rattle.map_board.proofs.Staying.{receivers_after, accepted-receivers, added-few}
use Rattle.map_board.proofs.BoardAfter.{outs-stay, log-count, board-after}
use Rattle.map_board.proofs.state.Board.carry_out.Given.{Over}
use Rattle.map_board.proofs.state.Board.carry_out.Goals as goal
use Rattle.map_board.proofs.state.Board.carry_out.Goals.{After-least_out}

-- the log begins no later than the least version that is out
least : (g : Over) (c : After-least_out g) → c.self.inside.log.start ≤ c.least_out.result
least g c =
    let b = c.self.inside in
    let e = c.args.edit in
    let journal = c.of.result.value in
    let rows = subst (All (IsOutSince b.log.start)) (sym c.make_room.ensures.same) c.self.invariant.0.reaches in
    let outs = outs-stay b.log.start e journal (journal ++ e ∷ []) (newest_scene journal).receivers c.apply.new.hold.scene.receivers c.make_room.new.rows.items c.carry_over.new.self.items
    rows c.carry_over.ensures.each c.carry_over.ensures.rows in
    c.least_out.ensures.start b.log.start (omega (arith, c.self.invariant.0.logged.past, c.self.invariant.0.newest)) outs

pub carry_over-requires-clause-room : goal.carry_over-requires-clause-room
carry_over-requires-clause-room g c =
    let b = c.self.inside in
    let e = c.args.edit in
    let old = c.in_ok-applied.applied.old in
    let olds = b.hold.scene.receivers in
    let after = c.apply.new.hold.scene in
    let are : after.receivers ≡ receivers_after e old olds = accepted-receivers e b.hold.scene after old c.in_ok-applied.ensures.made in
    let fine = accepted-fine e b.hold.scene after old c.in_ok-applied.ensures.made (record { apart = c.self.invariant.0.apart; few = c.self.invariant.0.few }) in
    let count = each-lengths b.past olds b.rows.items c.self.invariant.0.each in
    let added = added-few e old olds (subst (λ (rs : List Receiver). length rs ≤ most_receivers) are fine.few) c.self.invariant.0.few in
    let more : most_more e (length b.rows.items) ≡ most_more e (length olds) = ap (most_more e) count in
    omega (arith, ap length are, count, added, more, c.in_ok-make_room.ensures.room, c.make_room.new.rows.ok.0, ap length c.make_room.ensures.same)

pub trim-requires-clause-from : goal.trim-requires-clause-from
trim-requires-clause-from g c =
    omega (arith, least g (goal.at.trim-requires-clause-from g c).After-least_out, c.add.ensures.start, c.make_room.ensures.start)

pub trim-requires-clause-to : goal.trim-requires-clause-to
trim-requires-clause-to g c =
    let b = c.self.inside in
    let count = log-count b.version b.past b.hold.scene b.rows.items b.log b.namings.items c.self.invariant.0 in
    let more = ap length c.add.ensures.entries ∙ length_push c.make_room.new.log.entries.items (record { logged = record { edit = c.and-past.result.1; old = c.in_ok-applied.applied.old }; globals = c.in_ok-applied.applied.globals }) in
    let same = ap length c.make_room.ensures.entries in
    omega (arith, count, more, same, c.add.ensures.start, c.make_room.ensures.start, c.least_out.ensures.newest, c.self.invariant.0.newest)

pub invariant_of-self-2 : goal.invariant_of-self-2
invariant_of-self-2 g c =
    let b = c.self.inside in
    let e = c.args.edit in
    let old = c.in_ok-applied.applied.old in
    let after = c.apply.new.hold.scene in
    let accepted : apply_of e (newest_scene b.past) ≡ Ok (after, old) =
    ap (apply_of e) (sym c.self.invariant.0.shows) ∙ c.in_ok-applied.ensures.made in
    let fine = accepted-fine e b.hold.scene after old c.in_ok-applied.ensures.made (record { apart = c.self.invariant.0.apart; few = c.self.invariant.0.few }) in
    let each = subst (λ (journal : List Edit). EachHolds (journal ++ e ∷ []) after.receivers c.carry_over.new.self.items) c.of.ensures c.carry_over.ensures.each in
    let start : c.add.new.self.start ≡ b.log.start = c.add.ensures.start ∙ c.make_room.ensures.start in
    let globals = c.in_ok-applied.ensures.globals in
    let entries = c.add.ensures.entries
    ∙ (λ i. c.make_room.ensures.entries i ++ record { logged = record { edit = c.and-past.ensures.edit i; old = old }; globals = c.in_ok-applied.applied.globals } ∷ []) in
    let past : b.past ++ e ∷ [] ≡ c.and-past.result.0 = ap (λ (j : List Edit). j ++ e ∷ []) (sym c.replace.ensures.value) ∙ sym c.and-past.ensures.past in
    let names : NamesStand c.and-past.result.0 c.named_since-self-inside.result =
    subst (λ (journal : List Edit). NamesStand journal c.named_since-self-inside.result) past
    (names-after b.past e old after accepted b.named_since c.named_since-self-inside.result (b.version + 1) (omega (arith, c.self.invariant.0.newest)) c.named_since-self-inside.ensures c.self.invariant.1) in (
      subst (λ (x : ℕ × List Edit). IsBoard x.0 x.1 after c.carry_over.new.self.items c.trim.new.self c.note.new.namings.items)
          (λ i. (sym (add-one b.version) i, past i))
          (board-after b.version b.past b.hold.scene b.rows.items b.log b.namings.items c.self.invariant.0 e old after accepted c.in_ok-applied.applied.globals globals
          c.carry_over.new.self.items c.trim.new.self c.note.new.namings.items c.least_out.result
          fine.few fine.apart each c.least_out.ensures.reaches (least g (goal.at.invariant_of-self-2 g c).After-least_out)
          (omega (arith, c.least_out.ensures.newest)) c.trim.ensures.start
          (c.trim.ensures.entries ∙ (λ i. drop (c.least_out.result - start i) (entries i)))
          (c.note.ensures ∙ (λ i. c.make_room.ensures.names i ++ noted (add-one b.version i) (c.named_receivers-named.ensures i)))),
      names,
    )
