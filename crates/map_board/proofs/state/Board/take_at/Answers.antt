use Rattle.std.proofs.Common.{◌≡◌, ap, sym, ◌∙◌, subst, arith, set, false, List}
use Rattle.std.proofs.lemmas.Option.{slice_get_within}
use Rattle.map_board.specs.declared.rows.HeldRow.{HeldRow}
use Rattle.map_board.specs.Rows.{State, one_more}
use Rattle.map_board.specs.inner.Held.{IsJobOf}
use Rattle.map_board.specs.Machine.{TakesJob}
use Rattle.map_board.specs.Boards.{rows_of, counts_of}
use Rattle.map_board.specs.inner.Boards.{IsBoard, row_out}
use Rattle.map_board.proofs.Places.{each-lengths, held-needy}
use Rattle.map_board.proofs.Taking.{Ready, ready-seen, has-cache, cache-is, place-within, can-refresh, are-within, of-each, board-out, takes-job}
use Rattle.map_board.proofs.state.Board.take_at.Goals as goal
use Rattle.map_board.proofs.state.Board.take_at.Goals.{After-self}

-- what the needy row has
row : (c : After-self) → Ready c.self.inside.past c.self.inside.hold.scene.receivers c.self.inside.rows.items c.args.place
row c =
    let b = c.self.inside in
    ready-seen b.past b.hold.scene.receivers b.rows.items b.finished b.counts c.args.self.now c.args.place c.self.view_is c.self.invariant.0.each c.requires.needy

pub take_row-cache-requires : goal.take_row-cache-requires
take_row-cache-requires c =
    let b = c.self.inside in
    has-cache b.past b.hold.scene b.rows.items c.args.place c.self.invariant.0.shows (row (goal.at.take_row-cache-requires c).After-self)

pub overflow_cast-place : goal.overflow_cast-place
overflow_cast-place c =
    let b = c.self.inside in
    let rdy = row (goal.at.overflow_cast-place c).After-self in
    let same = each-lengths b.past b.hold.scene.receivers b.rows.items c.self.invariant.0.each in
    omega (arith, slice_get_within b.rows.items c.args.place rdy.at.held rdy.at.there, same, c.self.invariant.0.few)

pub of-requires-clause-place : goal.of-requires-clause-place
of-requires-clause-place c =
    let b = c.self.inside in
    let rdy = row (goal.at.of-requires-clause-place c).After-self in
    place-within b.past b.hold.scene b.rows.items c.args.place c.self.invariant.0.shows rdy

pub of-requires-clause-kept : goal.of-requires-clause-kept
of-requires-clause-kept c =
    let b = c.self.inside in
    let rdy = row (goal.at.of-requires-clause-kept c).After-self in
    can-refresh b.past b.hold.scene b.rows.items c.args.place c.self.invariant.0.shows rdy c.take_row-cache.result (c.take_row-cache.ensures.cache rdy.at.held rdy.at.there)

pub of-requires-clause-within : goal.of-requires-clause-within
of-requires-clause-within c =
    let b = c.self.inside in
    let rdy = row (goal.at.of-requires-clause-within c).After-self in
    are-within b.past b.hold.scene b.rows.items c.args.place c.self.invariant.0.shows rdy c.take_row-cache.result
    (c.take_row-cache.ensures.cache rdy.at.held rdy.at.there)

pub of-requires-clause-stand : goal.of-requires-clause-stand
of-requires-clause-stand c known =
    let b = c.self.inside in
    let rdy = row (goal.at.of-requires-clause-stand c).After-self in
    of-each b.past b.hold.scene b.rows.items c.args.place c.self.invariant.0.shows rdy c.take_row-cache.result
    (c.take_row-cache.ensures.cache rdy.at.held rdy.at.there) b.named_since c.self.invariant.1 (c.is_known_since-stand.ensures known)

pub invariant_of-self : goal.invariant_of-self
invariant_of-self c =
    let b = c.self.inside in
    let rdy = row (goal.at.invariant_of-self c).After-self in (
      subst (λ (hs : List HeldRow). IsBoard b.version b.past b.hold.scene hs b.log b.namings.items) (sym (c.take_row-cache.ensures.rows rdy.at.held rdy.at.there))
          (board-out b.version b.past b.hold.scene b.rows.items b.log b.namings.items c.args.place rdy.at.r rdy.at.held c.self.invariant.0 rdy.at.receiver
          (sym (held-needy b.past rdy.at.r rdy.at.held rdy.at.holds) ∙ rdy.needy) rdy.at.holds),
      c.self.invariant.1,
    )

pub returns : goal.returns
returns c =
    let b = c.self.inside in
    let rdy = row (goal.at.returns c).After-self in
    let cache = cache-is b.past b.hold.scene b.rows.items c.args.place c.self.invariant.0.shows rdy c.take_row-cache.result (c.take_row-cache.ensures.cache rdy.at.held rdy.at.there) in
    let of : IsJobOf b.version c.args.place b.hold.scene rdy.cache.bundles.items rdy.cache.marks.items c.of.result =
    subst (λ k. IsJobOf b.version c.args.place b.hold.scene k.bundles.items k.marks.items c.of.result) (sym cache) c.of.ensures in
    let unfinished : b.finished ≡ false = ap (λ (s : State). s.finished) c.self.view_is ∙ c.requires.unfinished in
    let counted : counts_of (record b.counts { taken = c.saturating_add-self-inside.result }) ≡ record (counts_of b.counts) { taken = one_more b.counts.taken } =
    ap (λ n. counts_of (record b.counts { taken = n })) c.saturating_add-self-inside.ensures in
    let step = takes-job b.version b.past b.hold.scene b.rows.items b.log b.namings.items b.finished b.counts (record b.counts { taken = c.saturating_add-self-inside.result }) c.args.place c.of.result c.self.invariant.0 unfinished rdy of counted in
    subst (λ (hs : List HeldRow). TakesJob c.args.self.now c.of.result
    (record { journal = b.past; rows = rows_of b.hold.scene.receivers hs; finished = b.finished; counts = counts_of (record b.counts { taken = c.saturating_add-self-inside.result }) }))
    (sym (c.take_row-cache.ensures.rows rdy.at.held rdy.at.there))
    (subst (λ (s : State). TakesJob s c.of.result
    (record { journal = b.past; rows = rows_of b.hold.scene.receivers (set b.rows.items c.args.place (row_out b.version rdy.at.held)); finished = b.finished; counts = counts_of (record b.counts { taken = c.saturating_add-self-inside.result }) })) c.self.view_is step)
