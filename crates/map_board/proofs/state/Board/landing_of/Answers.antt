use Rattle.std.proofs.Common.{◌≡◌, ◌-◌, ◌∙◌, ap, sym, subst, arith, length, length-drop, drop, get_or, List, Some}
use Rattle.std.specs.Prelude.{slice_get}
use Rattle.std.proofs.lemmas.Option.{slice_get_within, get_or_from_slice_get}
use Rattle.scene_parts.specs.Parts.{Receiver}
use Rattle.map_board.specs.declared.edits.log.LogEntry.{LogEntry}
use Rattle.map_board.specs.Rows.{Row, State, row_named, version_out}
use Rattle.map_board.proofs.Keeping.{IsOut, row-out}
use Rattle.map_board.proofs.Landings.{row-there, receiver-there, IsReached, reached}
use Rattle.map_board.proofs.state.Board.landing_of.Goals as goal
use Rattle.map_board.proofs.state.Board.landing_of.Goals.{After-version}

-- the log reaches back to the version
since : (c : After-version) → IsReached c.args.self.now.journal c.as_slice.result.now c.args.version
since c =
    let version = c.args.version in
    let out = subst (λ (s : State). version_out c.args.name.now s.rows ≡ Some version) (sym c.self.view_is) c.requires in
    subst (λ (s : State). IsReached s.journal c.as_slice.result.now version) c.self.view_is
    (subst (λ (es : List LogEntry). IsReached c.self.inside.past es version) (sym c.as_slice.ensures.value) (reached c.self.inside c.self.invariant.0 c.args.name.now version out))

pub entries_since-later-requires-clause-past : goal.entries_since-later-requires-clause-past
entries_since-later-requires-clause-past c = omega (arith, (since c).past, c.version.ensures)

pub entries_since-later-requires-clause-from : goal.entries_since-later-requires-clause-from
entries_since-later-requires-clause-from c = omega (arith, (since c).from, c.version.ensures)

-- its receiver stands at the place
stands : (c : After-version) (row : Row) → row_named c.args.name.now c.args.self.now.rows ≡ Some row
    → slice_get c.self.inside.hold.scene.receivers c.place_in-place.result ≡ Some row.receiver
stands c row found =
    let b = c.self.inside in
    receiver-there b.past b.hold.scene.receivers b.rows.items c.args.name.now c.place_in-place.result row c.self.invariant.0.each c.self.invariant.0.apart
    c.place_in-place.ensures
    (subst (λ (s : State). row_named c.args.name.now s.rows ≡ Some row) (sym c.self.view_is) found)

-- the row whose job is out
row : (c : After-version) → IsOut c.args.name.now c.args.self.now.rows c.args.version
row c = row-out c.args.name.now c.args.self.now.rows c.args.version c.requires

pub bounds-receivers-place : goal.bounds-receivers-place
bounds-receivers-place c =
    let at = (goal.at.bounds-receivers-place c).After-version in
    let found = row at in
    let receivers = c.receivers.ensures.value in
    omega (arith, ap length receivers, slice_get_within c.self.inside.hold.scene.receivers c.place_in-place.result found.row.receiver (stands at found.row found.found))

pub offset_bounds-receivers-place : goal.offset_bounds-receivers-place
offset_bounds-receivers-place c =
    let found = row (goal.at.offset_bounds-receivers-place c).After-version in
    let there = stands (goal.at.offset_bounds-receivers-place c).After-version found.row found.found in
    omega (arith, c.self.invariant.0.few, slice_get_within c.self.inside.hold.scene.receivers c.place_in-place.result found.row.receiver there)

pub returns-clause-receiver : goal.returns-clause-receiver
returns-clause-receiver c row found =
    let b = c.self.inside in
    let there = stands (goal.at.returns-clause-receiver c).After-version row found in
    let receivers = c.receivers.ensures.value in
    let r = c.index-receivers-place.result in
    c.index-receivers-place.is ∙ (ap (λ (rs : List Receiver). get_or rs c.place_in-place.result r) receivers
    ∙ get_or_from_slice_get b.hold.scene.receivers c.place_in-place.result row.receiver r there)

pub returns-clause-place : goal.returns-clause-place
returns-clause-place c =
    let b = c.self.inside in
    subst (λ (s : State). slice_get s.rows c.place_in-place.result ≡ row_named c.args.name.now s.rows) c.self.view_is
    (row-there b.past b.hold.scene.receivers b.rows.items c.args.name.now c.place_in-place.result c.self.invariant.0.each c.self.invariant.0.apart
    c.place_in-place.ensures)

pub returns-clause-later : goal.returns-clause-later
returns-clause-later c =
    let entries = c.as_slice.result.now in
    c.entries_since-later.ensures
    ∙ ((λ i. drop (length entries - (c.version.ensures i - c.args.version)) entries)
    ∙ (since (goal.at.returns-clause-later c).After-version).later)

pub returns-clause-few : goal.returns-clause-few
returns-clause-few c =
    let log = since (goal.at.returns-clause-few c).After-version in
    let entries = c.as_slice.result.now in
    let count = ap length c.entries_since-later.ensures ∙ length-drop (length entries - (c.version.result - c.args.version)) entries in
    omega (arith, count, log.past, log.from, c.version.ensures)
