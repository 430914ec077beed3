-- Answers and jobs that come back to the rows of a board.
use Rattle.std.proofs.Common.{◌≡◌, ℕ, zero, suc, ◌+◌, ◌-◌, ◌<◌, ◌≤◌, Bool, true, false, cond, List, [], ◌∷◌, length, take, drop, set, Some, None, refl, sym, ap, ◌∙◌, subst, arith, length-drop, ◌⊎◌, inl, inr}
use Rattle.std.specs.Prelude.{bytes_eq, Option, Contains, IsSome, IfSome, slice_get, is_some, All}
use Rattle.std.specs.Option.{option_map, option_and_then}
use Rattle.std.proofs.lemmas.List.{length-take-le}
use Rattle.std.proofs.lemmas.List.Elements.{All-head, All-tail}
use Rattle.std.proofs.lemmas.Option.{slice_get_within}
use Rattle.scene_parts.specs.Parts.{Receiver}
use Rattle.scene_book.specs.Book.{Book, empty_book}
use Rattle.scene_book.specs.Lists.{named, AreApart}
use Rattle.scene_book.specs.declared.edits.Edit.{Edit}
use Rattle.path_calc.specs.Bundles.{Bundle}
use Rattle.path_calc.specs.Show.{sources_within, bundles_of}
use Rattle.path_cache.specs.Refreshed.{CanRefresh, Stand, is_wanted}
use Rattle.path_cache.specs.Standing.{AreOfEach}
use Rattle.map_board.specs.declared.edits.log.LogEntry.{LogEntry}
use Rattle.map_board.specs.declared.state.Board.TheInside.{Inside}
use Rattle.map_board.specs.declared.rows.Back.{Back}
use Rattle.map_board.specs.declared.rows.caches.Cache.{Cache}
use Rattle.map_board.specs.declared.rows.KeptLevels.{KeptLevels}
use Rattle.map_board.specs.declared.rows.HeldRow.{HeldRow}
use Rattle.map_board.specs.Views.{Job, Answer}
use Rattle.map_board.specs.inner.Held.{AreWithin, IsJob, no_marks}
use Rattle.map_board.specs.Journal.{scene_at, newest_scene, first_naming, first_touching, AreAccepted}
use Rattle.map_board.specs.Rows.{Kept, Row, State, row_named, version_out, with_row}
use Rattle.map_board.specs.Jobs.{IsOutFor, MayReturn, IsFit, IsRight}
use Rattle.map_board.specs.inner.Log.{entries_after}
use Rattle.map_board.specs.inner.Later.{marks_after_all, first_entry_touching}
use Rattle.map_board.specs.inner.Back.{held_with, row_with, SuitsAt}
use Rattle.map_board.specs.Boards.{kept_of, row_of, rows_of, counts_of}
use Rattle.map_board.specs.inner.Boards.{CacheIsRight, ByIsRight, RowHolds, EachHolds, IsOutSince, IsBoard}
use Rattle.map_board.proofs.Naming.{named-is, itself}
use Rattle.map_board.proofs.Logging.{entries-length, later as logged-later}
use Rattle.map_board.proofs.Places.{At, at-place, none-here, board-set, rows-set}
use Rattle.map_board.proofs.RowsRight.{kept-right, freed-right}
use Rattle.map_board.specs.inner.Standing.{IsOrdered}
use Rattle.map_board.proofs.Caching.{AreRight}
use Rattle.map_board.proofs.Ordered.{ordered-back}
use Rattle.map_board.proofs.Since.{right-later, touching-later, fresh-later, answer-right}

-- what contracts see of a board
abbrev pub seen : Inside → State
seen b = record { journal = b.past; rows = rows_of b.hold.scene.receivers b.rows.items; finished = b.finished; counts = counts_of b.counts }

-- ---- where it comes back

-- the place of a receiver is that of the row of its name
pub row-there : (journal : List Edit) (rs : List Receiver) (hs : List HeldRow) (name : List ℕ) (place : ℕ) → EachHolds journal rs hs
    → AreApart (λ (r : Receiver). r.name) rs → slice_get rs place ≡ named (λ (r : Receiver). r.name) name rs
    → slice_get (rows_of rs hs) place ≡ row_named name (rows_of rs hs)
row-there journal [] hs name place each apart is = refl
row-there journal (r ∷ rs) [] name place each apart is = absurd each
row-there journal (r ∷ rs) (h ∷ hs) name zero each apart is = go (bytes_eq name r.name) refl is where
  go : (test : Bool) → bytes_eq name r.name ≡ test → Some r ≡ cond test (Some r) (named (λ (x : Receiver). x.name) name rs)
      → Some (row_of r h) ≡ cond test (Some (row_of r h)) (row_named name (rows_of rs hs))
  go true same is = refl
  go false other is =
      absurd (cc (other, named-is (λ (x : Receiver). x.name) name rs r (sym is)))
row-there journal (r ∷ rs) (h ∷ hs) name (suc place) each apart is =
    go (bytes_eq name r.name) refl is (row-there journal rs hs name place each.1 apart.1) where
      go : (test : Bool) → bytes_eq name r.name ≡ test → slice_get rs place ≡ cond test (Some r) (named (λ (x : Receiver). x.name) name rs)
          → (slice_get rs place ≡ named (λ (x : Receiver). x.name) name rs → slice_get (rows_of rs hs) place ≡ row_named name (rows_of rs hs))
          → slice_get (rows_of rs hs) place ≡ cond test (Some (row_of r h)) (row_named name (rows_of rs hs))
      go true same is later = absurd (cc (none-here r.name rs place r apart.0 is, itself r.name))
      go false other is later = later is

-- and its receiver is that row's
pub receiver-there : (journal : List Edit) (rs : List Receiver) (hs : List HeldRow) (name : List ℕ) (place : ℕ) (row : Row) → EachHolds journal rs hs
    → AreApart (λ (r : Receiver). r.name) rs → slice_get rs place ≡ named (λ (r : Receiver). r.name) name rs
    → row_named name (rows_of rs hs) ≡ Some row → slice_get rs place ≡ Some row.receiver
receiver-there journal rs hs name place row each apart is found =
    let at = at-place journal rs hs place row each (row-there journal rs hs name place each apart is ∙ found) in
    let row_is : row_of at.r at.held ≡ row = cc (at.row, row-there journal rs hs name place each apart is, found) in
    at.receiver ∙ ap (λ (x : Row). Some x.receiver) row_is

-- what may come back and is named by no edit since is awaited
pub is-awaited : (journal : List Edit) (rows : List Row) (version : ℕ) (r : Receiver) → MayReturn journal rows version r
    → first_naming journal version r.name ≡ None → IsOutFor rows version r
is-awaited journal rows version r may unnamed = go may.awaited where
  go : IsSome (first_naming journal version r.name) ⊎ IsOutFor rows version r → IsOutFor rows version r
  go (inl some) = absurd (cc (unnamed, some))
  go (inr out) = out

-- the version that is out for a receiver, by its name
pub out-by-name : {rows : List Row} {version : ℕ} {r : Receiver} {name : List ℕ} {of : ℕ} → IsOutFor rows version r → name ≡ r.name → of ≡ version
    → version_out name rows ≡ Some of
out-by-name {rows} out name of =
    ap (λ n. version_out n rows) name ∙ (ap (option_and_then (λ (row : Row). row.out)) out.found ∙ (out.out ∙ ap (λ v. Some v) (sym of)))

-- its row stands at the place of that name's
pub row-by-name : {rows : List Row} {version : ℕ} {r : Receiver} {name : List ℕ} (place : ℕ) (out : IsOutFor rows version r) → name ≡ r.name
    → slice_get rows place ≡ row_named name rows → slice_get rows place ≡ Some out.row
row-by-name {rows} place out name there = there ∙ (ap (λ n. row_named n rows) name ∙ out.found)

-- ---- the log since then

-- there are as many edits since a version as it lacks
length-after : (journal : List Edit) (v : ℕ) → v ≤ length journal → v + length (entries_after journal v) ≡ length journal
length-after journal v past = omega (arith, entries-length (drop v journal) (scene_at journal v), length-drop v journal, past)

-- a version that is out is none before the log
record IsOutWithin (journal : List Edit) (start version : ℕ) : Type 0 where
  from : start ≤ version
  past : version ≤ length journal

out-within : (journal : List Edit) (rs : List Receiver) (hs : List HeldRow) (start version : ℕ) (name : List ℕ) → EachHolds journal rs hs
    → All (IsOutSince start) hs → version_out name (rows_of rs hs) ≡ Some version → IsOutWithin journal start version
out-within journal [] hs start version name each since out = absurd (cc out)
out-within journal (r ∷ rs) [] start version name each since out = absurd each
out-within journal (r ∷ rs) (h ∷ hs) start version name each since out =
    go (bytes_eq name r.name) out (out-within journal rs hs start version name each.1 (All-tail (IsOutSince start) h hs since)) where
      go : (test : Bool) → option_and_then (λ (row : Row). row.out) (cond test (Some (row_of r h)) (row_named name (rows_of rs hs))) ≡ Some version
          → (version_out name (rows_of rs hs) ≡ Some version → IsOutWithin journal start version) → IsOutWithin journal start version
      go true here later = record {
        from = subst (λ (o : Option ℕ). IfSome o (λ v. start ≤ v)) here (All-head (IsOutSince start) h hs since);
        past = (each.0.right.out version here).past;
      }
      go false there later = later there

-- the edits since a version are the last entries
pub record IsReached (journal : List Edit) (entries : List LogEntry) (version : ℕ) : Type 0 where
  pub past : version ≤ length journal
  pub from : length journal ≤ version + length entries
  pub later : drop (length entries - (length journal - version)) entries ≡ entries_after journal version

-- the log reaches back to a version that is out
pub reached : (b : Inside) → IsBoard b.version b.past b.hold.scene b.rows.items b.log b.namings.items → (name : List ℕ) (version : ℕ)
    → version_out name (seen b).rows ≡ Some version → IsReached b.past b.log.entries.items version
reached b board name version out =
    let within = out-within b.past b.hold.scene.receivers b.rows.items b.log.start version name board.each board.reaches out in
    let all = length-after b.past b.log.start board.logged.past in
    let count = ap length board.logged.entries in
    let before : length b.log.entries.items - (length b.past - version) ≡ version - b.log.start = omega (arith, all, count, within.from, within.past) in
    record {
      past = within.past;
      from = omega (arith, all, count, within.from);
      later = (λ i. drop (before i) (board.logged.entries i)) ∙ logged-later b.past b.log.start version within.from;
    }

-- ---- bundles with the marks of all edits since

cache-right : (journal : List Edit) (r : Receiver) (kept : Option Kept) (bundles : List Bundle) (marks : List Bool) (cache : Cache)
    → cache.bundles.items ≡ bundles → cache.marks.items ≡ marks → AreRight journal r kept bundles marks
    → ((of : Kept) → kept ≡ Some of → first_touching journal of.version r ≡ None → bundles ≡ bundles_of (newest_scene journal) r)
    → IsOrdered journal cache → CacheIsRight journal r kept cache
cache-right journal r kept bundles marks cache same set right fresh ordered = record {
  can = subst (λ (x : List Bundle × List Bool). CanRefresh x.0 x.1) (λ i. (sym same i, sym set i)) right.can;
  stand = subst (λ (x : List Bundle × List Bool). Stand (newest_scene journal) r x.0 x.1) (λ i. (sym same i, sym set i)) right.stand;
  within = subst (λ (x : List Bundle × List Bool). AreWithin (newest_scene journal) r x.0 x.1) (λ i. (sym same i, sym set i)) right.within;
  ordered = ordered;
  due = λ source inside. (λ i. is_wanted (same i) (set i) source) ∙ right.due source inside;
  fresh = λ of is none. same ∙ fresh of is none;
}

module _ (journal : List Edit) (r : Receiver) (held : HeldRow) (back : Back) (accepted : AreAccepted empty_book journal) (holds : RowHolds journal r held) where
  -- ---- a row that keeps an answer

  module _ (answer : Answer) (same : answer.receiver ≡ r) (right : IsRight journal answer) (few : length answer.bundles ≤ 128) (out : held.out ≡ Some answer.version)
      (later : List LogEntry) (later_is : later ≡ entries_after journal answer.version)
      (levels : back.kept ≡ Some (record { version = answer.version; by = first_entry_touching answer.receiver answer.bundles answer.version later; levels = answer.levels }))
      (bundles : back.cache.bundles.items ≡ answer.bundles) (marks : back.cache.marks.items ≡ marks_after_all later answer.receiver answer.bundles (no_marks answer.bundles))
      (order : IfSome back.cache.order (λ v. (v ≡ answer.version) × AreOfEach answer.scene.sources answer.bundles)) where
    abbrev kept : Kept
    kept = record { version = answer.version; levels = answer.levels }

    abbrev marks_since : List Bool
    marks_since = marks_after_all (entries_after journal answer.version) r answer.bundles (no_marks answer.bundles)

    past : answer.version ≤ length journal
    past = (holds.right.out answer.version out).past

    are : answer.bundles ≡ bundles_of (scene_at journal answer.version) r
    are = right.bundles ∙ (λ i. bundles_of (right.scene i) (same i))

    before : AreRight (take answer.version journal) r (Some kept) answer.bundles (no_marks answer.bundles)
    before = subst (λ (bs : List Bundle). AreRight (take answer.version journal) r (Some kept) bs (no_marks bs)) (sym are)
        (answer-right (take answer.version journal) answer.version answer.levels r (sym (length-take-le answer.version journal past))
        (omega (arith, few, ap length are)))

    after : AreRight journal r (Some kept) answer.bundles marks_since
    after = right-later journal answer.version past accepted r (Some kept)
        (λ of is. let version : answer.version ≡ of.version = cc is in omega (arith, version)) answer.bundles (no_marks answer.bundles) before

    fresh : (of : Kept) → Some kept ≡ Some of → first_touching journal of.version r ≡ None → answer.bundles ≡ bundles_of (newest_scene journal) r
    fresh of is none =
        let version : answer.version ≡ of.version = cc is in
        are ∙ fresh-later journal answer.version accepted r (ap (λ n. first_touching journal n r) version ∙ none)

    holds-kept : RowHolds journal r (held_with back held)
    holds-kept =
        let of : Receiver → List LogEntry → KeptLevels =
        λ x entries. record { version = answer.version; by = first_entry_touching x answer.bundles answer.version entries; levels = answer.levels } in
        let marked : back.cache.marks.items ≡ marks_since = marks ∙ (λ i. marks_after_all (later_is i) (same i) answer.bundles (no_marks answer.bundles)) in
        subst (λ (k : Option KeptLevels). RowHolds journal r (held_with (record back { kept = k }) held)) (sym (levels ∙ (λ i. Some (of (same i) (later_is i)))))
        (record {
          right = kept-right journal (row_of r held) answer past out same right holds.right;
          by = touching-later journal answer.version accepted r answer.bundles are;
          bundles = cache-right journal r (Some kept) answer.bundles marks_since back.cache bundles marked after fresh
              (ordered-back journal answer.version answer.scene answer.bundles back.cache past right.scene bundles order);
          stale = λ version kept none is. absurd (cc none);
        })

  -- ---- a row whose job came back

  module _ (job : Job) (same : job.receiver ≡ r) (place : ℕ) (is_job : IsJob place job) (rows : List Row) (fit : IsFit journal rows job)
      (found : row_named job.receiver.name rows ≡ Some (row_of r held)) (out : held.out ≡ Some job.version)
      (later : List LogEntry) (later_is : later ≡ entries_after journal job.version) (levels : back.kept ≡ None) (bundles : back.cache.bundles.items ≡ job.kept)
      (marks : back.cache.marks.items ≡ marks_after_all later job.receiver job.kept job.marks)
      (order : IfSome back.cache.order (λ v. (v ≡ job.version) × AreOfEach job.scene.sources job.kept)) where
    abbrev of_row : Option Kept
    of_row = option_map kept_of held.kept

    abbrev job_marks : List Bool
    job_marks = marks_after_all (entries_after journal job.version) r job.kept job.marks

    job_before : AreRight (take job.version journal) r of_row job.kept job.marks
    job_before = record {
      can = is_job.kept;
      stand = subst (λ (x : Book × Receiver). Stand x.0 x.1 job.kept job.marks) (λ i. (fit.scene i, same i)) fit.kept;
      within = subst (λ (x : Book × Receiver). AreWithin x.0 x.1 job.kept job.marks) (λ i. (fit.scene i, same i)) is_job.within;
      due = λ source inside. fit.due (row_of r held) found out source
          (subst (λ (x : Book × Receiver). Contains (sources_within x.0 x.1) source) (λ i. (sym fit.scene i, sym same i)) inside);
    }

    job_after : AreRight journal r of_row job.kept job_marks
    job_after = right-later journal job.version (holds.right.out job.version out).past accepted r of_row (λ of is. (holds.right.out job.version out).later of is) job.kept job.marks job_before

    -- its levels are stale
    job_fresh : (k : Option KeptLevels) → held.kept ≡ k → (of : Kept) → option_map kept_of k ≡ Some of → first_touching journal of.version r ≡ None
        → job.kept ≡ bundles_of (newest_scene journal) r
    job_fresh None e of is none = absurd (cc is)
    job_fresh (Some k) e of is none =
        let version : k.version ≡ of.version = cc is in
        let by : k.by ≡ first_touching journal k.version r = subst (λ (o : Option KeptLevels). ByIsRight journal r o) e holds.by in
        let some : is_some k.by ≡ true = holds.stale job.version k out e in
        absurd (cc (some, by ∙ (ap (λ n. first_touching journal n r) version ∙ none)))

    holds-freed : RowHolds journal r (held_with back held)
    holds-freed =
        let marked : back.cache.marks.items ≡ job_marks = marks ∙ (λ i. marks_after_all (later_is i) (same i) job.kept job.marks) in
        subst (λ (k : Option KeptLevels). RowHolds journal r (held_with (record back { kept = k }) held)) (sym levels)
        (record {
          right = freed-right journal (row_of r held) holds.right;
          by = holds.by;
          bundles = cache-right journal r of_row job.kept job_marks back.cache bundles marked job_after (job_fresh held.kept refl)
              (ordered-back journal job.version job.scene job.kept back.cache (holds.right.out job.version out).past fit.scene bundles order);
          stale = λ version kept none is. absurd (cc none);
        })

-- ---- what comes back suits its row

pub answer-suits : (state : State) (place : ℕ) (back : Back) (answer : Answer) (out : IsOutFor state.rows answer.version answer.receiver)
    → slice_get state.rows place ≡ Some out.row → IsRight state.journal answer → length answer.bundles ≤ 128
    → (later : List LogEntry) → later ≡ entries_after state.journal answer.version
    → back.kept ≡ Some (record { version = answer.version; by = first_entry_touching answer.receiver answer.bundles answer.version later; levels = answer.levels })
    → back.cache.bundles.items ≡ answer.bundles → back.cache.marks.items ≡ marks_after_all later answer.receiver answer.bundles (no_marks answer.bundles)
    → IfSome back.cache.order (λ v. (v ≡ answer.version) × AreOfEach answer.scene.sources answer.bundles) → SuitsAt state place back
answer-suits state place back answer out there right few later later_is levels bundles marks order = record {
  row = out.row;
  there = there;
  holds = λ held accepted is holds.
      holds-kept state.journal out.row.receiver held back accepted holds answer (sym out.receiver) right few (ap (λ (row : Row). row.out) is ∙ out.out)
      later later_is levels bundles marks order;
}

pub job-suits : (state : State) (place : ℕ) (back : Back) (job : Job) (out : IsOutFor state.rows job.version job.receiver)
    → slice_get state.rows place ≡ Some out.row → (job_place : ℕ) → IsJob job_place job → IsFit state.journal state.rows job
    → (later : List LogEntry) → later ≡ entries_after state.journal job.version → back.kept ≡ None → back.cache.bundles.items ≡ job.kept
    → back.cache.marks.items ≡ marks_after_all later job.receiver job.kept job.marks
    → IfSome back.cache.order (λ v. (v ≡ job.version) × AreOfEach job.scene.sources job.kept) → SuitsAt state place back
job-suits state place back job out there job_place is_job fit later later_is levels bundles marks order = record {
  row = out.row;
  there = there;
  holds = λ held accepted is holds.
      holds-freed state.journal out.row.receiver held back accepted holds job (sym out.receiver) job_place is_job state.rows fit
      (out.found ∙ ap (λ row. Some row) (sym is)) (ap (λ (row : Row). row.out) is ∙ out.out) later later_is levels bundles marks order;
}

-- ---- a board with it

-- contracts see its levels, or those that were there
held-row : (r : Receiver) (back : Back) (held : HeldRow) → row_of r (held_with back held) ≡ row_with back.kept (row_of r held)
held-row r back held = go back.kept held.kept where
  go : (k o : Option KeptLevels) → row_of r (held_with (record back { kept = k }) (record held { kept = o })) ≡ row_with k (row_of r (record held { kept = o }))
  go None o = refl
  go (Some k) o = refl

module _ (b : Inside) (board : IsBoard b.version b.past b.hold.scene b.rows.items b.log b.namings.items) (place : ℕ) (back : Back)
    (suits : SuitsAt (seen b) place back) where
  pub at : At b.past b.hold.scene.receivers b.rows.items place
  at = at-place b.past b.hold.scene.receivers b.rows.items place suits.row board.each suits.there

  row-is : row_of at.r at.held ≡ suits.row
  row-is = cc (at.row, suits.there)

  pub place-below : place < length b.rows.items
  place-below = slice_get_within b.rows.items place at.held at.there

  -- the rows with it
  abbrev pub rows-back : List HeldRow
  rows-back = set b.rows.items place (held_with back at.held)

  holds : RowHolds b.past at.r (held_with back at.held)
  holds =
      let r_is : at.r ≡ suits.row.receiver = ap (λ (row : Row). row.receiver) row-is in
      subst (λ (r : Receiver). RowHolds b.past r (held_with back at.held)) (sym r_is)
      (suits.holds at.held board.accepted ((λ i. row_of (sym r_is i) at.held) ∙ row-is) (subst (λ (r : Receiver). RowHolds b.past r at.held) r_is at.holds))

  -- another row stands there
  pub board-with : IsBoard b.version b.past b.hold.scene rows-back b.log b.namings.items
  board-with =
      board-set b.version b.past b.hold.scene b.rows.items b.log b.namings.items place at.r (held_with back at.held) board at.receiver holds tt

  -- contracts see the row of that place changed
  pub rows-with : (row : Row) → slice_get (seen b).rows place ≡ Some row
      → record (seen b) { rows = rows_of b.hold.scene.receivers rows-back }
      ≡ record (seen b) { rows = with_row row.receiver.name (row_with back.kept) (seen b).rows }
  rows-with row there =
      let same : row_of at.r at.held ≡ row = cc (at.row, there) in
      let changed : row_of at.r (held_with back at.held) ≡ row_with back.kept (row_of at.r at.held) = held-row at.r back at.held in
      ap (λ rows. record (seen b) { rows = rows }) (rows-set b.hold.scene.receivers b.rows.items place at.r at.held (held_with back at.held) (row_with back.kept) board.apart at.receiver at.there changed)
      ∙ ap (λ (y : Row). record (seen b) { rows = with_row y.receiver.name (row_with back.kept) (seen b).rows }) same
