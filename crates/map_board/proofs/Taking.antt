-- A job for a needy row, and the row after it was taken.
use Rattle.std.proofs.Common.{◌≡◌, ℕ, suc, ◌+◌, ◌<◌, ◌≤◌, Bool, true, false, cond, List, [], ◌∷◌, length, take, set, Some, None, refl, sym, ap, ◌∙◌, subst, arith}
use Rattle.std.specs.Prelude.{Option, Contains, IsSomeAnd, slice_get, is_some, not, ◌&&◌, count_by}
use Rattle.std.specs.List.{list_any}
use Rattle.std.specs.Option.{option_map}
use Rattle.std.proofs.lemmas.List.{take_all}
use Rattle.std.proofs.lemmas.Option.{slice_get_within}
use Rattle.std.proofs.lemmas.List.Sums.{sum_by-cons}
use Rattle.scene_parts.specs.Parts.{Source, Receiver}
use Rattle.scene_book.specs.Book.{Book, empty_book}
use Rattle.scene_book.specs.declared.edits.Edit.{Edit}
use Rattle.path_calc.specs.Bundles.{Bundle}
use Rattle.path_calc.specs.Show.{sources_within}
use Rattle.path_cache.specs.Refreshed.{CanRefresh, Stand, is_wanted}
use Rattle.path_cache.specs.Standing.{AreOfEach}
use Rattle.map_board.specs.declared.edits.log.Log.{Log}
use Rattle.map_board.specs.declared.edits.namings.Naming.{Naming}
use Rattle.map_board.specs.declared.rows.caches.Cache.{Cache}
use Rattle.map_board.specs.declared.rows.KeptLevels.{KeptLevels}
use Rattle.map_board.specs.declared.rows.HeldRow.{HeldRow}
use Rattle.map_board.specs.declared.rows.Tally.{Tally}
use Rattle.map_board.specs.Views.{Job}
use Rattle.map_board.specs.inner.Held.{AreWithin, IsJobOf}
use Rattle.map_board.specs.Journal.{book_after_all, scene_at, newest_scene}
use Rattle.map_board.specs.Rows.{Row, State, row_named, with_row, one_more, shown_of, shown_since, is_current, is_needy}
use Rattle.map_board.specs.Due.{is_due, due_of}
use Rattle.map_board.specs.Jobs.{IsFit}
use Rattle.map_board.specs.Machine.{with_out, TakesJob, IsIdle}
use Rattle.map_board.specs.Boards.{kept_of, row_of, rows_of, counts_of}
use Rattle.map_board.specs.inner.Boards.{shown_by, row_out, is_held_needy, is_held_out, CacheIsRight, CacheIsThere, RowHolds, EachHolds, IsBoard, NeedyAt, IsNeedyAt}
use Rattle.map_board.proofs.Keeping.{none-of, this-row}
use Rattle.map_board.proofs.Places.{At, at-place, held-at, held-needy, any-needy, count-held, each-lengths, rows-lengths, board-set, row-at, rows-set}
use Rattle.map_board.specs.inner.Standing.{NamesStand, IsOrdered}
use Rattle.map_board.proofs.RowsRight.{taken-right}
use Rattle.map_board.proofs.Ordered.{ordered-newest}

-- ---- what a needy row has

pub record Ready (journal : List Edit) (rs : List Receiver) (hs : List HeldRow) (place : ℕ) : Type 0 where
  pub at : At journal rs hs place
  pub needy : is_needy journal (row_of at.r at.held) ≡ true
  pub free : at.held.out ≡ None
  pub cache : Cache
  pub cached : at.held.cache ≡ Some cache
  pub right : CacheIsRight journal at.r (option_map kept_of at.held.kept) cache

record Found {A : Type 0} (o : Option A) (P : A → Type 0) : Type 0 where
  x : A
  is : o ≡ Some x
  holds : P x

found-and : {A : Type 0} (o : Option A) (P : A → Type 0) → IsSomeAnd o P → Found o P
found-and None P h = absurd h
found-and (Some x) P h = record { x = x; is = refl; holds = h }

free-of : (current out : Bool) → (not current && not out) ≡ true → out ≡ false
free-of current false h = refl
free-of true true h = absurd (cc)
free-of false true h = absurd (cc)

pub ready : (journal : List Edit) (rs : List Receiver) (hs : List HeldRow) (place : ℕ) (row : Row) → EachHolds journal rs hs
    → slice_get (rows_of rs hs) place ≡ Some row → is_needy journal row ≡ true → Ready journal rs hs place
ready journal rs hs place row each there needy =
    let at = at-place journal rs hs place row each there in
    let is : row ≡ row_of at.r at.held = cc (there, at.row) in
    let needy_here : is_needy journal (row_of at.r at.held) ≡ true = ap (is_needy journal) (sym is) ∙ needy in
    let free : at.held.out ≡ None = none-of at.held.out (free-of (is_current (shown_of journal (row_of at.r at.held))) (is_some at.held.out) needy_here) in
    let cache = found-and at.held.cache (CacheIsRight journal at.r (option_map kept_of at.held.kept))
    (subst (λ (o : Option ℕ). CacheIsThere journal at.r (option_map kept_of at.held.kept) o at.held.cache) free at.holds.bundles) in
    record {
      at = at;
      needy = needy_here;
      free = free;
      cache = cache.x;
      cached = cache.is;
      right = cache.holds;
    }

-- ---- the row after it

-- what is kept of a needy row is stale
by-some : (kept : KeptLevels) (by : Option ℕ) (out : Bool) → (not (is_current (shown_since (kept_of kept) by)) && not out) ≡ true → is_some by ≡ true
by-some kept None out needy = absurd (cc)
by-some kept (Some v) out needy = refl

stale-needy : (since : ℕ) (o : Option KeptLevels) (kept : KeptLevels) (out : Bool) → o ≡ Some kept
    → (not (is_current (shown_by since o)) && not out) ≡ true → is_some kept.by ≡ true
stale-needy since None kept out is needy = absurd (cc is)
stale-needy since (Some k) kept out is needy =
    let same : k ≡ kept = cc is in subst (λ (x : KeptLevels). is_some x.by ≡ true) same (by-some k k.by out needy)

pub holds-out : (journal : List Edit) (r : Receiver) (held : HeldRow) (version : ℕ) → version ≡ length journal → is_held_needy held ≡ true
    → RowHolds journal r held → RowHolds journal r (row_out version held)
holds-out journal r held version newest needy holds = record {
  right = taken-right journal (row_of r held) version newest holds.right;
  by = holds.by;
  bundles = refl;
  stale = λ v kept out is. stale-needy held.since held.kept kept (is_some held.out) is needy;
}

pub board-out : (version : ℕ) (journal : List Edit) (scene : Book) (hs : List HeldRow) (log : Log) (namings : List Naming) (place : ℕ) (r : Receiver) (held : HeldRow)
    → IsBoard version journal scene hs log namings → slice_get scene.receivers place ≡ Some r → is_held_needy held ≡ true → RowHolds journal r held
    → IsBoard version journal scene (set hs place (row_out version held)) log namings
board-out version journal scene hs log namings place r held board receiver needy holds =
    board-set version journal scene hs log namings place r (row_out version held) board receiver (holds-out journal r held version board.newest needy holds)
    (omega (arith, board.newest, board.logged.past))

-- ---- from a board as it is seen

pub ready-seen : (journal : List Edit) (rs : List Receiver) (hs : List HeldRow) (finished : Bool) (tally : Tally) (state : State) (place : ℕ)
    → record { journal = journal; rows = rows_of rs hs; finished = finished; counts = counts_of tally } ≡ state
    → EachHolds journal rs hs → NeedyAt state place → Ready journal rs hs place
ready-seen journal rs hs finished tally state place view each needy =
    let n = subst (λ (s : State). NeedyAt s place) (sym view) needy in
    ready journal rs hs place n.row each n.there n.needy

-- a needy held row, as it is seen
pub needy-seen : (journal : List Edit) (rs : List Receiver) (hs : List HeldRow) (finished : Bool) (tally : Tally) (state : State) (place : ℕ)
    → record { journal = journal; rows = rows_of rs hs; finished = finished; counts = counts_of tally } ≡ state
    → EachHolds journal rs hs → IsNeedyAt hs place → NeedyAt state place
needy-seen journal rs hs finished tally state place view each needy = subst (λ (s : State). NeedyAt s place) view (found (slice_get hs place) refl needy) where
  found : (o : Option HeldRow) → slice_get hs place ≡ o → IsSomeAnd o (λ held. is_held_needy held ≡ true)
      → NeedyAt (record { journal = journal; rows = rows_of rs hs; finished = finished; counts = counts_of tally }) place
  found None there h = absurd h
  found (Some held) there h =
      let lengths = each-lengths journal rs hs each in
      let rows = rows-lengths journal rs hs each in
      let at = held-at journal rs hs place each (omega (arith, lengths, rows, slice_get_within hs place held there)) in
      let is : at.held ≡ held = cc (there, at.there) in
      record {
        row = row_of at.r at.held;
        there = at.row;
        needy = held-needy journal at.r at.held at.holds ∙ (ap is_held_needy is ∙ h);
      }

-- no needy held row, as it is seen
pub idle-seen : (journal : List Edit) (rs : List Receiver) (hs : List HeldRow) (finished : Bool) (tally : Tally) (state : State) (count : ℕ)
    → record { journal = journal; rows = rows_of rs hs; finished = finished; counts = counts_of tally } ≡ state
    → EachHolds journal rs hs → finished ≡ false → list_any is_held_needy hs ≡ false → count ≡ count_by is_held_out hs → IsIdle state count
idle-seen journal rs hs finished tally state count view each unfinished none counted =
    subst (λ (s : State). IsIdle s count) view (record {
      unfinished = unfinished;
      none_needy = any-needy journal rs hs each ∙ none;
      out = counted ∙ sym (count-held journal rs hs each);
    })

-- what is taken out of the row at a place is what it has
module _ (journal : List Edit) (scene : Book) (hs : List HeldRow) (place : ℕ) (same : scene ≡ newest_scene journal) (rdy : Ready journal scene.receivers hs place) where
  pub has-cache : IsSomeAnd (slice_get hs place) (λ held. is_some held.cache ≡ true)
  has-cache = subst (λ o. IsSomeAnd o (λ (held : HeldRow). is_some held.cache ≡ true)) (sym rdy.at.there) (ap (λ o. is_some o) rdy.cached)

  pub cache-is : (cache : Cache) → rdy.at.held.cache ≡ Some cache → rdy.cache ≡ cache
  cache-is cache found = let both : Some rdy.cache ≡ Some cache = sym rdy.cached ∙ found in cc both

  pub place-within : place < length scene.receivers
  place-within = slice_get_within scene.receivers place rdy.at.r rdy.at.receiver

  pub can-refresh : (cache : Cache) → rdy.at.held.cache ≡ Some cache → CanRefresh cache.bundles.items cache.marks.items
  can-refresh cache found = subst (λ (c : Cache). CanRefresh c.bundles.items c.marks.items) (cache-is cache found) rdy.right.can

  pub are-within : (cache : Cache) → rdy.at.held.cache ≡ Some cache → (r : Receiver)
      → slice_get scene.receivers place ≡ Some r → AreWithin scene r cache.bundles.items cache.marks.items
  are-within cache cached r there =
      let r_is : rdy.at.r ≡ r = cc (there, rdy.at.receiver) in
      subst (λ (y : Book × Receiver × Cache). AreWithin y.0 y.1 y.2.bundles.items y.2.marks.items)
      (λ i. (sym same i, r_is i, cache-is cache cached i)) rdy.right.within

  -- where they are known to be of each source since a version since which the names stand, they are so in this scene
  pub of-each : (cache : Cache) → rdy.at.held.cache ≡ Some cache → (since : ℕ) → NamesStand journal since → IsSomeAnd cache.order (λ v. since ≤ v)
      → AreOfEach scene.sources cache.bundles.items
  of-each cache found since stand known =
      ordered-newest journal scene since cache same stand (subst (λ (c : Cache). IsOrdered journal c) (cache-is cache found) rdy.right.ordered) known

-- ---- the job

at-newest : (journal : List Edit) → scene_at journal (length journal) ≡ newest_scene journal
at-newest journal = ap (λ es. book_after_all es empty_book) (take_all (length journal) journal (omega arith))

count-on : {X : Type 0} (p q : X → Bool) (xs : List X) → ((x : X) → Contains xs x → p x ≡ q x) → count_by p xs ≡ count_by q xs
count-on p q [] same = refl
count-on p q (x ∷ xs) same =
    sum_by-cons (λ y. cond (p y) 1 0) x xs
    ∙ ((λ i. cond (same x (0, omega arith, refl) i) 1 0 + count-on p q xs (λ y c. same y (suc c.0, omega (arith, c.1), c.2)) i)
    ∙ sym (sum_by-cons (λ y. cond (q y) 1 0) x xs))

module _ (version : ℕ) (journal : List Edit) (scene : Book) (hs : List HeldRow) (log : Log) (namings : List Naming) (finished : Bool) (tally more : Tally) (place : ℕ) (job : Job)
    (board : IsBoard version journal scene hs log namings) (unfinished : finished ≡ false) (rdy : Ready journal scene.receivers hs place)
    (of : IsJobOf version place scene rdy.cache.bundles.items rdy.cache.marks.items job)
    (counted : counts_of more ≡ record (counts_of tally) { taken = one_more (counts_of tally).taken }) where
  abbrev before : State
  before = record { journal = journal; rows = rows_of scene.receivers hs; finished = finished; counts = counts_of tally }

  abbrev after : State
  after = record { journal = journal; rows = rows_of scene.receivers (set hs place (row_out version rdy.at.held)); finished = finished; counts = counts_of more }

  same-receiver : rdy.at.r ≡ job.receiver
  same-receiver = cc (of.at_place, rdy.at.receiver)

  job-scene : job.scene ≡ newest_scene journal
  job-scene = of.of_scene ∙ board.shows

  row : Row
  row = row_of rdy.at.r rdy.at.held

  named : row_named job.receiver.name (rows_of scene.receivers hs) ≡ Some (row_of rdy.at.r rdy.at.held)
  named =
      ap (λ (r : Receiver). row_named r.name (rows_of scene.receivers hs)) (sym same-receiver)
      ∙ row-at scene.receivers hs place rdy.at.r rdy.at.held board.apart rdy.at.receiver rdy.at.there

  rows-after : rows_of scene.receivers (set hs place (row_out version rdy.at.held)) ≡ with_row job.receiver.name (with_out (Some job.version)) (rows_of scene.receivers hs)
  rows-after =
      rows-set scene.receivers hs place rdy.at.r rdy.at.held (row_out version rdy.at.held) (with_out (Some version)) board.apart rdy.at.receiver rdy.at.there refl
      ∙ (λ i. with_row (same-receiver i).name (with_out (Some (sym of.at_version i))) (rows_of scene.receivers hs))

  -- the kept bundles as the job has them
  stand : Stand job.scene job.receiver job.kept job.marks
  stand =
      subst (λ (x : Book × Receiver × List Bundle × List Bool). Stand x.0 x.1 x.2 x.3)
      (λ i. (sym job-scene i, same-receiver i, sym of.bundles i, sym of.marked i)) rdy.right.stand

  due-each : (source : Source) → Contains (sources_within job.scene job.receiver) source
      → is_wanted job.kept job.marks source ≡ is_due journal (option_map kept_of rdy.at.held.kept) rdy.at.r source
  due-each source c =
      (λ i. is_wanted (of.bundles i) (of.marked i) source)
      ∙ rdy.right.due source (subst (λ (x : Book × Receiver). Contains (sources_within x.0 x.1) source) (λ i. (job-scene i, sym same-receiver i)) c)

  due-all : job.due ≡ due_of journal (row_of rdy.at.r rdy.at.held)
  due-all =
      of.due
      ∙ (count-on (is_wanted job.kept job.marks) (is_due journal (option_map kept_of rdy.at.held.kept) rdy.at.r) (sources_within job.scene job.receiver) due-each
      ∙ (λ i. count_by (is_due journal (option_map kept_of rdy.at.held.kept) rdy.at.r) (sources_within (job-scene i) (sym same-receiver i))))

  fit : IsFit journal (rows_of scene.receivers (set hs place (row_out version rdy.at.held))) job
  fit = record {
    scene = job-scene ∙ (sym (at-newest journal) ∙ ap (scene_at journal) (sym board.newest ∙ sym of.at_version));
    kept = stand;
    due = λ found is out source c.
        let after_row = this-row job.receiver.name (with_out (Some job.version)) (λ r. refl) (rows_of scene.receivers hs) (row_of rdy.at.r rdy.at.held) named in
        let same : with_out (Some job.version) (row_of rdy.at.r rdy.at.held) ≡ found =
        some-same (sym after_row ∙ (ap (row_named job.receiver.name) (sym rows-after) ∙ is)) in
        due-each source c
        ∙ ((λ i. is_due (sym all-of i) (option_map kept_of rdy.at.held.kept) rdy.at.r source)
        ∙ (λ i. is_due (take job.version journal) (same i).kept (same i).receiver source));
  } where
    some-same : {a b : Row} → Some a ≡ Some b → a ≡ b
    some-same h = cc h

    all-of : take job.version journal ≡ journal
    all-of = take_all job.version journal (omega (arith, of.at_version, board.newest))

  pub takes-job : TakesJob before job after
  takes-job = record {
    unfinished = unfinished;
    row = row_of rdy.at.r rdy.at.held;
    named = named;
    receiver = same-receiver;
    needy = rdy.needy;
    version = of.at_version ∙ board.newest;
    due = due-all;
    fit = fit;
    leaves = λ i. record { journal = journal; rows = rows-after i; finished = finished; counts = counted i };
  }
