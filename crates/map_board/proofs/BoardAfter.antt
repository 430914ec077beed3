-- A board after an accepted edit.
use Rattle.std.proofs.Common.{◌≡◌, ℕ, suc, ◌+◌, ◌-◌, ◌≤◌, Bool, true, false, cond, List, [], ◌∷◌, ◌++◌, length, get_or, drop, Some, None, refl, sym, ap, ◌∙◌, subst, arith, length-append, length-drop}
use Rattle.std.specs.Prelude.{Option, Ok, All, IfSome, unwrap_or}
use Rattle.std.proofs.lemmas.List.Elements.{All-nil, All-cons, All-head, All-tail, All-map}
use Rattle.scene_parts.specs.Parts.{Receiver, Globals}
use Rattle.scene_parts.specs.declared.parts.Part.{Part}
use Rattle.scene_book.specs.Book.{Book, empty_book, most_receivers}
use Rattle.scene_book.specs.Lists.{AreApart}
use Rattle.scene_book.specs.Applying.{apply_of}
use Rattle.scene_book.specs.declared.edits.Edit.{Edit}
use Rattle.touch_test.specs.Touches.{old_part}
use Rattle.touch_test.proofs.Edits.{answers-old}
use Rattle.map_board.specs.declared.edits.log.Log.{Log}
use Rattle.map_board.specs.declared.edits.namings.Naming.{Naming}
use Rattle.map_board.specs.declared.rows.HeldRow.{HeldRow}
use Rattle.map_board.specs.declared.edits.renewing.Change.{Change}
use Rattle.map_board.specs.Journal.{scene_left, book_after, scene_at, newest_scene, names}
use Rattle.map_board.specs.Rows.{Row, row_named}
use Rattle.map_board.specs.Machine.{new_row, row_after, rows_after}
use Rattle.map_board.specs.inner.Log.{entries_after}
use Rattle.map_board.specs.inner.Namings.{noted, naming_of}
use Rattle.map_board.specs.Boards.{row_of, rows_of}
use Rattle.map_board.specs.inner.Boards.{EachHolds, IsOutSince, IsBoard}
use Rattle.map_board.specs.inner.Changes.{scene_before, scene_after, IsChange}
use Rattle.map_board.proofs.Journals.{newest-more}
use Rattle.map_board.proofs.RowsRight.{found-right}
use Rattle.map_board.proofs.Logging.{accepted-as, accepted-more, entries-length, entries-more, later, namings-more}

-- the same board with the same log in other memory
pub board-same : (version : ℕ) (journal : List Edit) (scene : Book) (hs : List HeldRow) (log more : Log) (namings other : List Naming)
    → IsBoard version journal scene hs log namings → more.start ≡ log.start → more.entries.items ≡ log.entries.items → other ≡ namings
    → IsBoard version journal scene hs more other
board-same version journal scene hs log more namings other board start entries same = record {
  newest = board.newest;
  shows = board.shows;
  few = board.few;
  apart = board.apart;
  each = board.each;
  accepted = board.accepted;
  logged = record {
    past = omega (arith, start, board.logged.past);
    entries = entries ∙ (board.logged.entries ∙ ap (entries_after journal) (sym start));
  };
  reaches = subst (λ n. All (IsOutSince n) hs) (sym start) board.reaches;
  named = same ∙ board.named;
}

-- ---- the edit as rows go over by it

pub change-is : (change : Change) (journal : List Edit) (scene after : Book) → change.past.value ≡ journal → scene ≡ newest_scene journal
    → apply_of change.logged.edit (newest_scene journal) ≡ Ok (after, change.logged.old) → change.globals ≡ scene.globals → change.version ≡ suc (length journal)
    → IsChange change
change-is change journal scene after past shows accepted globals version =
    let at : apply_of change.logged.edit (scene_before change) ≡ Ok (after, change.logged.old) = ap (λ j. apply_of change.logged.edit (newest_scene j)) past ∙ accepted in
    record {
      accepted = at ∙ ap (λ book. Ok (book, change.logged.old)) (sym (ap (scene_left (scene_before change)) at));
      globals = globals ∙ (ap (λ (book : Book). book.globals) shows ∙ ap (λ j. (newest_scene j).globals) (sym past));
      version = version ∙ ap (λ j. suc (length j)) (sym past);
    }

pub after-is : (change : Change) (journal : List Edit) (after : Book) → change.past.value ≡ journal
    → apply_of change.logged.edit (newest_scene journal) ≡ Ok (after, change.logged.old) → scene_after change ≡ after
after-is change journal after past accepted =
    ap (λ j. book_after change.logged.edit (newest_scene j)) past ∙ ap (scene_left (newest_scene journal)) accepted

-- ---- versions that are out

abbrev OutRow : ℕ → Row → Type 0
OutRow start row = IfSome row.out (λ version. start ≤ version)

rows-out : (start : ℕ) (rs : List Receiver) (hs : List HeldRow) → All (IsOutSince start) hs → All (OutRow start) (rows_of rs hs)
rows-out start [] hs all = All-nil (OutRow start)
rows-out start (r ∷ rs) [] all = All-nil (OutRow start)
rows-out start (r ∷ rs) (h ∷ hs) all =
    All-cons (OutRow start) (row_of r h) (rows_of rs hs) (All-head (IsOutSince start) h hs all) (rows-out start rs hs (All-tail (IsOutSince start) h hs all))

helds-out : (start : ℕ) (journal : List Edit) (rs : List Receiver) (hs : List HeldRow) → EachHolds journal rs hs → All (OutRow start) (rows_of rs hs) → All (IsOutSince start) hs
helds-out start journal [] [] each all = All-nil (IsOutSince start)
helds-out start journal [] (h ∷ hs) each all = absurd each
helds-out start journal (r ∷ rs) [] each all = absurd each
helds-out start journal (r ∷ rs) (h ∷ hs) each all =
    All-cons (IsOutSince start) h hs (All-head (OutRow start) (row_of r h) (rows_of rs hs) all)
    (helds-out start journal rs hs each.1 (All-tail (OutRow start) (row_of r h) (rows_of rs hs) all))

after-out : (start : ℕ) (edit : Edit) (journal : List Edit) (rows : List Row) (r : Receiver) → All (OutRow start) rows → OutRow start (row_after edit journal rows r)
after-out start edit journal rows r all = go (names r.name edit (newest_scene journal)) where
  old : (o : Option Row) → row_named r.name rows ≡ o → OutRow start (unwrap_or o (new_row (suc (length journal)) r))
  old None found = tt
  old (Some row) found = found-right (OutRow start) r.name rows row all found

  go : (test : Bool) → OutRow start (cond test (new_row (suc (length journal)) r) (unwrap_or (row_named r.name rows) (new_row (suc (length journal)) r)))
  go true = tt
  go false = old (row_named r.name rows) refl

-- what is out after the edit was out before
pub outs-stay : (start : ℕ) (edit : Edit) (journal more : List Edit) (olds news : List Receiver) (hs made : List HeldRow) → All (IsOutSince start) hs
    → EachHolds more news made → rows_of news made ≡ rows_after edit journal (rows_of olds hs) → All (IsOutSince start) made
outs-stay start edit journal more olds news hs made all each rows =
    helds-out start more news made each
    (subst (All (OutRow start)) (sym rows)
    (All-map (OutRow start) (row_after edit journal (rows_of olds hs)) (book_after edit (newest_scene journal)).receivers
    (λ k d below. after-out start edit journal (rows_of olds hs) (get_or (book_after edit (newest_scene journal)).receivers k d) (rows-out start olds hs all))))

-- ---- the board

module _ (version : ℕ) (journal : List Edit) (scene : Book) (hs : List HeldRow) (log : Log) (namings : List Naming) (board : IsBoard version journal scene hs log namings)
    (edit : Edit) (old : Option Part) (after : Book) (accepted : apply_of edit (newest_scene journal) ≡ Ok (after, old)) (globals : Globals) (before : globals ≡ scene.globals) where
  abbrev grown : List Edit
  grown = journal ++ edit ∷ []

  shows : after ≡ newest_scene grown
  shows = sym (newest-more journal edit ∙ ap (scene_left (newest_scene journal)) accepted)

  old-is : old_part edit (newest_scene journal) ≡ old
  old-is = answers-old edit (newest_scene journal) after old accepted

  -- the log with one entry more
  pub entries-now : log.entries.items ++ record { logged = record { edit = edit; old = old }; globals = globals } ∷ [] ≡ entries_after grown log.start
  entries-now =
      (λ i. board.logged.entries i ++ record { logged = record { edit = edit; old = sym old-is i }; globals = (before ∙ ap (λ (book : Book). book.globals) board.shows) i } ∷ [])
      ∙ sym (entries-more journal edit log.start board.logged.past)

  pub entries-count : log.start + length (log.entries.items ++ record { logged = record { edit = edit; old = old }; globals = globals } ∷ []) ≡ suc (length journal)
  entries-count =
      let before_it : length log.entries.items ≡ length journal - log.start = ap length board.logged.entries ∙ (entries-length (drop log.start journal) _ ∙ length-drop log.start journal) in
      omega (arith, length-append log.entries.items (record { logged = record { edit = edit; old = old }; globals = globals } ∷ []), before_it, board.logged.past)

  pub board-after : (made : List HeldRow) (more : Log) (other : List Naming) (least : ℕ) → length after.receivers ≤ most_receivers → AreApart (λ r. r.name) after.receivers
      → EachHolds grown after.receivers made → All (IsOutSince least) made → log.start ≤ least → least ≤ suc version → more.start ≡ least
      → more.entries.items ≡ drop (least - log.start) (log.entries.items ++ record { logged = record { edit = edit; old = old }; globals = globals } ∷ [])
      → other ≡ namings ++ noted (suc version) (naming_of edit old) → IsBoard (suc version) grown after made more other
  board-after made more other least few apart each reaches from to start entries same = record {
    newest = omega (arith, board.newest, length-append journal (edit ∷ []));
    shows = shows;
    few = few;
    apart = apart;
    each = each;
    accepted = accepted-more journal empty_book edit board.accepted (accepted-as edit (newest_scene journal) after old accepted);
    logged = record {
      past = omega (arith, start, to, board.newest, length-append journal (edit ∷ []));
      entries =
          entries
          ∙ (ap (drop (least - log.start)) entries-now
          ∙ (later grown log.start least from ∙ ap (entries_after grown) (sym start)));
    };
    reaches = subst (λ n. All (IsOutSince n) made) (sym start) reaches;
    named =
        same
        ∙ ((λ i. board.named i ++ noted (suc (board.newest i)) (naming_of edit (sym old-is i)))
        ∙ sym (namings-more journal edit));
  }

-- the entries of the log are those of the edits after its start
pub log-count : (version : ℕ) (journal : List Edit) (scene : Book) (hs : List HeldRow) (log : Log) (namings : List Naming) → IsBoard version journal scene hs log namings
    → log.start + length log.entries.items ≡ length journal
log-count version journal scene hs log namings board =
    let count : length log.entries.items ≡ length journal - log.start =
    ap length board.logged.entries ∙ (entries-length (drop log.start journal) (scene_at journal log.start) ∙ length-drop log.start journal) in
    omega (arith, count, board.logged.past)
