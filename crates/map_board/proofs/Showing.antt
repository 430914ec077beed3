-- After every run looks show each receiver right.
use Rattle.std.proofs.Common.{◌≡◌, ℕ, zero, suc, Bool, true, false, cond, eqb, eq-eqb, List, [], ◌∷◌, ◌++◌, length, map, take, drop, Some, None, refl, sym, ap, ◌∙◌, subst, arith, append_assoc}
use Rattle.std.specs.Prelude.{bytes_eq, Option, Result, Ok, Err, All, not, ◌&&◌, ◌||◌, unwrap_or}
use Rattle.std.specs.List.{list_any}
use Rattle.std.specs.Option.{option_map}
use Rattle.std.proofs.lemmas.List.{append-nil}
use Rattle.std.proofs.lemmas.List.Concat.{flat_map-cons}
use Rattle.std.proofs.lemmas.List.Elements.{All-nil, All-head, All-tail}
use Rattle.scene_parts.specs.Parts.{Receiver}
use Rattle.scene_parts.specs.declared.parts.Part.{Part}
use Rattle.scene_book.specs.Book.{Book, empty_book}
use Rattle.scene_book.specs.Lists.{named, AreApart}
use Rattle.scene_book.specs.Applying.{apply_of}
use Rattle.scene_book.specs.declared.edits.Edit.{Edit}
use Rattle.scene_book.specs.declared.edits.EditFault.{EditFault}
use Rattle.path_calc.specs.Levels.{Levels}
use Rattle.path_calc.specs.Show.{show_of}
use Rattle.touch_test.specs.Touches.{touches_receiver}
use Rattle.touch_test.specs.Laws.{AcceptedInTurn, UntouchedReceiversStayInTurn}
use Rattle.turn_lock.specs.declared.entry.Entry.{Entry}
use Rattle.turn_lock.specs.History.{IsRun, EachAllowed, Leads, entries_of}
use Rattle.turn_lock.proofs.Histories.{run_more, run_none}
use Rattle.map_board.specs.declared.answers.Shown.{Shown}
use Rattle.map_board.specs.declared.answers.Shown.TheVariants.{Current, Stale, New}
use Rattle.map_board.specs.declared.answers.Landed.TheVariants as landed
use Rattle.map_board.specs.declared.calls.Took.TheVariants as took
use Rattle.map_board.specs.declared.calls.BoardCall.{BoardCall}
use Rattle.map_board.specs.declared.calls.BoardCall.TheVariants as calls
use Rattle.map_board.specs.declared.calls.BoardReply.{BoardReply}
use Rattle.map_board.specs.declared.calls.BoardReply.TheVariants as replies
use Rattle.map_board.specs.Views.{Job}
use Rattle.map_board.specs.Journal.{scene_left, book_after, book_after_all, scene_at, newest_scene, first_from, first_touching, touches, names, first_naming}
use Rattle.map_board.specs.Rows.{Kept, Row, State, start, row_named, with_row, shown_kept, shown_since, shown_of, is_current, is_out}
use Rattle.map_board.specs.Boards.{is_unsettled}
use Rattle.map_board.specs.Machine.{Step, numbered, new_row, row_after, rows_after, with_out, with_kept, rows_after_return, look_row}
use Rattle.map_board.specs.Seats.{Entries, May, editor}
use Rattle.map_board.specs.Facts.{IsKeptRight, RowIsRight}
use Rattle.map_board.specs.Showing.{IsShownRight, AreRowsOf, settled_row, accepted_by, accepted_edits, RunsShowRight}
use Rattle.map_board.proofs.Journals.{newest-more}
use Rattle.map_board.proofs.Naming.{named-map}
use Rattle.map_board.proofs.Unnamed.{unnamed-stays}
use Rattle.map_board.proofs.Lawful.{board-is-lawful}
use Rattle.map_board.proofs.RowsRight.{each-step-keeps-rows-right}
use Rattle.map_board.proofs.Receivers.{AreFine, none-fine, accepted-fine, each-found}

abbrev Any : Edit → Book → Type 0
Any edit book = Unit {0}

-- ---- what every step keeps

pub record IsFair (s : State) : Type 0 where
  pub accepted : AcceptedInTurn Any s.journal empty_book (newest_scene s.journal)
  pub fine : AreFine (newest_scene s.journal).receivers
  pub order : map (λ (row : Row). row.receiver) s.rows ≡ (newest_scene s.journal).receivers
  pub right : All (RowIsRight s.journal) s.rows

accepted-push : (es : List Edit) (e : Edit) (a b c : Book) (old : Option Part) → AcceptedInTurn Any es a b → apply_of e b ≡ Ok (c, old) → AcceptedInTurn Any (es ++ e ∷ []) a c
accepted-push [] e a b c old all is = (c, (old, subst (λ (x : Book). apply_of e x ≡ Ok (c, old)) (sym all) is), tt, refl)
accepted-push (x ∷ es) e a b c old all is = (all.0, all.1, tt, accepted-push es e all.0 b c old all.3 is)

after-is : (e : Edit) (a b : Book) (old : Option Part) → apply_of e a ≡ Ok (b, old) → book_after e a ≡ b
after-is e a b old is = ap (λ (r : Result (Book × Option Part) EditFault). scene_left a r) is

-- the receivers of rows stay where one is changed
module _ (name : List ℕ) (change : Row → Row) (keeps : (row : Row) → (change row).receiver ≡ row.receiver) where
  pub changed-order : (rows : List Row) → map (λ (row : Row). row.receiver) (with_row name change rows) ≡ map (λ (row : Row). row.receiver) rows
  changed-order [] = refl
  changed-order (row ∷ rows) = go (bytes_eq name row.receiver.name) (changed-order rows) where
    go : (test : Bool) → map (λ (r : Row). r.receiver) (with_row name change rows) ≡ map (λ (r : Row). r.receiver) rows
        → map (λ (r : Row). r.receiver) (cond test (change row ∷ rows) (row ∷ with_row name change rows)) ≡ row.receiver ∷ map (λ (r : Row). r.receiver) rows
    go true rest = ap (λ r. r ∷ map (λ (x : Row). x.receiver) rows) (keeps row)
    go false rest = ap (λ rs. row.receiver ∷ rs) rest

-- the row of a receiver after an edit is of that receiver
row-of-it : (edit : Edit) (journal : List Edit) (rows : List Row) (b : Book) (old : Option Part) (r : Receiver)
    → apply_of edit (newest_scene journal) ≡ Ok (b, old) → map (λ (row : Row). row.receiver) rows ≡ (newest_scene journal).receivers
    → named (λ (x : Receiver). x.name) r.name b.receivers ≡ Some r → (row_after edit journal rows r).receiver ≡ r
row-of-it edit journal rows b old r accepted order found = go (names r.name edit (newest_scene journal)) refl where
  held : (o : Option Row) → option_map (λ (row : Row). row.receiver) o ≡ Some r → (unwrap_or o (new_row (suc (length journal)) r)).receiver ≡ r
  held None e = refl
  held (Some row) e = cc e

  go : (test : Bool) → names r.name edit (newest_scene journal) ≡ test
      → (cond test (new_row (suc (length journal)) r) (unwrap_or (row_named r.name rows) (new_row (suc (length journal)) r))).receiver ≡ r
  go true e = refl
  go false e =
      held (row_named r.name rows)
      (sym (named-map (λ (row : Row). row.receiver.name) (λ (x : Receiver). x.name) (λ (row : Row). row.receiver) (λ row. refl) r.name rows)
      ∙ (ap (named (λ (x : Receiver). x.name) r.name) order
      ∙ (sym (unnamed-stays r.name edit (newest_scene journal) b old accepted e) ∙ found)))

each-of-it : (f : Receiver → Row) (rs whole : List Receiver) → ((r : Receiver) → named (λ (x : Receiver). x.name) r.name whole ≡ Some r → (f r).receiver ≡ r)
    → All (λ r. named (λ (x : Receiver). x.name) r.name whole ≡ Some r) rs → map (λ (row : Row). row.receiver) (map f rs) ≡ rs
each-of-it f [] whole is all = refl
each-of-it f (r ∷ rs) whole is all =
    let head = is r (All-head (λ r. named (λ (x : Receiver). x.name) r.name whole ≡ Some r) r rs all) in
    let tail = each-of-it f rs whole is (All-tail (λ r. named (λ (x : Receiver). x.name) r.name whole ≡ Some r) r rs all) in
    λ i. head i ∷ tail i

edited-order : (edit : Edit) (journal : List Edit) (rows : List Row) (b : Book) (old : Option Part)
    → apply_of edit (newest_scene journal) ≡ Ok (b, old) → map (λ (row : Row). row.receiver) rows ≡ (newest_scene journal).receivers → AreApart (λ (r : Receiver). r.name) b.receivers
    → map (λ (row : Row). row.receiver) (rows_after edit journal rows) ≡ b.receivers
edited-order edit journal rows b old accepted order apart =
    ap (λ (book : Book). map (λ (row : Row). row.receiver) (map (row_after edit journal rows) book.receivers)) (after-is edit (newest_scene journal) b old accepted)
    ∙ each-of-it (row_after edit journal rows) b.receivers b.receivers (λ r found. row-of-it edit journal rows b old r accepted order found)
    (each-found (λ (r : Receiver). r.name) b.receivers apart)

edited-fair : (edit : Edit) (s : State) (b : Book) (old : Option Part) → apply_of edit (newest_scene s.journal) ≡ Ok (b, old) → IsFair s
    → All (RowIsRight (s.journal ++ edit ∷ [])) (rows_after edit s.journal s.rows)
    → IsFair (record s { journal = s.journal ++ edit ∷ []; rows = rows_after edit s.journal s.rows })
edited-fair edit s b old accepted fair right =
    let newest : newest_scene (s.journal ++ edit ∷ []) ≡ b = newest-more s.journal edit ∙ after-is edit (newest_scene s.journal) b old accepted in
    let fine = accepted-fine edit (newest_scene s.journal) b old accepted fair.fine in
    record {
      accepted = subst (λ (x : Book). AcceptedInTurn Any (s.journal ++ edit ∷ []) empty_book x) (sym newest)
          (accepted-push s.journal edit empty_book (newest_scene s.journal) b old fair.accepted accepted);
      fine = subst (λ (x : Book). AreFine x.receivers) (sym newest) fine;
      order = edited-order edit s.journal s.rows b old accepted fair.order fine.apart ∙ ap (λ (x : Book). x.receivers) (sym newest);
      right = right;
    }

-- an accepted edit, from the machine's words
accepted-of : (version count : ℕ) (r : Result (Book × Option Part) EditFault) → numbered count r ≡ Ok version
    → (b : Book) × ((old : Option Part) × (r ≡ Ok (b, old)))
accepted-of version count (Ok after) e = (after.0, (after.1, refl))
accepted-of version count (Err fault) e = cc

-- the same journal and receivers
same-fair : (s : State) (journal : List Edit) (t : State) → IsFair s → t.journal ≡ s.journal → map (λ (row : Row). row.receiver) t.rows ≡ map (λ (row : Row). row.receiver) s.rows
    → All (RowIsRight t.journal) t.rows → IsFair t
same-fair s journal t fair same order right = record {
  accepted = subst (λ es. AcceptedInTurn Any es empty_book (newest_scene es)) (sym same) fair.accepted;
  fine = subst (λ es. AreFine (newest_scene es).receivers) (sym same) fair.fine;
  order = order ∙ (fair.order ∙ ap (λ es. (newest_scene es).receivers) (sym same));
  right = right;
}

with_out-keeps : (version : Option ℕ) (row : Row) → (with_out version row).receiver ≡ row.receiver
with_out-keeps version row = refl

with_kept-keeps : (k : Kept) (row : Row) → (with_kept k row).receiver ≡ row.receiver
with_kept-keeps k row = refl

returned-order : (name : List ℕ) (job : Job) (o : Option ℕ) (rows : List Row)
    → map (λ (row : Row). row.receiver) (rows_after_return job o rows) ≡ map (λ (row : Row). row.receiver) rows
returned-order name job None rows = changed-order job.receiver.name (with_out None) (with_out-keeps None) rows
returned-order name job (Some by) rows = refl

module _ (s t : State) (fair : IsFair s) (right : All (RowIsRight t.journal) t.rows) where
  -- a step that leaves the state, but for its counts or its end
  still : t.journal ≡ s.journal → t.rows ≡ s.rows → IsFair t
  still same rows = same-fair s s.journal t fair same (ap (map (λ (row : Row). row.receiver)) rows) right

  pub step-fair : (call : BoardCall) (reply : BoardReply) → Step s call reply t → IsFair t
  step-fair (calls.Edit edit) (replies.Edited (Ok v)) step =
      let a = accepted-of v (suc (length s.journal)) (apply_of edit (newest_scene s.journal)) step.0 in
      let now = step.1 in
      subst IsFair (sym now) (edited-fair edit s a.0 a.1.0 a.1.1 fair (subst (λ (x : State). All (RowIsRight x.journal) x.rows) now right))
  step-fair (calls.Edit edit) (replies.Edited (Err fault)) step = subst IsFair (sym step.1) fair
  step-fair calls.Take (replies.Took (took.Job job)) step =
      same-fair s s.journal t fair (ap (λ (x : State). x.journal) step.leaves)
      (ap (λ (x : State). map (λ (row : Row). row.receiver) x.rows) step.leaves
      ∙ changed-order job.receiver.name (with_out (Some job.version)) (with_out-keeps (Some job.version)) s.rows) right
  step-fair calls.Take (replies.Took (took.Idle count)) step = subst IsFair (sym step.1) fair
  step-fair calls.Take (replies.Took took.Finished) step = subst IsFair (sym step.1) fair
  step-fair calls.Finish replies.Done step = still (ap (λ (x : State). x.journal) step) (ap (λ (x : State). x.rows) step)
  step-fair (calls.Offer answer) (replies.Landed landed.Kept) step =
      same-fair s s.journal t fair (ap (λ (x : State). x.journal) step.1)
      (ap (λ (x : State). map (λ (row : Row). row.receiver) x.rows) step.1
      ∙ changed-order answer.receiver.name (with_kept (record { version = answer.version; levels = answer.levels }))
      (with_kept-keeps (record { version = answer.version; levels = answer.levels })) s.rows) right
  step-fair (calls.Offer answer) (replies.Landed (landed.Gone by)) step =
      still (ap (λ (x : State). x.journal) step.1) (ap (λ (x : State). x.rows) step.1)
  step-fair (calls.GiveBack job) replies.Done step =
      same-fair s s.journal t fair (ap (λ (x : State). x.journal) step)
      (ap (λ (x : State). map (λ (row : Row). row.receiver) x.rows) step
      ∙ returned-order job.receiver.name job (first_naming s.journal job.version job.receiver.name) s.rows) right
  step-fair calls.Look (replies.Looked (Ok look)) step = subst IsFair (sym step.1) fair
  step-fair calls.Look (replies.Looked (Err want)) step = subst IsFair (sym step) fair
  step-fair call reply step = absurd step

pub start-fair : IsFair start
start-fair = record { accepted = refl; fine = none-fine; order = refl; right = All-nil (RowIsRight []) }

run-fair : (front back : Entries) (mid to : State) → IsRun start Step May front mid → IsFair mid → EachAllowed May front back → Leads Step mid back to → IsFair to
run-fair front [] mid to run fair allowed leads = subst IsFair leads fair
run-fair front (e ∷ back) mid to run fair allowed leads =
    let can = board-is-lawful front mid e.number e.call run allowed.0 in
    let right = each-step-keeps-rows-right mid leads.0 e.call e.reply can leads.1 fair.right in
    run-fair (front ++ e ∷ []) back leads.0 to (run_more start Step May front mid leads.0 e run allowed.0 leads.1)
    (step-fair mid leads.0 fair right e.call e.reply leads.1) allowed.1 leads.2

pub fair-run : (history : Entries) (state : State) → IsRun start Step May history state → IsFair state
fair-run history state run = run-fair [] history start state (run_none start Step May) start-fair run.allowed run.leads

-- ---- what is shown

accepted-drop : (v : ℕ) (es : List Edit) (a b : Book) → AcceptedInTurn Any es a b → AcceptedInTurn Any (drop v es) (book_after_all (take v es) a) b
accepted-drop zero es a b all = all
accepted-drop (suc v) [] a b all = all
accepted-drop (suc v) (e ∷ es) a b all =
    let rest = accepted-drop v es all.0 b all.3 in
    subst (λ (x : Book). AcceptedInTurn Any (drop v es) (book_after_all (take v es) x) b) (sym (after-is e a all.0 all.1.0 all.1.1)) rest

untouched : (r : Receiver) (es : List Edit) (count : ℕ) (a b : Book) → AcceptedInTurn Any es a b → first_from (touches r) count a es ≡ None
    → AcceptedInTurn (λ edit book. touches_receiver edit book r ≡ false) es a b
untouched r [] count a b all none = all
untouched r (e ∷ es) count a b all none = go (touches r e a) refl (untouched r es (suc count) all.0 b all.3) none where
  go : (test : Bool) → touches r e a ≡ test
      → (first_from (touches r) (suc count) all.0 es ≡ None → AcceptedInTurn (λ edit book. touches_receiver edit book r ≡ false) es all.0 b)
      → cond test (Some (suc count)) (first_from (touches r) (suc count) (book_after e a) es) ≡ None
      → AcceptedInTurn (λ edit book. touches_receiver edit book r ≡ false) (e ∷ es) a b
  go true t rest h = absurd (cc h)
  go false t rest h =
      (all.0, all.1, t, rest (subst (λ (x : Book). first_from (touches r) (suc count) x es ≡ None) (after-is e a all.0 all.1.0 all.1.1) h))

module _ (stays : UntouchedReceiversStayInTurn) (journal : List Edit) (accepted : AcceptedInTurn Any journal empty_book (newest_scene journal)) where
  -- levels that no edit since has touched are those of the newest scene
  still-right : (r : Receiver) (v : ℕ) → first_touching journal v r ≡ None → show_of (scene_at journal v) r ≡ show_of (newest_scene journal) r
  still-right r v none =
      (stays (drop v journal) (scene_at journal v) (newest_scene journal) r
      (untouched r (drop v journal) v (scene_at journal v) (newest_scene journal) (accepted-drop v journal empty_book (newest_scene journal) accepted) none)).shown

  shown-right : (row : Row) → RowIsRight journal row → IsShownRight journal row.receiver (shown_of journal row)
  shown-right row right = held row.kept refl where
    landed_since : (k : Kept) → IsKeptRight journal row k → (o : Option ℕ) → first_touching journal k.version row.receiver ≡ o → IsShownRight journal row.receiver (shown_since k o)
    landed_since k is None none = is.levels ∙ still-right row.receiver k.version none
    landed_since k is (Some by) some = (is.levels, some)

    held : (o : Option Kept) → row.kept ≡ o → IsShownRight journal row.receiver (shown_kept journal row o)
    held None none = right.since
    held (Some k) some = landed_since k (right.kept k some) (first_touching journal k.version row.receiver) refl

  pub rows-right : (rows : List Row) → All (RowIsRight journal) rows → AreRowsOf journal (map (λ (row : Row). row.receiver) rows) (map (look_row journal) rows)
  rows-right [] all = tt
  rows-right (row ∷ rows) all =
      (record { name = refl; shown = shown-right row (All-head (RowIsRight journal) row rows all) }, rows-right rows (All-tail (RowIsRight journal) row rows all))

  current : (r : Receiver) (shown : Shown) → is_current shown ≡ true → IsShownRight journal r shown → shown ≡ Current (show_of (newest_scene journal) r)
  current r (Current levels) is right = ap (λ (l : Levels). Current l) right
  current r (Stale version by levels) is right = cc
  current r (New since) is right = cc

  neither : (now out : Bool) → ((not now && not out) || out) ≡ false → now ≡ true
  neither true out h = refl
  neither false true h = cc
  neither false false h = cc

  both : (a b : Bool) → (a || b) ≡ false → (a ≡ false) × (b ≡ false)
  both true b h = cc
  both false b h = (refl, h)

  pub rows-settled : (rows : List Row) → All (RowIsRight journal) rows → list_any (is_unsettled journal) rows ≡ false
      → map (look_row journal) rows ≡ map (settled_row (newest_scene journal)) (map (λ (row : Row). row.receiver) rows)
  rows-settled [] all none = refl
  rows-settled (row ∷ rows) all none =
      let parts = both (is_unsettled journal row) (list_any (is_unsettled journal) rows) none in
      let now = neither (is_current (shown_of journal row)) (is_out row) parts.0 in
      let shown = current row.receiver (shown_of journal row) now (shown-right row (All-head (RowIsRight journal) row rows all)) in
      let rest = rows-settled rows (All-tail (RowIsRight journal) row rows all) parts.1 in
      λ i. record { name = row.receiver.name; shown = shown i } ∷ rest i

-- ---- the journal

step-journal : (s t : State) (call : BoardCall) (reply : BoardReply) → Step s call reply t → t.journal ≡ s.journal ++ accepted_by call reply
step-journal s t (calls.Edit edit) (replies.Edited (Ok v)) step = ap (λ (x : State). x.journal) step.1
step-journal s t (calls.Edit edit) (replies.Edited (Err fault)) step = ap (λ (x : State). x.journal) step.1 ∙ sym (append-nil s.journal)
step-journal s t calls.Take (replies.Took (took.Job job)) step = ap (λ (x : State). x.journal) step.leaves ∙ sym (append-nil s.journal)
step-journal s t calls.Take (replies.Took (took.Idle count)) step = ap (λ (x : State). x.journal) step.1 ∙ sym (append-nil s.journal)
step-journal s t calls.Take (replies.Took took.Finished) step = ap (λ (x : State). x.journal) step.1 ∙ sym (append-nil s.journal)
step-journal s t calls.Finish replies.Done step = ap (λ (x : State). x.journal) step ∙ sym (append-nil s.journal)
step-journal s t (calls.Offer answer) (replies.Landed landed.Kept) step = ap (λ (x : State). x.journal) step.1 ∙ sym (append-nil s.journal)
step-journal s t (calls.Offer answer) (replies.Landed (landed.Gone by)) step = ap (λ (x : State). x.journal) step.1 ∙ sym (append-nil s.journal)
step-journal s t (calls.GiveBack job) replies.Done step = ap (λ (x : State). x.journal) step ∙ sym (append-nil s.journal)
step-journal s t calls.Look (replies.Looked (Ok look)) step = ap (λ (x : State). x.journal) step.1 ∙ sym (append-nil s.journal)
step-journal s t calls.Look (replies.Looked (Err want)) step = ap (λ (x : State). x.journal) step ∙ sym (append-nil s.journal)
step-journal s t call reply step = absurd step

pub leads-journal : (s t : State) (es : Entries) → Leads Step s es t → t.journal ≡ s.journal ++ accepted_edits es
leads-journal s t [] leads = ap (λ (x : State). x.journal) (sym leads) ∙ sym (append-nil s.journal)
leads-journal s t (e ∷ es) leads =
    leads-journal leads.0 t es leads.2
    ∙ (ap (λ l. l ++ accepted_edits es) (step-journal s leads.0 e.call e.reply leads.1)
    ∙ (append_assoc s.journal (accepted_by e.call e.reply) (accepted_edits es)
    ∙ ap (λ l. s.journal ++ l) (sym (flat_map-cons (λ (x : Entry BoardCall BoardReply). accepted_by x.call x.reply) e es))))

-- an entry of another seat accepts no edit
other-none : (number : ℕ) (mine : Entries) (call : BoardCall) (reply : BoardReply) → May number mine call → eqb number editor ≡ false → accepted_by call reply ≡ []
other-none number mine (calls.Edit edit) reply may other = let own : eqb number editor ≡ true = eq-eqb number editor may in cc
other-none number mine calls.Take reply may other = refl
other-none number mine calls.Finish reply may other = refl
other-none number mine (calls.Offer answer) reply may other = refl
other-none number mine (calls.GiveBack job) reply may other = refl
other-none number mine calls.Look reply may other = refl

pub editors-all : (before es : Entries) → EachAllowed May before es → accepted_edits (entries_of editor es) ≡ accepted_edits es
editors-all before [] allowed = refl
editors-all before (e ∷ es) allowed = go (eqb e.number editor) refl (editors-all (before ++ e ∷ []) es allowed.1) where
  go : (test : Bool) → eqb e.number editor ≡ test → accepted_edits (entries_of editor es) ≡ accepted_edits es
      → accepted_edits (cond test (e ∷ entries_of editor es) (entries_of editor es)) ≡ accepted_edits (e ∷ es)
  go true t rest =
      flat_map-cons (λ (x : Entry BoardCall BoardReply). accepted_by x.call x.reply) e (entries_of editor es)
      ∙ (ap (λ l. accepted_by e.call e.reply ++ l) rest ∙ sym (flat_map-cons (λ (x : Entry BoardCall BoardReply). accepted_by x.call x.reply) e es))
  go false t rest =
      rest ∙ (ap (λ l. l ++ accepted_edits es) (sym (other-none e.number (entries_of e.number before) e.call e.reply allowed.0 t))
      ∙ sym (flat_map-cons (λ (x : Entry BoardCall BoardReply). accepted_by x.call x.reply) e es))

-- ---- the law

pub length-rows : (journal : List Edit) (rows : List Row) (rs : List Receiver) → map (λ (row : Row). row.receiver) rows ≡ rs → length (map (look_row journal) rows) ≡ length rs
length-rows journal [] rs e = ap length e
length-rows journal (row ∷ rows) [] e = cc
length-rows journal (row ∷ rows) (r ∷ rs) e = let tails : map (λ (x : Row). x.receiver) rows ≡ rs = cc in let n = length-rows journal rows rs tails in omega (arith, n)

pub runs-show-right : UntouchedReceiversStayInTurn → RunsShowRight
runs-show-right stays history state run =
    let fair = fair-run history state run in
    record {
      journal = leads-journal start state history run.leads;
      editors = editors-all [] history run.allowed;
      look = record {
        version = refl;
        rows = subst (λ rs. AreRowsOf state.journal rs (map (look_row state.journal) state.rows)) fair.order (rows-right stays state.journal fair.accepted state.rows fair.right);
        few = let n = length-rows state.journal state.rows (newest_scene state.journal).receivers fair.order in omega (arith, n, fair.fine.few);
      };
      settled = λ none. rows-settled stays state.journal fair.accepted state.rows fair.right none ∙ ap (map (settled_row (newest_scene state.journal))) fair.order;
    }
