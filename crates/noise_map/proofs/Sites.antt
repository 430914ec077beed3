-- What the lines of a generated site come to.
use Rattle.std.proofs.Common.{◌≡◌, ℕ, ◌+◌, ◌<◌, ◌≤◌, ◌-◌, ◌==◌, List, [], ◌∷◌, length, take, drop, map, ◌++◌, refl, sym, ap, subst, append_assoc, ◌∙◌, arith}
use Rattle.std.specs.Prelude.{Option, Some, None, unwrap_or, position, Bool, true, false, nat_lt, fold, slice_get}
use Rattle.std.proofs.lemmas.List.{take_all, length-drop, length-append}
use Rattle.std.proofs.Math.Seq.{drop-length, take-append_seam}
use Rattle.std.proofs.lemmas.List.Sums.{fold-append}
use Rattle.fix_interval.specs.Interval.{Interval}
use Rattle.map_io.specs.Lines.{lines}
use Rattle.map_io.specs.LineLaws.{lines-line, lines-last, lines-empty}
use Rattle.map_io.proofs.Scanning.{plain_before_feed, split_at_feed, plain_without_feed}
use Rattle.noise_map.specs.inner.FirstLine.{IsFirstLine}
use Rattle.noise_map.specs.declared.lines.answer.Answer.{Answer}
use Rattle.noise_map.specs.declared.run.editor.Editor.{Editor}
use Rattle.scene_parts.specs.Parts.{Receiver}
use Rattle.scene_book.specs.Book.{Book}
use Rattle.scene_book.specs.declared.edits.Edit.{Edit}
use Rattle.map_board.specs.declared.looks.LookAll.{LookAll}
use Rattle.map_board.specs.declared.looks.LookRow.{LookRow}
use Rattle.map_board.specs.Journal.{newest_scene}
use Rattle.map_board.specs.Showing.{accepted_edits, settled_row, settled_rows}
use Rattle.map_lock.specs.Seats.{BoardSeat, BoardEntry}
use Rattle.map_lock.specs.Settling.{IsQuiet, is_look}
use Rattle.map_text.specs.declared.stopped.Stopped.TheVariants as stops
use Rattle.map_text.specs.SiteSummary.{no_level, widened, span_with, span_of_rows}
use Rattle.map_text.specs.Taking.{TakesFront}
use Rattle.map_text.proofs.Fronts.{row-begun}
use Rattle.map_board.specs.Seats.{Entries}
use Rattle.noise_map.specs.Demands.{demand_of}
use Rattle.noise_map.specs.Effects.{Display, silent, refused, settled, known, contoured, Past, past_with, Effect, effect_of, journal_with, journal_with_all, Point, at_start, passed_line, point_after}
use Rattle.noise_map.specs.Texts.{answer_to, settled_by, looked_by, contoured_by}
use Rattle.noise_map.specs.Ways.{looks_in, look_entry, edit_entry, edit_entries, Settles, DoesLook}
use Rattle.noise_map.specs.inner.Steps.{HasMet}
use Rattle.noise_map.proofs.Ways.{looks_in-append, looks_in-one}
use Rattle.noise_map.proofs.KeptVersions.{all-each}
use Rattle.noise_map.proofs.Meeting.{no-looks}
use Rattle.noise_map.specs.SiteSummary.{total_in, span_in, Made, made_showing, made_with, summary_of, made_after, made_by, nothing_made, site_lines, site_made, site_row, MakesRow}
use Rattle.noise_map.specs.inner.Adding.{made_with_answer}
use Rattle.noise_map.specs.declared.run.status.Status.{Status}
use Rattle.noise_map.specs.inner.Progress.{status_at_end, LinesDone, HasEnded, SiteEnded}
use Rattle.noise_map.specs.declared.run.status.Status.TheVariants as status
use Rattle.map_io.specs.Putting.{TakesPart}
use Rattle.std.specs.Option.{option_map}
use Rattle.std.specs.Io.KnownBytes.{Appends}

-- ---- lines

-- what is left behind a place
abbrev behind : ℕ → List ℕ → List ℕ
behind n bytes = take (length bytes - n) (drop n bytes)

behind-is : (n : ℕ) (bytes : List ℕ) → behind n bytes ≡ drop n bytes
behind-is n bytes = take_all (length bytes - n) (drop n bytes) (omega (arith, length-drop n bytes))

pub line-ended : (bytes : List ℕ) (i : ℕ) → position (λ b. b == 10) bytes ≡ Some i → IsFirstLine bytes (Some (take i bytes, behind (i + 1) bytes))
line-ended bytes i found =
    let whole = split_at_feed bytes i found in
    let rest = behind-is (i + 1) bytes in
    let some = ap length whole ∙ length-append (take i bytes) (10 ∷ drop (i + 1) bytes) in (
      ap lines whole ∙ lines-line (take i bytes) (drop (i + 1) bytes) (plain_before_feed bytes i found) ∙ ap (λ after. take i bytes ∷ lines after) (sym rest),
      omega (arith, ap length rest, length-drop (i + 1) bytes, some),
    )

pub line-unended : (bytes : List ℕ) → position (λ b. b == 10) bytes ≡ None → 0 < length bytes → IsFirstLine bytes (Some (bytes, behind (length bytes) bytes))
line-unended bytes none some =
    let rest = behind-is (length bytes) bytes ∙ drop-length bytes in (
      lines-last bytes (plain_without_feed bytes none) some ∙ ap (λ ls. bytes ∷ ls) (sym lines-empty) ∙ ap (λ after. bytes ∷ lines after) (sym rest),
      omega (arith, ap length rest, some),
    )

-- ---- what one more line comes to

-- the levels of a settled board
span-rows : (book : Book) (span : Option Interval) (rs : List Receiver)
    → fold (λ s (row : LookRow). span_with s row.shown) span (map (settled_row book) rs) ≡ fold widened span (map (total_in book) rs)
span-rows book span [] = refl
span-rows book span (r ∷ rs) = span-rows book (widened span (total_in book r)) rs

span-settled : (book : Book) → span_of_rows (settled_rows book) ≡ span_in book
unfolding span_of_rows span_in
span-settled book = ap (λ (o : Option Interval). unwrap_or o no_level) (span-rows book None book.receivers)

settled-length : (book : Book) (rs : List Receiver) → length (map (settled_row book) rs) ≡ length rs
settled-length book [] = refl
settled-length book (r ∷ rs) = let n = settled-length book rs in omega (arith, n)

-- the look of a settle is the only one of its entries
settled-look : (history own : Entries) (journal : List Edit) (added : Entries) (does : Settles history own journal added) → looks_in added ≡ does.look ∷ []
settled-look history own journal added does =
    ap looks_in does.is
    ∙ (looks_in-append does.work (look_entry does.look ∷ [])
    ∙ (ap (λ (ls : List LookAll). ls ++ looks_in (look_entry does.look ∷ [])) (no-looks does.work (all-each IsQuiet (λ (e : BoardEntry). is_look e.reply ≡ false) (λ e q. q.no_look) does.work does.quiet))
    ∙ looks_in-one (look_entry does.look)))

edits-unlooked : (journal edits : List Edit) → looks_in (edit_entries journal edits) ≡ []
edits-unlooked journal [] = refl
edits-unlooked journal (edit ∷ more) =
    looks_in-append (edit_entry journal edit ∷ []) (edit_entries (journal_with journal edit) more)
    ∙ (ap (λ (ls : List LookAll). ls ++ looks_in (edit_entries (journal_with journal edit) more)) (looks_in-one (edit_entry journal edit)) ∙ edits-unlooked (journal_with journal edit) more)

-- what one more line that is shown so adds, by its answer
showing-more : (made : Made) (history own : Entries) (display : Display) (looked : Entries) → DoesLook history own made.past.journal display looked
    → made_with_answer (summary_of made) (answer_to display (slice_get (looks_in looked) 0)) ≡ summary_of (made_showing made display)
showing-more made history own silent looked does = refl
showing-more made history own (refused fault) looked does = refl
showing-more made history own settled looked does =
    let book = newest_scene made.past.journal in
    let looks : looks_in looked ≡ does.look ∷ [] = settled-look history own made.past.journal looked does in
    ap (λ (ls : List LookAll). made_with_answer (summary_of made) (settled_by (slice_get ls 0))) looks
    ∙ (λ i. record {
      refused = made.refused;
      receivers = (ap length does.rows ∙ settled-length book book.receivers) i;
      span = (ap span_of_rows does.rows ∙ span-settled book) i;
    })
showing-more made history own known looked does = known-adds (slice_get (looks_in looked) 0) where
  known-adds : (o : Option LookAll) → made_with_answer (summary_of made) (looked_by o) ≡ summary_of made
  known-adds None = refl
  known-adds (Some look) = refl
showing-more made history own (contoured contour) looked does = contour-adds (slice_get (looks_in looked) 0) where
  contour-adds : (o : Option LookAll) → made_with_answer (summary_of made) (contoured_by contour o) ≡ summary_of made
  contour-adds None = refl
  contour-adds (Some look) = refl

-- what a line that was carried out adds, by its answer
pub made-more : (made : Made) (seat after : BoardSeat) (effect : Effect) (answer : Answer) → accepted_edits seat.mine ≡ made.past.journal → HasMet seat effect answer after
    → made_with_answer (summary_of made) answer ≡ summary_of (made_with made effect)
made-more made seat after effect answer journal met =
    let does = met.does in
    let edits = edit_entries (accepted_edits seat.mine) effect.edits in
    let looks : looks_in met.added ≡ looks_in does.looked =
    ap looks_in does.is ∙ (looks_in-append edits does.looked ∙ ap (λ (ls : List LookAll). ls ++ looks_in does.looked) (edits-unlooked (accepted_edits seat.mine) effect.edits)) in
    ap (made_with_answer (summary_of made)) (met.answered ∙ ap (λ (ls : List LookAll). answer_to effect.display (slice_get ls 0)) looks)
    ∙ showing-more (record made { past = past_with made.past effect }) after.seen (seat.mine ++ edits) effect.display does.looked
    (subst (λ (es : List Edit). DoesLook after.seen (seat.mine ++ edits) (journal_with_all es effect.edits) effect.display does.looked) journal does.looks)

showing-refused : (made : Made) (display : Display) → (made_showing made display).refused ≤ made.refused + 1
showing-refused made silent = omega arith
showing-refused made (refused fault) = omega arith
showing-refused made settled = omega arith
showing-refused made known = omega arith
showing-refused made (contoured contour) = omega arith

pub with-refused : (made : Made) (effect : Effect) → (made_with made effect).refused ≤ made.refused + 1
with-refused made effect = showing-refused (record made { past = past_with made.past effect }) effect.display

showing-past : (made : Made) (display : Display) → (made_showing made display).past ≡ made.past
showing-past made silent = refl
showing-past made (refused fault) = refl
showing-past made settled = refl
showing-past made known = refl
showing-past made (contoured contour) = refl

with-past : (made : Made) (effect : Effect) → (made_with made effect).past ≡ past_with made.past effect
with-past made effect = showing-past (record made { past = past_with made.past effect }) effect.display

-- ---- the end

none-refused : (n : ℕ) → false ≡ nat_lt 0 n → n ≡ 0
none-refused n test = grind (arith, test)

some-refused : (n : ℕ) → true ≡ nat_lt 0 n → 0 < n
some-refused n test = grind (arith, test)

-- how a run ends that has written its row: by whether lines were refused
pub ended : (number count refusals : ℕ) (before after : Option (List ℕ)) → count ≡ length (site_lines number) → refusals ≡ (site_made number).refused → Appends before after (site_row number) → (test : Bool) → test ≡ nat_lt 0 refusals
    → MakesRow number (status_at_end test) count before after
ended number count refusals before after all is row true test = (all, subst (λ (n : ℕ). 0 < n) is (some-refused refusals test), row)
ended number count refusals before after all is row false test = (all, sym is ∙ none-refused refusals test, row)

pub way-at-end : (test : Bool) (before : BoardSeat) (editor : Editor) (done : List (List ℕ)) → LinesDone before editor done → HasEnded (status_at_end test) done before editor.seat
way-at-end true before editor done did = record { same = did.same; way = did.way }
way-at-end false before editor done did = record { same = did.same; way = did.way }

-- how a run ends that lacked memory
pub unmade : (number k : ℕ) (before seat : BoardSeat) (taken : Option (List ℕ)) → k ≤ length (site_lines number) → HasEnded status.NoMemory (take k (site_lines number)) before seat
    → (s : Status) (n : ℕ) → s ≡ status.NoMemory → n ≡ k → SiteEnded number s n (λ done. HasEnded s done before seat) taken taken
unmade number k before seat taken few ended s n is count =
    subst (λ (x : Status). SiteEnded number x n (λ done. HasEnded x done before seat) taken taken) (sym is)
    (subst (λ (m : ℕ). SiteEnded number status.NoMemory m (λ done. HasEnded status.NoMemory done before seat) taken taken) (sym count)
    (record { writes = (few, refl); goes = ended }))

-- a part of the row was taken
pub broken_off : (number count : ℕ) (before after : Option (List ℕ)) (row : List ℕ) → count ≡ length (site_lines number) → row ≡ site_row number → TakesPart before after row → MakesRow number status.WriteFault count before after
broken_off number count before after row all is part = (all, subst (λ (r : List ℕ). TakesFront stops.WriteFault before after (r ∷ [])) is (row-begun before after row part))

-- bytes of which no line comes first
pub no-line : {A : Type 0} (bytes : List ℕ) (found : Option A) (both : A → List ℕ × List ℕ) → IsFirstLine bytes (option_map both found) → found ≡ None → bytes ≡ []
no-line bytes found both first none = rw none at first

-- ---- the lines of a site, one after another

-- one line more of a list
line-step : (all : List (List ℕ)) (k : ℕ) (line : List ℕ) (more : List (List ℕ)) → take k all ++ line ∷ more ≡ all → k + length (line ∷ more) ≡ length all
    → take (k + 1) all ≡ take k all ++ line ∷ []
line-step all k line more whole counted =
    let front = take k all in
    let n : length front + length (line ∷ more) ≡ length all = sym (length-append front (line ∷ more)) ∙ ap length whole in
    let size : length (front ++ line ∷ []) ≡ k + 1 = omega (arith, n, counted, length-append front (line ∷ [])) in
    let again : (front ++ line ∷ []) ++ more ≡ all = append_assoc front (line ∷ []) more ∙ whole in
    (λ i. take (sym size i) (sym again i)) ∙ take-append_seam (front ++ line ∷ []) more

pub line-whole : (all : List (List ℕ)) (k : ℕ) (line : List ℕ) (more : List (List ℕ)) → take k all ++ line ∷ more ≡ all → k + length (line ∷ more) ≡ length all
    → take (k + 1) all ++ more ≡ all
line-whole all k line more whole counted =
    ap (λ l. l ++ more) (line-step all k line more whole counted) ∙ (append_assoc (take k all) (line ∷ []) more ∙ whole)

-- The next line of a site: behind so many of its lines stands a first line, and others.
pub record NextLine (all : List (List ℕ)) (k : ℕ) (line after : List ℕ) : Type 0 where
  pub whole : take k all ++ line ∷ lines after ≡ all
  pub counted : k + length (line ∷ lines after) ≡ length all
  pub step : take (k + 1) all ≡ take k all ++ line ∷ []

pub next-line : (all : List (List ℕ)) (k : ℕ) (rest line after : List ℕ) → IsFirstLine rest (Some (line, after)) → take k all ++ lines rest ≡ all → k + length (lines rest) ≡ length all
    → NextLine all k line after
next-line all k rest line after parts whole counted =
    let here : take k all ++ line ∷ lines after ≡ all = ap (λ l. take k all ++ l) (sym parts.0) ∙ whole in
    let count : k + length (line ∷ lines after) ≡ length all = omega (arith, counted, ap length parts.0) in
    record { whole = here; counted = count; step = line-step all k line (lines after) here count }

pub made-push : (done : List (List ℕ)) (line : List ℕ) → made_by (done ++ line ∷ []) ≡ made_after (made_by done) line
made-push done line = fold-append made_after nothing_made done (line ∷ [])

-- what they leave
made-past-from : (made : Made) (point : Point) (done : List (List ℕ)) → made.past ≡ point.past → (fold made_after made done).past ≡ (fold passed_line point done).past
made-past-from made point [] same = same
made-past-from made point (line ∷ more) same =
    made-past-from (made_after made line) (passed_line point line) more
    (with-past made (effect_of made.past (demand_of line)) ∙ ap (λ (p : Past). past_with p (effect_of p (demand_of line))) same)

pub made-past : (done : List (List ℕ)) → (made_by done).past ≡ (point_after done).past
made-past done = made-past-from nothing_made at_start done refl
