-- A line was done behind others.
use Rattle.std.proofs.Common.{◌≡◌, ℕ, ◌+◌, Bool, ◌||◌, List, [], ◌∷◌, ◌++◌, length, refl, sym, ap, ◌∙◌, subst, arith, inl, inr, length-append}
use Rattle.std.specs.Prelude.{Option, slice_get}
use Rattle.std.specs.Io.KnownBytes.{Appends}
use Rattle.std.proofs.KnownBytes.{Appends-nil, Appends-trans}
use Rattle.std.proofs.lemmas.List.{append-nil}
use Rattle.command_words.specs.declared.line.CommandLine.{CommandLine}
use Rattle.map_io.specs.Lines.{all_but_last}
use Rattle.turn_lock.proofs.Histories.{begins_self, begins_trans}
use Rattle.map_board.specs.declared.looks.LookAll.{LookAll}
use Rattle.map_board.specs.Seats.{Entries}
use Rattle.map_board.specs.Showing.{accepted_edits}
use Rattle.map_lock.specs.Seats.{BoardSeat}
use Rattle.noise_map.specs.declared.lines.answer.Answer.{Answer}
use Rattle.noise_map.specs.declared.run.editor.Editor.{Editor}
use Rattle.map_text.specs.declared.stopped.Stopped.{Stopped}
use Rattle.map_text.specs.declared.stopped.Stopped.TheVariants as stops
use Rattle.noise_map.specs.declared.run.status.Status.TheVariants as status
use Rattle.noise_map.specs.Demands.{demand_of}
use Rattle.noise_map.specs.Effects.{Past, past_with, Effect, effect_of, effect_at, looks_asked, is_refused, Point, at_start, point_after}
use Rattle.noise_map.specs.Texts.{answer_to, rows_of, line_rows, text_of}
use Rattle.noise_map.specs.Ways.{looks_in, HasEffect, EditorRun, and_line, LastLineFailed}
use Rattle.map_text.specs.Taking.{joined, TakesFront}
use Rattle.noise_map.specs.inner.Steps.{past_of, HasGone, HasMet, HasFollowed, HasFailed, is_refusal}
use Rattle.noise_map.specs.inner.Progress.{IsSameSeat, LinesDone, RowsWritten, HasEnded, status_of}
use Rattle.noise_map.specs.Outcome.{TakesPartOf}
use Rattle.noise_map.proofs.Ways.{looks_in-append, way-grown}
use Rattle.map_text.proofs.Fronts.{joined-append, on-from}
use Rattle.noise_map.proofs.Effects.{point-push, text-push, text-more, get-behind, refusal-is, count-is}

pub same-gone : (before seat after : BoardSeat) (added : Entries) → IsSameSeat before seat → HasGone seat added after → IsSameSeat before after
same-gone before seat after added same goes = record {
  seen = begins_trans same.seen goes.seen;
  table = goes.table ∙ same.table;
  number = goes.number ∙ same.number;
  parts = goes.parts ∙ same.parts;
  joined = goes.joined ∙ same.joined;
}

pub same-self : (seat : BoardSeat) → IsSameSeat seat seat
same-self seat = record { seen = begins_self seat.seen; table = refl; number = refl; parts = refl; joined = refl }

-- the looks of a seat that went on
pub looks-gone : (seat after : BoardSeat) (added : Entries) → HasGone seat added after → looks_in after.mine ≡ looks_in seat.mine ++ looks_in added
looks-gone seat after added goes = ap looks_in goes.mine ∙ looks_in-append seat.mine added

-- what the line comes to behind what the lines before have left to the editor
abbrev pub comes_to : Editor → List ℕ → Effect
comes_to editor line = effect_of (past_of editor) (demand_of line)

pub way-push : (editor : Editor) (after : BoardSeat) (done : List (List ℕ)) (line : List ℕ) (added : Entries) → EditorRun editor.seat.seen done editor.seat.mine → past_of editor ≡ (point_after done).past
    → HasGone editor.seat added after → HasEffect after.seen editor.seat.mine (accepted_edits editor.seat.mine) (comes_to editor line) added → EditorRun after.seen (done ++ line ∷ []) after.mine
way-push editor after done line added way past goes does =
    let seat = editor.seat in
    subst (EditorRun after.seen (done ++ line ∷ [])) (sym goes.mine)
    (and_line done line seat.mine added (way-grown seat.seen after.seen done seat.mine way goes.seen)
    (subst (λ (p : Past). HasEffect after.seen seat.mine p.journal (effect_of p (demand_of line)) added) past does))

module _ (before : BoardSeat) (editor after_line : Editor) (done : List (List ℕ)) (line : List ℕ) (answer : Answer) (did : LinesDone before editor done)
    (met : HasMet editor.seat (comes_to editor line) answer after_line.seat) (followed : HasFollowed editor (comes_to editor line) after_line) where
  abbrev seat : BoardSeat
  seat = editor.seat

  abbrev after : BoardSeat
  after = after_line.seat

  pub did-more : LinesDone before after_line (done ++ line ∷ [])
  did-more = record {
    same = same-gone before seat after met.added did.same met.goes;
    way = way-push editor after done line met.added did.way did.past met.goes met.does;
    past =
        followed.past
        ∙ (ap (λ (p : Past). past_with p (effect_of p (demand_of line))) did.past ∙ ap (λ (p : Point). p.past) (sym (point-push done line)));
    asked =
        ap (λ (p : Point). p.asked) (point-push done line)
        ∙ (ap (λ n. n + looks_asked (effect_at (point_after done) line).display) did.asked
        ∙ (ap (λ n. length (looks_in seat.mine) + n) (ap (λ (p : Past). looks_asked (effect_of p (demand_of line)).display) (sym did.past) ∙ sym met.asked)
        ∙ (sym (length-append (looks_in seat.mine) (looks_in met.added)) ∙ ap length (sym (looks-gone seat after met.added met.goes)))));
    unfinished = met.goes.unfinished did.unfinished;
  }

  -- the rows of the line are its text
  pub line-rows-are : (words : CommandLine) → line_rows words (looks_in after.mine) (point_after done) line ≡ rows_of words (length done + 1) (length (accepted_edits seat.mine)) answer
  unfolding line_rows
  line-rows-are words =
      let looks = looks-gone seat after met.added met.goes in
      let there : slice_get (looks_in after.mine) (point_after done).asked ≡ slice_get (looks_in met.added) 0 =
      (λ i. slice_get (looks i) (did.asked i)) ∙ get-behind (looks_in seat.mine) (looks_in met.added) in
      let said : answer_to (effect_at (point_after done) line).display (slice_get (looks_in after.mine) (point_after done).asked) ≡ answer =
      (λ i. answer_to (effect_of (sym did.past i) (demand_of line)).display (there i)) ∙ sym met.answered in
      λ i. rows_of words (count-is done i + 1) (length ((sym did.past i).journal)) (said i)

  text-before : (words : CommandLine) → text_of words (looks_in after.mine) done ≡ text_of words (looks_in seat.mine) done
  text-before words =
      ap (λ (ls : List LookAll). text_of words ls done) (looks-gone seat after met.added met.goes)
      ∙ text-more words (looks_in seat.mine) (looks_in met.added) at_start done (omega (arith, did.asked))

  -- the text with this line
  pub text-then : (words : CommandLine)
      → text_of words (looks_in after.mine) (done ++ line ∷ []) ≡ text_of words (looks_in seat.mine) done ++ rows_of words (length done + 1) (length (accepted_edits seat.mine)) answer
  text-then words =
      let here = line-rows-are words in
      let front = text-before words in
      text-push words (looks_in after.mine) at_start done line ∙ (λ i. front i ++ here i)

  pub told-more : (words : CommandLine) (refused : Bool) (taken_before taken_now taken_after : Option (List ℕ)) → RowsWritten words refused seat taken_before taken_now done
      → Appends taken_now taken_after (joined (rows_of words (length done + 1) (length (accepted_edits seat.mine)) answer))
      → RowsWritten words (refused || is_refusal answer) after taken_before taken_after (done ++ line ∷ [])
  told-more words refused taken_before taken_now taken_after told wrote =
      let look = slice_get (looks_in met.added) 0 in
      record {
        refused_is =
            ap (λ (p : Point). p.refused) (point-push done line)
            ∙ (λ i. told.refused_is i || (ap (λ (p : Past). is_refused (effect_of p (demand_of line)).display) (sym did.past)
            ∙ (sym (refusal-is (comes_to editor line).display look) ∙ ap is_refusal (sym met.answered))) i);
        written =
            let text = text_of words (looks_in seat.mine) done in
            let rows = rows_of words (length done + 1) (length (accepted_edits seat.mine)) answer in
            subst (Appends taken_before taken_after) (sym (joined-append text rows) ∙ ap joined (sym (text-then words)))
            (Appends-trans taken_before taken_now taken_after (joined text) (joined rows) told.written wrote);
      }

pub all_but_last-push : (done : List (List ℕ)) (line : List ℕ) → all_but_last (done ++ line ∷ []) ≡ done
all_but_last-push [] line = refl
all_but_last-push (first ∷ []) line = refl
all_but_last-push (first ∷ second ∷ more) line = ap (λ ls. first ∷ ls) (all_but_last-push (second ∷ more) line)

-- ---- lines that were broken off

-- the rows of the last line, or some of them
pub broken-told : (stopped : Stopped) (words : CommandLine) (refused : Bool) (before : BoardSeat) (editor after_line : Editor) (taken_before taken_now taken_after : Option (List ℕ)) (done : List (List ℕ)) (line : List ℕ) (answer : Answer)
    → LinesDone before editor done → HasMet editor.seat (comes_to editor line) answer after_line.seat → HasFollowed editor (comes_to editor line) after_line → RowsWritten words refused editor.seat taken_before taken_now done
    → TakesFront stopped taken_now taken_after (rows_of words (length done + 1) (length (accepted_edits editor.seat.mine)) answer)
    → TakesPartOf stopped words (looks_in after_line.seat.mine) taken_before taken_after (done ++ line ∷ [])
broken-told stopped words refused before editor after_line taken_before taken_now taken_after done line answer did met followed told takes =
    let seat = editor.seat in
    let after = after_line.seat in
    let others : text_of words (looks_in after.mine) (all_but_last (done ++ line ∷ [])) ≡ text_of words (looks_in seat.mine) done =
    ap (text_of words (looks_in after.mine)) (all_but_last-push done line) ∙ text-before before editor after_line done line answer did met followed words in
    record {
      front = takes.front;
      part = takes.part;
      rest = takes.rest;
      text = text-then before editor after_line done line answer did met followed words ∙ (λ i. sym others i ++ takes.parts i);
      begun = takes.begun;
      taken =
          subst (λ (rows : List (List ℕ)). Appends taken_before taken_after (joined (rows ++ takes.front) ++ takes.part)) (sym others)
          (on-from taken_before taken_now taken_after (text_of words (looks_in seat.mine) done) takes.front takes.part told.written takes.taken);
    }

-- nothing of the last line
pub failed-told : (words : CommandLine) (refused : Bool) (editor : Editor) (after : BoardSeat) (taken_before taken_now taken_after : Option (List ℕ)) (done : List (List ℕ)) (line : List ℕ)
    → HasFailed editor.seat (comes_to editor line) after → RowsWritten words refused editor.seat taken_before taken_now done → Appends taken_now taken_after []
    → TakesPartOf stops.NoMemory words (looks_in after.mine) taken_before taken_after (done ++ line ∷ [])
failed-told words refused editor after taken_before taken_now taken_after done line failed told none =
    let seat = editor.seat in
    let looks : looks_in after.mine ≡ looks_in seat.mine =
    looks-gone seat after failed.added failed.goes ∙ (ap (λ (l : List LookAll). looks_in seat.mine ++ l) failed.unanswered ∙ append-nil (looks_in seat.mine)) in
    let text = text_of words (looks_in seat.mine) done in
    let others : text_of words (looks_in after.mine) (all_but_last (done ++ line ∷ [])) ≡ text = λ i. text_of words (looks i) (all_but_last-push done line i) in
    record {
      front = [];
      part = [];
      rest = line_rows words (looks_in seat.mine) (point_after done) line;
      text =
          ap (λ (ls : List LookAll). text_of words ls (done ++ line ∷ [])) looks
          ∙ (text-push words (looks_in seat.mine) at_start done line ∙ ap (λ (rows : List (List ℕ)). rows ++ line_rows words (looks_in seat.mine) (point_after done) line) (sym others));
      begun = refl;
      taken =
          subst (λ (rows : List (List ℕ)). Appends taken_before taken_after (joined (rows ++ []) ++ [])) (sym others)
          (on-from taken_before taken_now taken_after text [] [] told.written none);
    }

pub failed-way : (before : BoardSeat) (editor : Editor) (after : BoardSeat) (done : List (List ℕ)) (line : List ℕ) → LinesDone before editor done → HasFailed editor.seat (comes_to editor line) after
    → HasEnded status.NoMemory (done ++ line ∷ []) before after
failed-way before editor after done line did failed =
    let seat = editor.seat in
    record {
      same = same-gone before seat after failed.added did.same failed.goes;
      way = inr (record {
        before = done;
        line = line;
        whole = refl;
        front = seat.mine;
        added = failed.added;
        way = way-grown seat.seen after.seen done seat.mine did.way failed.goes.seen;
        fails = subst (λ (p : Past). LastLineFailed p.journal (effect_of p (demand_of line)) failed.added) did.past failed.fails;
        own_is = failed.goes.mine;
      });
    }

pub stopped-way : (stopped : Stopped) (before : BoardSeat) (editor : Editor) (done : List (List ℕ)) → LinesDone before editor done → HasEnded (status_of stopped) done before editor.seat
stopped-way stops.WriteFault before editor done did = record { same = did.same; way = did.way }
stopped-way stops.NoMemory before editor done did = record { same = did.same; way = inl did.way }

-- of no lines nothing was written
pub nothing-told : (words : CommandLine) (looks : List LookAll) (taken : Option (List ℕ)) → TakesPartOf stops.NoMemory words looks taken taken []
nothing-told words looks taken = record { front = []; part = []; rest = []; text = refl; begun = refl; taken = Appends-nil taken }
