-- How a run over an input ends, and how its seats come together.
use Rattle.std.proofs.Common.{◌≡◌, ℕ, ◌+◌, ◌≤◌, Bool, true, false, ◌||◌, List, [], ◌∷◌, ◌++◌, length, take, Some, None, refl, sym, ap, ◌∙◌, subst, inl, inr, append_assoc, arith}
use Rattle.std.specs.Prelude.{Option, Ok, Err, All}
use Rattle.std.specs.Io.KnownBytes.{Appends}
use Rattle.std.proofs.KnownBytes.{Appends-nil}
use Rattle.std.proofs.lemmas.List.{append-nil}
use Rattle.std.proofs.lemmas.List.Elements.{All-nil, All-head}
use Rattle.command_words.specs.declared.line.CommandLine.{CommandLine}
use Rattle.map_io.specs.declared.reader.Stop.TheVariants.{Going}
use Rattle.map_io.specs.declared.reader.Next.{Next}
use Rattle.map_io.specs.declared.reader.Next.TheVariants as next
use Rattle.map_io.specs.Reading.{Reading, NextGives, fresh, bytes_read, input_limit, read_size}
use Rattle.turn_lock.specs.History.{Begins, entry}
use Rattle.turn_lock.proofs.Histories.{begins_trans}
use Rattle.map_board.specs.declared.calls.BoardCall.TheVariants as calls
use Rattle.map_board.specs.declared.calls.BoardReply.TheVariants as replies
use Rattle.map_board.specs.declared.looks.LookAll.{LookAll}
use Rattle.map_board.specs.Seats.{Entries, editor}
use Rattle.map_lock.specs.Seats.{BoardSeat, BoardEntry, IsEditor}
use Rattle.map_board.specs.Showing.{accepted_edits}
use Rattle.map_lock.specs.Turns.{HasTurned}
use Rattle.map_lock.specs.Settling.{HasNotFinished, is_finish}
use Rattle.noise_map.specs.declared.run.editor.Editor.{Editor}
use Rattle.scene_undo.specs.declared.versions.KeptVersion.{KeptVersion}
use Rattle.scene_undo.specs.Versions.{kept_in}
use Rattle.map_text.specs.declared.stopped.Stopped.{Stopped}
use Rattle.map_text.specs.declared.stopped.Stopped.TheVariants as stops
use Rattle.noise_map.specs.declared.run.status.Status.{Status}
use Rattle.noise_map.specs.declared.run.status.Status.TheVariants as status
use Rattle.noise_map.specs.Effects.{point_after}
use Rattle.noise_map.specs.SiteSummary.{site_lines}
use Rattle.noise_map.specs.Texts.{text_of, rows_of}
use Rattle.noise_map.specs.Ways.{EditorRun, begun, looks_in}
use Rattle.noise_map.specs.Histories.{IsEditorRun}
use Rattle.map_text.specs.Taking.{joined, TakesFront}
use Rattle.noise_map.specs.inner.Steps.{IsKeptOf, Knows, is_refusal}
use Rattle.noise_map.specs.inner.Progress.{Read, IsSameSeat, LinesDone, Progress, HasWritten, HasEnded, HasFinished, Ended, AskedEnded, IsTextOf, ending_of, status_at_end, status_of}
use Rattle.noise_map.specs.Outcome.{Covers, CoversFront, Writes, TellsRefused, TakesPartOf}
use Rattle.noise_map.proofs.Ways.{looks_in-append, looks_in-one, is_way-grown}
use Rattle.noise_map.proofs.Doing.{same-self, did-more, told-more, broken-told, failed-told, nothing-told, failed-way, stopped-way}
use Rattle.noise_map.proofs.Reading.{StaysStopped, nothing_covered, started_as, read_ended, line_handed, read_more, text_held, covers_front}

-- ---- the beginning

-- an editor of no accepted edit keeps no version beside 0
nothing-kept : (at_first : Editor) → at_first.seat.mine ≡ [] → Knows at_first → at_first.kept.items ≡ []
nothing-kept at_first none knows = by at_first.kept.items (subst (λ (es : Entries). All (IsKeptOf (accepted_edits es)) at_first.kept.items) none knows.kept) where
  by : (kept : List KeptVersion) → All (IsKeptOf []) kept → kept ≡ []
  by [] all = refl
  by (one ∷ kept) all = let is = All-head (IsKeptOf []) one kept all in absurd (omega (arith, is.some, is.known))

-- a seat that has done nothing
went-none : (seat : BoardSeat) → seat.mine ≡ [] → IsSameSeat seat seat × EditorRun seat.seen [] seat.mine
went-none seat none = (same-self seat, subst (EditorRun seat.seen []) (sym none) begun)

-- an editor who has done nothing keeps version 0 alone
pub did-at-start : (at_first : Editor) → at_first.seat.mine ≡ [] → Knows at_first → LinesDone at_first.seat at_first []
did-at-start at_first none knows = record {
  same = (went-none at_first.seat none).0;
  way = (went-none at_first.seat none).1;
  past = λ i. record { journal = accepted_edits (none i); kept = kept_in (nothing-kept at_first none knows i) };
  asked = ap (λ (es : Entries). length (looks_in es)) (sym none);
  unfinished = subst HasNotFinished (sym none) (All-nil (λ (e : BoardEntry). is_finish e.call ≡ false));
}

pub started : (words : CommandLine) (r : Reading) (at_first : Editor) (left taken : Option (List ℕ)) → r ≡ fresh → at_first.seat.mine ≡ [] → Knows at_first
    → Progress words r 0 false at_first.seat at_first left left taken taken
started words r at_first left taken is none knows = record {
  done = [];
  read = started_as r left is;
  did = did-at-start at_first none knows;
  told = record { refused_is = refl; written = Appends-nil taken };
}

-- ---- the end

some_injective : {X : Type 0} {x y : X} → Some x ≡ Some y → x ≡ y
some_injective e = cc

-- where the reader ended the run, all lines were done, and all their rows were written
abbrev AsEnded : CommandLine → Status → BoardSeat → Option (List ℕ) → Option (List ℕ) → List (List ℕ) → Type 0
AsEnded words s seat taken_before taken_now done = Writes words (looks_in seat.mine) s taken_before taken_now done × IsEditorRun s seat.seen done seat.mine

at_end : (words : CommandLine) (refused : Bool) (seat : BoardSeat) (taken_before taken_now : Option (List ℕ)) (done : List (List ℕ))
    → Appends taken_before taken_now (joined (text_of words (looks_in seat.mine) done)) → EditorRun seat.seen done seat.mine → AsEnded words (status_at_end refused) seat taken_before taken_now done
at_end words true seat taken_before taken_now done written way = (written, way)
at_end words false seat taken_before taken_now done written way = (written, way)

as_ended : (words : CommandLine) (answer : Next) (refused : Bool) (s : Status) (seat : BoardSeat) (taken_before taken_now : Option (List ℕ)) (done : List (List ℕ)) → ending_of answer refused ≡ Some s
    → Appends taken_before taken_now (joined (text_of words (looks_in seat.mine) done)) → EditorRun seat.seen done seat.mine → AsEnded words s seat taken_before taken_now done
as_ended words (next.Line n) refused s seat taken_before taken_now done ends written way = cc
as_ended words next.LongLine refused s seat taken_before taken_now done ends written way = cc
as_ended words next.End refused s seat taken_before taken_now done ends written way =
    subst (λ (x : Status). AsEnded words x seat taken_before taken_now done) (some_injective ends) (at_end words refused seat taken_before taken_now done written way)
as_ended words next.ReadFault refused s seat taken_before taken_now done ends written way =
    subst (λ (x : Status). AsEnded words x seat taken_before taken_now done) (some_injective ends) (written, way)
as_ended words next.InputLimit refused s seat taken_before taken_now done ends written way =
    subst (λ (x : Status). AsEnded words x seat taken_before taken_now done) (some_injective ends) (written, way)

pub ended-reading : (words : CommandLine) (answer : Next) (s : Status) (r r' : Reading) (count : ℕ) (refused : Bool) (before : BoardSeat) (seat : Editor) (left now after taken_before taken_now : Option (List ℕ))
    → (p : Progress words r count refused before seat left now taken_before taken_now) → bytes_read r' ≤ input_limit
    → ending_of answer refused ≡ Some s → (r.stop ≡ Going → NextGives answer r r' now after) → StaysStopped answer r r' now after
    → Ended words s count (λ done. HasEnded s done before seat.seat) seat.seat left after taken_before taken_now
ended-reading words answer s r r' count refused before seat left now after taken_before taken_now p within ends gives stays =
    let covered = read_ended answer s r r' count refused left now after p.done p.read within ends gives stays in
    let written = as_ended words answer refused s seat.seat taken_before taken_now p.done ends p.told.written p.did.way in
    record {
      done = p.done;
      counted = p.read.counted;
      covers = covered.0;
      refused = subst (TellsRefused s) (sym p.told.refused_is) covered.1;
      writes = written.0;
      goes = record { same = p.did.same; way = written.1 };
    }

-- what a run says of its lines that was broken off
broken-says : (words : CommandLine) (stopped : Stopped) (refused : Bool) (looks : List LookAll) (left later taken_before taken_after : Option (List ℕ)) (done : List (List ℕ))
    → CoversFront left later done → TakesPartOf stopped words looks taken_before taken_after done
    → Covers (status_of stopped) left later done × TellsRefused (status_of stopped) refused × Writes words looks (status_of stopped) taken_before taken_after done
broken-says words stops.WriteFault refused looks left later taken_before taken_after done front part = (front, tt, part)
broken-says words stops.NoMemory refused looks left later taken_before taken_after done front part = (front, tt, part)

-- no memory was left for a reader
pub unread : (words : CommandLine) (seat : BoardSeat) (left taken : Option (List ℕ)) → seat.mine ≡ [] → (s : Status) (n : ℕ) → s ≡ status.NoMemory → n ≡ 0
    → Ended words s n (λ done. HasEnded s done seat seat) seat left left taken taken
unread words seat left taken none s n is count =
    let went = went-none seat none in
    let none_done : Ended words status.NoMemory 0 (λ done. HasEnded status.NoMemory done seat seat) seat left left taken taken = record {
      done = [];
      counted = refl;
      covers = nothing_covered left;
      refused = tt;
      writes = nothing-told words (looks_in seat.mine) taken;
      goes = record { same = went.0; way = inl went.1 };
    } in
    subst (λ (x : Status). Ended words x n (λ done. HasEnded x done seat seat) seat left left taken taken) (sym is)
    (subst (λ (m : ℕ). Ended words status.NoMemory m (λ done. HasEnded status.NoMemory done seat seat) seat left left taken taken) (sym count) none_done)

-- ---- one line more

module _ (words : CommandLine) (answer : Next) (held : List ℕ) (r r' : Reading) (count : ℕ) (refused : Bool) (before : BoardSeat) (seat after : Editor)
    (left now later taken_before taken_now taken_after : Option (List ℕ)) (p : Progress words r count refused before seat left now taken_before taken_now)
    (goes : ending_of answer refused ≡ None) (gives : r.stop ≡ Going → NextGives answer r r' now later) (stays : StaysStopped answer r r' now later)
    (within : bytes_read r' ≤ input_limit) (is : held ≡ r'.line) where
  abbrev this_line : List ℕ
  this_line = (line_handed answer r r' count refused left now later p.done p.read goes gives stays).line

  read-on : Read r' (count + 1) left later (p.done ++ this_line ∷ [])
  read-on = read_more answer r r' count refused left now later p.done p.read goes gives stays within

  this-text : IsTextOf answer held this_line
  this-text = text_held answer r r' count refused left now later p.done p.read goes gives stays held is

  abbrev On : Bool → Type 0
  On any = Progress words r' (count + 1) any before after left later taken_before taken_after

  pub turned : (one : Bool) → ((text : List ℕ) → IsTextOf answer held text → HasWritten (Ok one) words (count + 1) seat text after taken_now taken_after)
      → On (refused || one) × Knows after
  turned one does =
      let w = does this_line this-text in
      let on : On (refused || is_refusal w.0) = record {
        done = p.done ++ this_line ∷ [];
        read = read-on;
        did = did-more before seat after p.done this_line w.0 p.did w.1 w.2;
        told = told-more before seat after p.done this_line w.0 p.did w.1 w.2 words refused taken_before taken_now taken_after p.told
            (subst (λ n. Appends taken_now taken_after (joined (rows_of words (n + 1) (length (accepted_edits seat.seat.mine)) w.0))) (sym p.read.counted) w.3);
      } in
      (subst (λ (b : Bool). On (refused || b)) (sym w.4) on, w.2.knows)

  abbrev Broke : Status → Type 0
  Broke s = Ended words s (count + 1) (λ done. HasEnded s done before after.seat) after.seat left later taken_before taken_after

  broke-at : (stopped : Stopped) → TakesPartOf stopped words (looks_in after.seat.mine) taken_before taken_after (p.done ++ this_line ∷ []) → HasEnded (status_of stopped) (p.done ++ this_line ∷ []) before after.seat
      → length r'.pending ≤ read_size → Broke (status_of stopped)
  broke-at stopped part ended few =
      let front = covers_front r' (count + 1) left later (p.done ++ this_line ∷ []) read-on within few in
      let says = broken-says words stopped (point_after (p.done ++ this_line ∷ [])).refused (looks_in after.seat.mine) left later taken_before taken_after (p.done ++ this_line ∷ []) front part in
      record { done = p.done ++ this_line ∷ []; counted = read-on.counted; covers = says.0; refused = says.1; writes = says.2; goes = ended }

  broke-by : (stopped : Stopped) → HasWritten (Err stopped) words (count + 1) seat this_line after taken_now taken_after → length r'.pending ≤ read_size → Broke (status_of stopped)
  broke-by stopped (inl failed) few =
      subst (λ (x : Stopped). Broke (status_of x)) (sym failed.1)
      (broke-at stops.NoMemory
      (failed-told words refused seat after.seat taken_before taken_now taken_after p.done this_line failed.0 p.told failed.2)
      (failed-way before seat after.seat p.done this_line p.did failed.0) few)
  broke-by stopped (inr (said, met, followed, front)) few =
      broke-at stopped
      (broken-told stopped words refused before seat after taken_before taken_now taken_after p.done this_line said p.did met followed p.told
      (subst (λ n. TakesFront stopped taken_now taken_after (rows_of words (n + 1) (length (accepted_edits seat.seat.mine)) said)) (sym p.read.counted) front))
      (stopped-way stopped before after (p.done ++ this_line ∷ []) (did-more before seat after p.done this_line said p.did met followed)) few

  pub turned-off : (stopped : Stopped) → ((text : List ℕ) → IsTextOf answer held text → HasWritten (Err stopped) words (count + 1) seat text after taken_now taken_after)
      → length r'.pending ≤ read_size → Broke (status_of stopped)
  turned-off stopped does few = broke-by stopped (does this_line this-text) few

-- ---- the finish

pub finished : (s : Status) (done : List (List ℕ)) (before seat after : BoardSeat) → HasEnded s done before seat → HasTurned seat calls.Finish replies.Done after → IsEditor after
    → HasFinished s done before after
finished s done before seat after ended turn sound =
    let number : seat.number ≡ editor = sym turn.called.number ∙ sound.number in
    let e : BoardEntry = entry seat.number calls.Finish replies.Done in
    let seen : Begins seat.seen after.seen = record { rest = turn.called.between ++ e ∷ []; is = turn.called.seen ∙ append_assoc seat.seen turn.called.between (e ∷ []) } in
    record {
      sound = sound;
      own = seat.mine;
      own_is = turn.called.mine ∙ (λ i. seat.mine ++ entry (number i) calls.Finish replies.Done ∷ []);
      same = record {
        seen = begins_trans ended.same.seen seen;
        table = turn.called.table ∙ ended.same.table;
        number = turn.called.number ∙ ended.same.number;
        parts = turn.called.parts ∙ ended.same.parts;
        joined = turn.called.joined ∙ ended.same.joined;
      };
      way = is_way-grown s seat.seen after.seen done seat.mine ended.way seen;
    }

-- the looks of a seat that finished
pub finished-looks : (seat after : BoardSeat) → HasTurned seat calls.Finish replies.Done after → looks_in after.mine ≡ looks_in seat.mine
finished-looks seat after turn =
    let e : BoardEntry = entry seat.number calls.Finish replies.Done in
    ap looks_in turn.called.mine ∙ (looks_in-append seat.mine (e ∷ []) ∙ (ap (λ (l : List LookAll). looks_in seat.mine ++ l) (looks_in-one e) ∙ append-nil (looks_in seat.mine)))

pub finished-run : (words : CommandLine) (s : Status) (count : ℕ) (before seat after : BoardSeat) (left later taken_before taken_after : Option (List ℕ))
    → Ended words s count (λ done. HasEnded s done before seat) seat left later taken_before taken_after → HasTurned seat calls.Finish replies.Done after → IsEditor after
    → Ended words s count (λ done. HasFinished s done before after) after left later taken_before taken_after
finished-run words s count before seat after left later taken_before taken_after ended turn sound = record {
  done = ended.done;
  counted = ended.counted;
  covers = ended.covers;
  refused = ended.refused;
  writes = subst (λ (ls : List LookAll). Writes words ls s taken_before taken_after ended.done) (sym (finished-looks seat after turn)) ended.writes;
  goes = finished s ended.done before seat after ended.goes turn sound;
}

-- over the input, or over a generated site
pub finished-asked : (make : Option ℕ) (words : CommandLine) (s : Status) (count : ℕ) (before seat after : BoardSeat) (left later taken_before taken_after : Option (List ℕ))
    → AskedEnded make words s count (λ done. HasEnded s done before seat) seat left later taken_before taken_after → HasTurned seat calls.Finish replies.Done after → IsEditor after
    → AskedEnded make words s count (λ done. HasFinished s done before after) after left later taken_before taken_after
finished-asked None words s count before seat after left later taken_before taken_after ended turn sound = finished-run words s count before seat after left later taken_before taken_after ended turn sound
finished-asked (Some number) words s count before seat after left later taken_before taken_after ended turn sound =
    record { writes = ended.writes; goes = finished s (take count (site_lines number)) before seat after ended.goes turn sound }
