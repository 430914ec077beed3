-- Edits that are made one after the other.
use Rattle.std.proofs.Common.{◌≡◌, ℕ, zero, suc, None, List, [], ◌∷◌, ◌++◌, length, take, refl, sym, ap, ◌∙◌, subst, inl, inr, append_assoc, arith}
use Rattle.std.specs.Prelude.{Bool, true, false, Vec, Option, Some, Result, Ok, Err, ◌⊎◌, IsSomeAnd, slice_get, reverse}
use Rattle.std.proofs.lemmas.List.{append-nil, reverse-append}
use Rattle.std.proofs.lemmas.List.Sums.{fold-append}
use Rattle.std.proofs.Math.Seq.{take-append_seam}
use Rattle.scene_book.specs.declared.edits.Edit.{Edit}
use Rattle.turn_lock.proofs.Histories.{begins_trans}
use Rattle.map_board.specs.declared.looks.LookAll.{LookAll}
use Rattle.map_board.specs.Seats.{Entries}
use Rattle.map_board.specs.Showing.{accepted_edits}
use Rattle.map_lock.specs.Seats.{BoardSeat}
use Rattle.noise_map.specs.declared.run.editor.Editor.{Editor}
use Rattle.scene_undo.specs.declared.versions.KeptVersion.{KeptVersion}
use Rattle.scene_undo.specs.Versions.{is_kept, kept_in, IsCut}
use Rattle.std.specs.declared.alloc.Global.{Global}
use Rattle.scene_book.specs.Applying.{lacks_memory}
use Rattle.scene_book.specs.declared.edits.EditFault.{EditFault}
use Rattle.map_text.specs.declared.refusals.Refusal.TheVariants.{Edit as OfEdit, NoSuchVersion}
use Rattle.noise_map.specs.Effects.{Past, edits_back, Effect, shows, silent, refused, effect_of_edits, effect_of_undo, journal_with, journal_with_all}
use Rattle.noise_map.specs.Ways.{looks_in, edit_entry, edit_entries, lacking_edit, BreaksOff}
use Rattle.noise_map.specs.inner.Steps.{past_of, kept_when, kept_when_all, Knows, HasGone, HasMade, HasLacked, MakesOrLacks, MakesUnlessMemory, has_lacked, HasMadeAll, HasLackedOne, HasMet, HasFailed, MeetsEditsUnlessMemory}
use Rattle.noise_map.proofs.Effects.{get-behind}
use Rattle.noise_map.proofs.Ways.{looks_in-append, looks_in-one}
use Rattle.noise_map.proofs.Meeting.{Meets, still, refusal-met, followed-still}
use Rattle.noise_map.proofs.KeptVersions.{kept_when_all-push, keeping, was-cut}
use Rattle.noise_map.specs.declared.lines.answer.Answer.{Answer}
use Rattle.noise_map.specs.declared.lines.answer.Answer.TheVariants as answers

-- a seat that went on, and on
pub gone-on : (a b c : BoardSeat) (front back : Entries) → HasGone a front b → HasGone b back c → HasGone a (front ++ back) c
gone-on a b c front back first then = record {
  seen = begins_trans first.seen then.seen;
  mine = then.mine ∙ (ap (λ l. l ++ back) first.mine ∙ append_assoc a.mine front back);
  table = then.table ∙ first.table;
  number = then.number ∙ first.number;
  parts = then.parts ∙ first.parts;
  joined = then.joined ∙ first.joined;
  unfinished = λ h. then.unfinished (first.unfinished h);
}

pub entries-append : (journal done more : List Edit) → edit_entries journal (done ++ more) ≡ edit_entries journal done ++ edit_entries (journal_with_all journal done) more
entries-append journal [] more = refl
entries-append journal (edit ∷ done) more = ap (λ l. edit_entry journal edit ∷ l) (entries-append (journal_with journal edit) done more)

pub entries-length : (journal edits : List Edit) → length (edit_entries journal edits) ≡ length edits
entries-length journal [] = refl
entries-length journal (edit ∷ more) = ap suc (entries-length (journal_with journal edit) more)

-- ---- one edit more

-- of no edits nothing is kept
kept-none : (keeps : Bool) (journal : List Edit) (kept : List ℕ) → kept ≡ kept_when_all keeps journal [] kept
kept-none true journal kept = refl
kept-none false journal kept = refl

pub none-made : (keeps : Bool) (editor : Editor) → Knows editor → HasMadeAll keeps editor [] editor
none-made keeps editor knows = record {
  goes = still editor.seat;
  accepts = refl;
  knows = knows;
  keeps_them = kept-none keeps (accepted_edits editor.seat.mine) (kept_in editor.kept.items);
}

pub one-made : (keeps : Bool) (before mid after : Editor) (done : List Edit) (edit : Edit) → HasMadeAll keeps before done mid → HasMade keeps mid edit after
    → HasMadeAll keeps before (done ++ edit ∷ []) after
one-made keeps before mid after done edit so_far made =
    let journal = accepted_edits before.seat.mine in
    let entry_is : edit_entry (accepted_edits mid.seat.mine) edit ∷ [] ≡ edit_entries (journal_with_all journal done) (edit ∷ []) =
    ap (λ (es : List Edit). edit_entry es edit ∷ []) so_far.accepts in
    record {
      goes =
          subst (λ (es : Entries). HasGone before.seat es after.seat)
          (ap (λ l. edit_entries journal done ++ l) entry_is ∙ sym (entries-append journal done (edit ∷ [])))
          (gone-on before.seat mid.seat after.seat (edit_entries journal done) (edit_entry (accepted_edits mid.seat.mine) edit ∷ []) so_far.goes made.goes);
      accepts = made.accepts ∙ (ap (λ (es : List Edit). journal_with es edit) so_far.accepts ∙ sym (fold-append journal_with journal done (edit ∷ [])));
      knows = made.knows;
      keeps_them =
          made.keeps_it
          ∙ ((λ i. kept_when keeps (so_far.accepts i) edit (so_far.keeps_them i)) ∙ sym (kept_when_all-push keeps journal done edit (kept_in before.kept.items)));
    }

-- ---- an edit without memory

pub one-lacked : (keeps : Bool) (before mid after : Editor) (done : List Edit) (edit : Edit) (more : List Edit) → HasMadeAll keeps before done mid → HasLacked mid edit after
    → HasLackedOne before (done ++ edit ∷ more) after
one-lacked keeps before mid after done edit more so_far lacked =
    let journal = accepted_edits before.seat.mine in
    let front = edit_entries journal done in
    let first : take (length done) (edit_entries journal (done ++ edit ∷ more)) ≡ front =
    (λ i. take (sym (entries-length journal done) i) (entries-append journal done (edit ∷ more) i))
    ∙ take-append_seam front (edit_entries (journal_with_all journal done) (edit ∷ more)) in
    record {
      made = length done;
      rest = lacked.added;
      goes =
          subst (λ (es : Entries). HasGone before.seat (es ++ lacked.added) after.seat) (sym first)
          (gone-on before.seat mid.seat after.seat front lacked.added so_far.goes lacked.goes);
      breaks = breaks lacked.is;
    }
  where
    breaks : (lacked.added ≡ []) ⊎ (lacked.added ≡ lacking_edit edit ∷ []) → (lacked.added ≡ []) ⊎ IsSomeAnd (slice_get (done ++ edit ∷ more) (length done)) (λ (e : Edit). lacked.added ≡ lacking_edit e ∷ [])
    breaks (inl none) = inl none
    breaks (inr one) = inr (subst (λ (o : Option Edit). IsSomeAnd o (λ (e : Edit). lacked.added ≡ lacking_edit e ∷ [])) (sym (get-behind done (edit ∷ more))) one)

-- ---- a line that comes to these edits

pub edits_unlooked : (journal edits : List Edit) → looks_in (edit_entries journal edits) ≡ []
edits_unlooked journal [] = refl
edits_unlooked journal (edit ∷ more) =
    looks_in-append (edit_entry journal edit ∷ []) (edit_entries (journal_with journal edit) more)
    ∙ (ap (λ (ls : List LookAll). ls ++ looks_in (edit_entries (journal_with journal edit) more)) (looks_in-one (edit_entry journal edit)) ∙ edits_unlooked (journal_with journal edit) more)

pub all-met : (keeps : Bool) (before after : Editor) (edits : List Edit) (back : Option ℕ) → HasMadeAll keeps before edits after
    → HasMet before.seat (record { edits = edits; back = back; display = silent }) answers.Nothing after.seat
all-met keeps before after edits back made =
    let journal = accepted_edits before.seat.mine in
    let entries = edit_entries journal edits in
    record {
      added = entries;
      goes = made.goes;
      does = record { looked = []; is = sym (append-nil entries); looks = refl };
      asked = ap length (edits_unlooked journal edits);
      accepts = made.accepts;
      few = tt;
      answered = refl;
    }

taken_unlooked : (journal edits : List Edit) (n : ℕ) → looks_in (take n (edit_entries journal edits)) ≡ []
taken_unlooked journal edits n = unlooked n edits journal where
  unlooked : (n : ℕ) (es : List Edit) (j : List Edit) → looks_in (take n (edit_entries j es)) ≡ []
  unlooked zero [] j = refl
  unlooked (suc n) [] j = refl
  unlooked zero (e ∷ es) j = refl
  unlooked (suc n) (e ∷ es) j =
      looks_in-append (edit_entry j e ∷ []) (take n (edit_entries (journal_with j e) es))
      ∙ (ap (λ (ls : List LookAll). ls ++ looks_in (take n (edit_entries (journal_with j e) es))) (looks_in-one (edit_entry j e)) ∙ unlooked n es (journal_with j e))

pub one-failed : (before after : Editor) (edits : List Edit) (back : Option ℕ) → HasLackedOne before edits after
    → HasFailed before.seat (record { edits = edits; back = back; display = silent }) after.seat
one-failed before after edits back lacked =
    let journal = accepted_edits before.seat.mine in
    let front = take lacked.made (edit_entries journal edits) in
    record {
      added = front ++ lacked.rest;
      goes = lacked.goes;
      fails = record { made = lacked.made; rest = lacked.rest; is = refl; breaks = breaks lacked.breaks };
      unanswered = looks_in-append front lacked.rest ∙ (ap (λ (ls : List LookAll). ls ++ looks_in lacked.rest) (taken_unlooked journal edits lacked.made) ∙ unanswered (slice_get edits lacked.made) lacked.breaks);
    }
  where
    breaks : (lacked.rest ≡ []) ⊎ IsSomeAnd (slice_get edits lacked.made) (λ (edit : Edit). lacked.rest ≡ lacking_edit edit ∷ []) → BreaksOff silent (slice_get edits lacked.made) lacked.rest
    breaks (inl none) = inl none
    breaks (inr one) = inr (inl one)

    unanswered : (o : Option Edit) → (lacked.rest ≡ []) ⊎ IsSomeAnd o (λ (edit : Edit). lacked.rest ≡ lacking_edit edit ∷ []) → looks_in lacked.rest ≡ []
    unanswered o (inl none) = ap looks_in none
    unanswered None (inr one) = absurd one
    unanswered (Some edit) (inr one) = ap looks_in one ∙ looks_in-one (lacking_edit edit)

-- ---- edits that are taken off the end of a list turned round

-- the last one is the next
pub turned-next : (front rest left : List Edit) (edit : Edit) (all : List Edit) → all ≡ front ++ reverse rest → rest ≡ left ++ edit ∷ [] → all ≡ front ++ edit ∷ reverse left
turned-next front rest left edit all whole is = whole ∙ ap (λ (es : List Edit). front ++ es) (ap reverse is ∙ reverse-append left (edit ∷ []))

-- and behind it stand the others
pub turned-on : (front left : List Edit) (edit : Edit) (all : List Edit) → all ≡ front ++ edit ∷ reverse left → all ≡ (front ++ edit ∷ []) ++ reverse left
turned-on front left edit all whole = whole ∙ sym (append_assoc front (edit ∷ []) (reverse left))

pub turned-end : (front rest all : List Edit) → all ≡ front ++ reverse rest → rest ≡ [] → front ≡ all
turned-end front rest all whole is = sym (append-nil front) ∙ (ap (λ (es : List Edit). front ++ es) (sym (ap reverse is)) ∙ sym whole)

-- ---- edits that a line source comes to

pub edits-made : (before after : Editor) (edits : List Edit) (expected : Result (List Edit) EditFault) → expected ≡ Ok edits → HasMadeAll true before edits after
    → Meets before (effect_of_edits expected) answers.Nothing after
edits-made before after edits expected is made =
    subst (λ (r : Result (List Edit) EditFault). Meets before (effect_of_edits r) answers.Nothing after) (sym is)
    (all-met true before after edits None made, record { knows = made.knows; past = λ i. record { journal = made.accepts i; kept = made.keeps_them i } })

pub edits-lacked : {E : Type 0} (before after : Editor) (edits : List Edit) (expected : Result (List Edit) EditFault) (result : Result Answer E) (want : E) → expected ≡ Ok edits → result ≡ Err want
    → HasLackedOne before edits after → MeetsEditsUnlessMemory before expected result after
edits-lacked {E} before after edits expected result want is lacks lacked =
    subst (λ (r : Result Answer E). MeetsEditsUnlessMemory before expected r after) (sym lacks)
    (subst (λ (r : Result (List Edit) EditFault). HasFailed before.seat (effect_of_edits r) after.seat) (sym is) (one-failed before after edits None lacked))

pub edits-refused : (before : Editor) (fault : EditFault) (expected : Result (List Edit) EditFault) → expected ≡ Err fault → Knows before
    → Meets before (effect_of_edits expected) (answers.Refused (OfEdit fault)) before
edits-refused before fault expected is knows =
    subst (λ (r : Result (List Edit) EditFault). Meets before (effect_of_edits r) (answers.Refused (OfEdit fault)) before) (sym is)
    (refusal-met before.seat (OfEdit fault), followed-still before (refused (OfEdit fault)) knows)

-- ---- whether an edit was made

made-by : (lacks keeps : Bool) (before after : Editor) (edit : Edit) (fault : EditFault) → lacks ≡ false → MakesOrLacks lacks keeps before edit fault after → HasMade keeps before edit after
made-by true keeps before after edit fault h m = cc
made-by false keeps before after edit fault h m = m.0

lacked-by : (lacks keeps : Bool) (before after : Editor) (edit : Edit) (fault : EditFault) → lacks ≡ true → MakesOrLacks lacks keeps before edit fault after → HasLacked before edit after
lacked-by true keeps before after edit fault h m = m
lacked-by false keeps before after edit fault h m = cc

pub was-made : {X : Type 0} (keeps : Bool) (before after : Editor) (edit : Edit) (result : Result X EditFault) → MakesUnlessMemory keeps before edit result after → has_lacked result ≡ false → HasMade keeps before edit after
was-made keeps before after edit (Ok done) m h = m.0
was-made keeps before after edit (Err fault) m h = made-by (lacks_memory fault) keeps before after edit fault h m

pub was-lacked : {X : Type 0} (keeps : Bool) (before after : Editor) (edit : Edit) (result : Result X EditFault) → MakesUnlessMemory keeps before edit result after → has_lacked result ≡ true → HasLacked before edit after
was-lacked keeps before after edit (Ok done) m h = cc
was-lacked keeps before after edit (Err fault) m h = lacked-by (lacks_memory fault) keeps before after edit fault h m

pub no-items : {X : Type 0} (xs : List X) → length xs ≡ 0 → xs ≡ []
no-items [] h = refl
no-items (x ∷ xs) h = absurd (omega (arith, h))

-- one more edit of those that are left was made
pub next-made : (keeps : Bool) (before mid after : Editor) (so_far : List Edit) (edit : Edit) (turned rest left : List Edit) → turned ≡ so_far ++ reverse rest → rest ≡ left ++ edit ∷ [] → HasMadeAll keeps before so_far mid
    → HasMade keeps mid edit after → (done : List Edit) × (turned ≡ done ++ reverse left) × HasMadeAll keeps before done after
next-made keeps before mid after so_far edit turned rest left whole items all one =
    (so_far ++ edit ∷ [], turned-on so_far left edit turned (turned-next so_far rest left edit turned whole items), one-made keeps before mid after so_far edit all one)

-- ---- an undo

is-kept-undo : (to : ℕ) (past : Past) (kept : Bool) → is_kept to past.kept ≡ kept → kept ≡ true → effect_of_undo to past ≡ record { edits = edits_back to past; back = Some to; display = silent }
is-kept-undo to past true is h = rw is refl
is-kept-undo to past false is h = cc

is-unkept-undo : (to : ℕ) (past : Past) → is_kept to past.kept ≡ false → effect_of_undo to past ≡ shows (refused (NoSuchVersion to))
is-unkept-undo to past is = rw is refl

-- the version isn't kept
pub undo-refused : (before : Editor) (to : ℕ) → is_kept to (kept_in before.kept.items) ≡ false → Knows before
    → Meets before (effect_of_undo to (past_of before)) (answers.Refused (NoSuchVersion to)) before
undo-refused before to is knows =
    subst (λ (e : Effect). Meets before e (answers.Refused (NoSuchVersion to)) before) (sym (is-unkept-undo to (past_of before) is))
    (refusal-met before.seat (NoSuchVersion to), followed-still before (refused (NoSuchVersion to)) knows)

-- it is kept, and the edits that lead back to it were made
pub undo-met : (before after : Editor) (cut : Vec KeptVersion Global) (to : ℕ) (edits : List Edit) → is_kept to (kept_in before.kept.items) ≡ true → Knows before
    → IsCut to before.kept.items cut.items edits → HasMadeAll false (keeping before cut) edits after → Meets before (effect_of_undo to (past_of before)) answers.Nothing after
undo-met before after cut to edits is knows was made =
    let w = was-cut before to cut edits knows was in
    let effect : Effect = record { edits = edits; back = Some to; display = silent } in
    let same : effect ≡ effect_of_undo to (past_of before) = (λ i. record { edits = w.back i; back = Some to; display = silent }) ∙ sym (is-kept-undo to (past_of before) true is refl) in
    subst (λ (e : Effect). Meets before e answers.Nothing after) same (
      all-met false (keeping before cut) after edits (Some to) made,
      record {
        knows = made.knows;
        past = λ i. record { journal = made.accepts i; kept = (made.keeps_them ∙ w.kept) i };
      },
    )

-- there was no memory for one of them
pub undo-failed : (before after : Editor) (cut : Vec KeptVersion Global) (to : ℕ) (edits : List Edit) → is_kept to (kept_in before.kept.items) ≡ true → Knows before
    → IsCut to before.kept.items cut.items edits → HasLackedOne (keeping before cut) edits after → HasFailed before.seat (effect_of_undo to (past_of before)) after.seat
undo-failed before after cut to edits is knows was lacked =
    let w = was-cut before to cut edits knows was in
    let effect : Effect = record { edits = edits; back = Some to; display = silent } in
    let same : effect ≡ effect_of_undo to (past_of before) = (λ i. record { edits = w.back i; back = Some to; display = silent }) ∙ sym (is-kept-undo to (past_of before) true is refl) in
    subst (λ (e : Effect). HasFailed before.seat e after.seat) same (one-failed (keeping before cut) after edits (Some to) lacked)
