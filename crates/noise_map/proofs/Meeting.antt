-- What a line's demand is met by.
use Rattle.std.proofs.Common.{◌≡◌, ◌≤◌, ◌<◌, ℕ, suc, true, false, List, [], ◌∷◌, ◌++◌, length, refl, sym, ap, ◌∙◌, subst, arith, inl, inr, append_assoc, length-append}
use Rattle.std.specs.Prelude.{Bool, nat_lt, Option, Some, None, ◌⊎◌, Result, Ok, Err, All, IfOk, slice_get}
use Rattle.std.proofs.lemmas.List.{append-nil}
use Rattle.std.proofs.lemmas.List.Elements.{All-nil, All-append, All-cons, All-head, All-tail}
use Rattle.scene_parts.specs.declared.parts.Part.{Part}
use Rattle.scene_parts.specs.declared.memory.NoMemory.{NoMemory}
use Rattle.scene_book.specs.Book.{Book, most_receivers}
use Rattle.scene_book.specs.Applying.{apply_of, lacks_memory}
use Rattle.scene_book.specs.declared.edits.Edit.{Edit}
use Rattle.scene_book.specs.declared.edits.EditFault.{EditFault}
use Rattle.scene_book.specs.declared.edits.EditFault.TheVariants as faults
use Rattle.command_lines.specs.Views.{Contour}
use Rattle.map_text.specs.declared.refusals.Refusal.{Refusal}
use Rattle.map_text.specs.declared.refusals.Refusal.TheVariants.{Edit as OfEdit, Line as OfLine, LongLine}
use Rattle.turn_lock.specs.History.{entries_of, entry}
use Rattle.turn_lock.proofs.Histories.{begins_self, entries_of-own}
use Rattle.map_board.specs.declared.calls.BoardCall.{BoardCall}
use Rattle.map_board.specs.declared.calls.BoardCall.TheVariants as calls
use Rattle.map_board.specs.declared.calls.BoardReply.{BoardReply}
use Rattle.map_board.specs.declared.calls.BoardReply.TheVariants as replies
use Rattle.map_board.specs.declared.looks.LookAll.{LookAll}
use Rattle.map_board.specs.Journal.{newest_scene, book_after}
use Rattle.map_board.specs.Machine.{numbered, look_of}
use Rattle.map_board.specs.Seats.{Entries, editor}
use Rattle.map_board.specs.Showing.{IsLookAt, accepted_by, accepted_edits, settled_rows, ShowsRight, RunsShowRight}
use Rattle.map_lock.proofs.Turning.{acted-once}
use Rattle.map_lock.specs.Seats.{BoardSeat, BoardEntry, IsEditor}
use Rattle.map_lock.specs.Turns.{HasTurned, HasActed}
use Rattle.map_lock.specs.Settling.{is_finish, is_settling, is_look, HasNotFinished, IsQuiet, EndsInLook, EndsWithout}
use Rattle.noise_map.specs.declared.lines.answer.Answer.{Answer}
use Rattle.noise_map.specs.declared.lines.answer.Answer.TheVariants as answers
use Rattle.noise_map.specs.declared.run.editor.Editor.{Editor}
use Rattle.scene_undo.specs.declared.versions.KeptVersion.{KeptVersion}
use Rattle.scene_undo.specs.Versions.{kept_in}
use Rattle.command_lines.specs.declared.commands.Command.{Command}
use Rattle.command_lines.specs.declared.commands.Command.TheVariants as commands
use Rattle.line_sources.specs.Pieces.{batch_edits_of}
use Rattle.level_contours.specs.GridNames.{first_missing_of}
use Rattle.command_lines.specs.declared.faults.LineFault.{LineFault}
use Rattle.command_lines.specs.Lines.{command_of}
use Rattle.map_io.specs.Reading.{line_limit}
use Rattle.noise_map.specs.Demands.{Demand, nothing, command, demand_read, demand_of, is_blank}
use Rattle.noise_map.specs.Effects.{Display, silent, refused, settled, known, contoured, Effect, shows, effect_of, effect_of_edits, effect_of_contour, display_of_edit, effect_of_edit, looks_asked, with_edit, journal_with}
use Rattle.noise_map.specs.Texts.{answer_to, looked_by, settled_by, contoured_by}
use Rattle.noise_map.specs.Ways.{look_in, looks_in, look_entry, edit_entry, lacking_edit, BreaksOff, Settles, DoesLook, HasEffect, IsNoLook}
use Rattle.noise_map.specs.inner.Answers.{ShowsFew}
use Rattle.noise_map.specs.inner.Steps.{past_of, IsKeptOf, Descends, Knows, IsBatch, HasGone, HasMade, HasLacked, MakesOrLacks, MakesUnlessMemory, display_behind, HasMet, HasFollowed, HasFailed, MeetsUnlessMemory, MeetsEditsUnlessMemory}
use Rattle.noise_map.proofs.Effects.{newest-with}
use Rattle.noise_map.proofs.KeptVersions.{all-each, all-front, kept-with-edit}
use Rattle.noise_map.proofs.Ways.{looks_in-append, looks_in-one, accepted-append, accepted-one, own-front}

-- ---- lists of entries

all-both : {X : Type 0} (P Q R : X → Type 0) → ((x : X) → P x → Q x → R x) → (xs : List X) → All P xs → All Q xs → All R xs
all-both P Q R both [] p q = All-nil R
all-both P Q R both (x ∷ xs) p q =
    All-cons R x xs (both x (All-head P x xs p) (All-head Q x xs q)) (all-both P Q R both xs (All-tail P x xs p) (All-tail Q x xs q))

unlooked : (reply : BoardReply) → is_look reply ≡ false → look_in reply ≡ []
unlooked (replies.Edited result) h = refl
unlooked (replies.Took took) h = refl
unlooked replies.Done h = refl
unlooked (replies.Landed landed) h = refl
unlooked (replies.Looked (Ok look)) h = cc
unlooked (replies.Looked (Err want)) h = refl

pub no-looks : (es : Entries) → All (λ (e : BoardEntry). is_look e.reply ≡ false) es → looks_in es ≡ []
no-looks [] all = refl
no-looks (e ∷ es) all =
    looks_in-append (e ∷ []) es
    ∙ (ap (λ l. l ++ looks_in es) (looks_in-one e ∙ unlooked e.reply (All-head (λ (x : BoardEntry). is_look x.reply ≡ false) e es all))
    ∙ no-looks es (All-tail (λ (x : BoardEntry). is_look x.reply ≡ false) e es all))

unaccepted : (call : BoardCall) (reply : BoardReply) → is_settling call ≡ true → accepted_by call reply ≡ []
unaccepted (calls.Edit edit) reply h = cc
unaccepted calls.Take reply h = refl
unaccepted calls.Finish reply h = refl
unaccepted (calls.Offer answer) reply h = refl
unaccepted (calls.GiveBack job) reply h = refl
unaccepted calls.Look reply h = refl

no-edits : (es : Entries) → All (λ (e : BoardEntry). is_settling e.call ≡ true) es → accepted_edits es ≡ []
no-edits [] all = refl
no-edits (e ∷ es) all =
    accepted-append (e ∷ []) es
    ∙ (ap (λ l. l ++ accepted_edits es) (accepted-one e ∙ unaccepted e.call e.reply (All-head (λ (x : BoardEntry). is_settling x.call ≡ true) e es all))
    ∙ no-edits es (All-tail (λ (x : BoardEntry). is_settling x.call ≡ true) e es all))

unfinishing : (call : BoardCall) → is_settling call ≡ true → is_finish call ≡ false
unfinishing (calls.Edit edit) h = refl
unfinishing calls.Take h = refl
unfinishing calls.Finish h = cc
unfinishing (calls.Offer answer) h = refl
unfinishing (calls.GiveBack job) h = refl
unfinishing calls.Look h = refl

-- ---- what is carried out, and followed

abbrev pub Meets : Editor → Effect → Answer → Editor → Type 0
Meets before effect answer after = HasMet before.seat effect answer after.seat × HasFollowed before effect after

-- ---- a seat that did one thing, or nothing

pub still : (seat : BoardSeat) → HasGone seat [] seat
still seat = record {
  seen = begins_self seat.seen;
  mine = sym (append-nil seat.mine);
  table = refl;
  number = refl;
  parts = refl;
  joined = refl;
  unfinished = λ h. h;
}

-- a seat did these entries, none of which finishes the board
gone : (before after : BoardSeat) (own : Entries) → HasActed before own after → All (λ (e : BoardEntry). is_finish e.call ≡ false) own → HasGone before own after
gone before after own acted going = record {
  seen = record { rest = acted.between; is = acted.seen };
  mine = acted.mine;
  table = acted.table;
  number = acted.number;
  parts = acted.parts;
  joined = acted.joined;
  unfinished = λ h. subst HasNotFinished (sym acted.mine) (All-append (λ (x : BoardEntry). is_finish x.call ≡ false) before.mine own h going);
}

gone-one : (before after : BoardSeat) (call : BoardCall) (reply : BoardReply) → HasTurned before call reply after → is_finish call ≡ false
    → HasGone before (entry before.number call reply ∷ []) after
gone-one before after call reply turn going =
    let e : BoardEntry = entry before.number call reply in
    gone before after (e ∷ []) (acted-once before after call reply turn) (All-cons (λ (x : BoardEntry). is_finish x.call ≡ false) e [] going (All-nil (λ (x : BoardEntry). is_finish x.call ≡ false)))

-- ---- one turn of the editor

module _ (show : RunsShowRight) (before after : BoardSeat) (call : BoardCall) (reply : BoardReply) (turn : HasTurned before call reply after) (sound : IsEditor after) where
  pub is-editors : before.number ≡ editor
  is-editors = sym turn.called.number ∙ sound.number

  -- the editor's entries in front of the turn
  pub in-front : entries_of editor (before.seen ++ turn.called.between) ≡ before.mine
  in-front =
      let e : BoardEntry = entry before.number call reply in
      own-front editor (before.seen ++ turn.called.between) (e ∷ []) before.mine (e ∷ [])
      (ap (entries_of editor) (sym turn.called.seen)
      ∙ (ap (λ n. entries_of n after.seen) (sym sound.number) ∙ (sound.sound.own_entries ∙ turn.called.mine)))
      (entries_of-own editor e is-editors)

  pub shown-there : ShowsRight (before.seen ++ turn.called.between) turn.met
  shown-there = show (before.seen ++ turn.called.between) turn.met turn.run

  pub journal-there : turn.met.journal ≡ accepted_edits before.mine
  journal-there = shown-there.journal ∙ (sym shown-there.editors ∙ ap accepted_edits in-front)

-- ---- edits

-- an edit that the scene answers so, by itself
edit_unlooked : (r : Result (Book × Option Part) EditFault) → looks_asked (display_of_edit r) ≡ 0
edit_unlooked (Ok after) = refl
edit_unlooked (Err fault) = refl

edit_unseen : (history own : Entries) (journal : List Edit) (r : Result (Book × Option Part) EditFault) → DoesLook history own journal (display_of_edit r) []
edit_unseen history own journal (Ok after) = refl
edit_unseen history own journal (Err fault) = refl

edit-accepted : (journal : List Edit) (edit : Edit) (version : ℕ) (r : Result (Book × Option Part) EditFault) → numbered (suc (length journal)) r ≡ Ok version
    → (journal ++ edit ∷ [] ≡ with_edit journal edit r) × (display_of_edit r ≡ silent) × (suc (length journal) ≡ version)
edit-accepted journal edit version (Ok after) e = (refl, refl, cc)
edit-accepted journal edit version (Err fault) e = cc

edit-refused : (journal : List Edit) (edit : Edit) (fault : EditFault) (r : Result (Book × Option Part) EditFault) → numbered (suc (length journal)) r ≡ Err fault
    → (journal ≡ with_edit journal edit r) × (display_of_edit r ≡ refused (OfEdit fault))
edit-refused journal edit fault (Ok after) e = cc
edit-refused journal edit fault (Err why) e = let is : why ≡ fault = cc in (refl, ap (λ f. refused (OfEdit f)) is)

-- the editor before a turn, and after it, with the scene and the version that it then knows
module _ (show : RunsShowRight) (before : Editor) (edit : Edit) where
  abbrev own_journal : List Edit
  own_journal = accepted_edits before.seat.mine

  abbrev scene_answers : Result (Book × Option Part) EditFault
  scene_answers = apply_of edit (newest_scene own_journal)

  abbrev EditTurns : Result ℕ EditFault → BoardSeat → Type 0
  EditTurns said seat = HasTurned before.seat (calls.Edit edit) (replies.Edited said) seat

  entry-is : (number : ℕ) (said answer : Result ℕ EditFault) → number ≡ editor → answer ≡ said
      → entry number (calls.Edit edit) (replies.Edited said) ∷ [] ≡ entry editor (calls.Edit edit) (replies.Edited answer) ∷ []
  entry-is number said answer is same = λ i. entry (is i) (calls.Edit edit) (replies.Edited (sym same i)) ∷ []

  -- what the scene of the board's own journal answers, that of the editor's answers
  said-there : (said : Result ℕ EditFault) (seat : BoardSeat) (turn : EditTurns said seat) → IsEditor seat
      → numbered (suc (length turn.met.journal)) (apply_of edit (newest_scene turn.met.journal)) ≡ said → numbered (suc (length own_journal)) scene_answers ≡ said
  said-there said seat turn sound there =
      subst (λ (es : List Edit). numbered (suc (length es)) (apply_of edit (newest_scene es)) ≡ said) (journal-there show before.seat seat (calls.Edit edit) (replies.Edited said) turn sound) there

  -- the entry of the turn, and what is accepted after it
  edit-goes : (said : Result ℕ EditFault) (seat : BoardSeat) (turn : EditTurns said seat) → IsEditor seat → numbered (suc (length own_journal)) scene_answers ≡ said
      → HasGone before.seat (edit_entry own_journal edit ∷ []) seat
  edit-goes said seat turn sound is =
      subst (λ (es : Entries). HasGone before.seat es seat)
      (entry-is before.seat.number said (numbered (suc (length own_journal)) scene_answers) (is-editors show before.seat seat (calls.Edit edit) (replies.Edited said) turn sound) is)
      (gone-one before.seat seat (calls.Edit edit) (replies.Edited said) turn refl)

  edit-accepts : (said : Result ℕ EditFault) (seat : BoardSeat) (turn : EditTurns said seat) → own_journal ++ accepted_by (calls.Edit edit) (replies.Edited said) ≡ journal_with own_journal edit
      → accepted_edits seat.mine ≡ journal_with own_journal edit
  edit-accepts said seat turn is =
      let e : BoardEntry = entry before.seat.number (calls.Edit edit) (replies.Edited said) in
      ap accepted_edits turn.called.mine ∙ (accepted-append before.seat.mine (e ∷ []) ∙ (ap (λ l. own_journal ++ l) (accepted-one e) ∙ is))

  -- an editor whose scene has followed the edit knows the newest version
  edit-known : (after : Editor) → Knows before → accepted_edits after.seat.mine ≡ journal_with own_journal edit → after.scene ≡ book_after edit before.scene
      → after.version ≡ length (journal_with own_journal edit) → after.kept ≡ before.kept → Knows after
  edit-known after knows accepts followed version same =
      let items : after.kept.items ≡ before.kept.items = λ i. (same i).items in
      record {
        scene = followed ∙ (ap (book_after edit) knows.scene ∙ (sym (newest-with own_journal edit) ∙ ap newest_scene (sym accepts)));
        version = version ∙ ap length (sym accepts);
        kept =
            subst (λ (es : List Edit). All (IsKeptOf es) after.kept.items) (sym accepts)
            (subst (λ (ks : List KeptVersion). All (IsKeptOf (journal_with own_journal edit)) ks) (sym items) (kept-with-edit own_journal edit before.kept.items knows.kept));
        order = subst (λ (ks : List KeptVersion). Descends (kept_in ks)) (sym items) knows.order;
      }

  pub edit-made : (version : ℕ) (after : Editor) → Knows before → EditTurns (Ok version) after.seat → IsEditor after.seat → after.scene ≡ book_after edit before.scene → after.version ≡ version
      → after.kept ≡ before.kept → HasMade false before edit after × (display_behind before edit ≡ silent)
  edit-made version after knows turn sound followed told same =
      let is = said-there (Ok version) after.seat turn sound turn.step.0 in
      let parts = edit-accepted own_journal edit version scene_answers is in
      let accepts = edit-accepts (Ok version) after.seat turn parts.0 in (
        record {
          goes = edit-goes (Ok version) after.seat turn sound is;
          accepts = accepts;
          knows = edit-known after knows accepts followed (told ∙ (sym parts.2 ∙ (omega (arith, length-append own_journal (edit ∷ [])) ∙ ap length parts.0))) same;
          keeps_it = λ i. kept_in ((same i).items);
        },
        parts.1,
      )

  pub edit-refused-made : (fault : EditFault) (after : Editor) → lacks_memory fault ≡ false → Knows before → EditTurns (Err fault) after.seat → IsEditor after.seat
      → after.scene ≡ book_after edit before.scene → after.version ≡ before.version → after.kept ≡ before.kept
      → HasMade false before edit after × (display_behind before edit ≡ refused (OfEdit fault))
  edit-refused-made fault after memory knows turn sound followed told same =
      let is = said-there (Err fault) after.seat turn sound (rw memory at turn.step.0) in
      let parts = edit-refused own_journal edit fault scene_answers is in
      let accepts = edit-accepts (Err fault) after.seat turn (append-nil own_journal ∙ parts.0) in (
        record {
          goes = edit-goes (Err fault) after.seat turn sound is;
          accepts = accepts;
          knows = edit-known after knows accepts followed (told ∙ (knows.version ∙ ap length parts.0)) same;
          keeps_it = λ i. kept_in ((same i).items);
        },
        parts.1,
      )

  want : (fault : EditFault) → lacks_memory fault ≡ true → fault ≡ faults.NoMemory
  want faults.NoMemory h = refl
  want (faults.NoSuchName name) h = cc
  want (faults.OtherClass name class) h = cc
  want (faults.Full class limit) h = cc

  pub edit-lacked : (fault : EditFault) (after : Editor) → lacks_memory fault ≡ true → EditTurns (Err fault) after.seat → IsEditor after.seat → HasLacked before edit after
  edit-lacked fault after memory turn sound =
      let e : BoardEntry = entry before.seat.number (calls.Edit edit) (replies.Edited (Err fault)) in
      let is = is-editors show before.seat after.seat (calls.Edit edit) (replies.Edited (Err fault)) turn sound in
      record {
        added = e ∷ [];
        goes = gone-one before.seat after.seat (calls.Edit edit) (replies.Edited (Err fault)) turn refl;
        is = inr (λ i. entry (is i) (calls.Edit edit) (replies.Edited (Err (want fault memory i))) ∷ []);
      }

  -- refused by the scene, or without memory
  pub edit-unmade : (lacks : Bool) (fault : EditFault) (after : Editor) → lacks_memory fault ≡ lacks → Knows before → EditTurns (Err fault) after.seat → IsEditor after.seat
      → after.scene ≡ book_after edit before.scene → after.version ≡ before.version → after.kept ≡ before.kept → MakesOrLacks lacks false before edit fault after
  edit-unmade true fault after memory knows turn sound followed told same = edit-lacked fault after memory turn sound
  edit-unmade false fault after memory knows turn sound followed told same = edit-refused-made fault after memory knows turn sound followed told same

-- what a `?` gives back of it
pub edit-ended : {X : Type 0} (show : RunsShowRight) (before : Editor) (edit : Edit) (result : Result X EditFault) (same fault : EditFault) (after : Editor) → result ≡ Err same → same ≡ fault → Knows before
    → HasTurned before.seat (calls.Edit edit) (replies.Edited (Err fault)) after.seat → IsEditor after.seat → after.scene ≡ book_after edit before.scene → after.version ≡ before.version
    → after.kept ≡ before.kept → MakesUnlessMemory false before edit result after
edit-ended {X} show before edit result same fault after is name knows turn sound followed told kept =
    subst (λ (r : Result X EditFault). MakesUnlessMemory false before edit r after) (sym (is ∙ ap (λ (f : EditFault). Err f) name))
    (edit-unmade show before edit (lacks_memory fault) fault after refl knows turn sound followed told kept)

-- an edit that was never tried
pub edit-untried : (before after : Editor) (edit : Edit) → after.seat ≡ before.seat → HasLacked before edit after
edit-untried before after edit same = record {
  added = [];
  goes = subst (λ (seat : BoardSeat). HasGone before.seat [] seat) (sym same) (still before.seat);
  is = inl refl;
}

-- an edit alone
pub made-met : (before after : Editor) (edit : Edit) (answer : Answer) → HasMade true before edit after → ShowsFew answer → ((look : Option LookAll) → answer ≡ answer_to (display_behind before edit) look)
    → HasMet before.seat (effect_of_edit edit (apply_of edit (newest_scene (accepted_edits before.seat.mine)))) answer after.seat
    × HasFollowed before (effect_of_edit edit (apply_of edit (newest_scene (accepted_edits before.seat.mine)))) after
made-met before after edit answer made few answered =
    let journal = accepted_edits before.seat.mine in
    let said = apply_of edit (newest_scene journal) in
    let e : BoardEntry = edit_entry journal edit in (
      record {
        added = e ∷ [];
        goes = made.goes;
        does = record {
          looked = [];
          is = refl;
          looks = edit_unseen after.seat.seen (before.seat.mine ++ e ∷ []) (journal_with journal edit) said;
        };
        asked = ap length (looks_in-one e) ∙ sym (edit_unlooked said);
        accepts = made.accepts;
        few = few;
        answered = answered (slice_get (looks_in (e ∷ [])) 0);
      },
      record { knows = made.knows; past = λ i. record { journal = made.accepts i; kept = made.keeps_it i } },
    )

pub lacked-failed : (before after : Editor) (edit : Edit) → HasLacked before edit after
    → HasFailed before.seat (effect_of_edit edit (apply_of edit (newest_scene (accepted_edits before.seat.mine)))) after.seat
lacked-failed before after edit lacked =
    let journal = accepted_edits before.seat.mine in
    record {
      added = lacked.added;
      goes = lacked.goes;
      fails = record { made = 0; rest = lacked.added; is = refl; breaks = breaks lacked.is };
      unanswered = unanswered lacked.is;
    }
  where
    breaks : (lacked.added ≡ []) ⊎ (lacked.added ≡ lacking_edit edit ∷ []) → BreaksOff (display_behind before edit) (Some edit) lacked.added
    breaks (inl none) = inl none
    breaks (inr one) = inr (inl one)

    unanswered : (lacked.added ≡ []) ⊎ (lacked.added ≡ lacking_edit edit ∷ []) → looks_in lacked.added ≡ []
    unanswered (inl none) = ap looks_in none
    unanswered (inr one) = ap looks_in one ∙ looks_in-one (lacking_edit edit)

-- ---- looks

no-look-of : (own : Entries) → All (λ (e : BoardEntry). is_settling e.call ≡ true) own → EndsWithout own → All IsNoLook own
no-look-of own kinds none =
    all-both (λ (e : BoardEntry). is_settling e.call ≡ true) (λ (e : BoardEntry). is_look e.reply ≡ false) IsNoLook (λ e k n. (k, n)) own kinds none

-- a seat has settled the board, and was answered this look
pub record SettledBy (before after : BoardSeat) (look : LookAll) : Type 0 where
  pub own : Entries
  pub goes : HasGone before own after
  pub settles : Settles after.seen (before.mine ++ []) (accepted_edits before.mine) own
  pub looks : looks_in own ≡ look ∷ []
  pub accepts : accepted_edits after.mine ≡ accepted_edits before.mine
  pub few : length look.rows ≤ most_receivers

right-at : (a b : List Edit) (look other : LookAll) → a ≡ b → other ≡ look → IsLookAt a look → IsLookAt b other
right-at a b look other journals looks right =
    subst (λ (es : List Edit). IsLookAt es other) journals (subst (λ (l : LookAll). IsLookAt a l) (sym looks) right)

module _ (show : RunsShowRight) (before after : BoardSeat) where
  pub look-met : (look : LookAll) → HasTurned before calls.Look (replies.Looked (Ok look)) after → IsEditor after
      → HasMet before (shows known) (answers.Looked look) after
  look-met look turn sound =
      let e : BoardEntry = entry before.number calls.Look (replies.Looked (Ok look)) in
      let journal = accepted_edits before.mine in
      let J = journal-there show before after calls.Look (replies.Looked (Ok look)) turn sound in
      let number = is-editors show before after calls.Look (replies.Looked (Ok look)) turn sound in
      let right = right-at turn.met.journal journal (look_of turn.met) look J turn.step.0 (shown-there show before after calls.Look (replies.Looked (Ok look)) turn sound).look in
      record {
        added = e ∷ [];
        goes = gone-one before after calls.Look (replies.Looked (Ok look)) turn refl;
        does = record {
          looked = e ∷ [];
          is = refl;
          looks = record {
            look = look;
            is = λ i. entry (number i) calls.Look (replies.Looked (Ok look)) ∷ [];
            stands = record {
              front = before.seen ++ turn.called.between;
              back = [];
              whole = turn.called.seen ∙ (λ i. (before.seen ++ turn.called.between) ++ entry (number i) calls.Look (replies.Looked (Ok look)) ∷ []);
              behind = in-front show before after calls.Look (replies.Looked (Ok look)) turn sound ∙ sym (append-nil before.mine);
              state = turn.met;
              run = turn.run;
              shown = turn.step.0;
            };
            right = right;
          };
        };
        asked = ap length (looks_in-one e);
        accepts = ap accepted_edits turn.called.mine ∙ (accepted-append before.mine (e ∷ []) ∙ (ap (λ l. journal ++ l) (accepted-one e) ∙ append-nil journal));
        few = right.few;
        answered = ap (λ (ls : List LookAll). looked_by (slice_get ls 0)) (sym (looks_in-one e));
      }

  pub look-failed : (lack : NoMemory) → HasTurned before calls.Look (replies.Looked (Err lack)) after → IsEditor after → HasFailed before (shows known) after
  look-failed lack turn sound =
      let e : BoardEntry = entry before.number calls.Look (replies.Looked (Err lack)) in
      let number = is-editors show before after calls.Look (replies.Looked (Err lack)) turn sound in
      record {
        added = e ∷ [];
        goes = gone-one before after calls.Look (replies.Looked (Err lack)) turn refl;
        fails = record {
          made = 0;
          rest = e ∷ [];
          is = refl;
          breaks = inr (inr (lack, λ i. entry (number i) calls.Look (replies.Looked (Err lack)) ∷ []));
        };
        unanswered = looks_in-one e;
      }

  -- ---- settles

  acted-goes : (own : Entries) → HasActed before own after → All (λ (e : BoardEntry). is_settling e.call ≡ true) own → HasGone before own after
  acted-goes own acted kinds =
      gone before after own acted (all-each (λ (x : BoardEntry). is_settling x.call ≡ true) (λ (x : BoardEntry). is_finish x.call ≡ false) (λ x. unfinishing x.call) own kinds)

  pub settle-failed : (own : Entries) → HasActed before own after → All (λ (e : BoardEntry). is_settling e.call ≡ true) own → EndsWithout own
      → HasFailed before (shows settled) after
  settle-failed own acted kinds none = record {
    added = own;
    goes = acted-goes own acted kinds;
    fails = record {
      made = 0;
      rest = own;
      is = refl;
      breaks = inr (inr (no-look-of own kinds none));
    };
    unanswered = no-looks own none;
  }

  settled-by : (look : LookAll) (own : Entries) (acted : HasActed before own after) → All (λ (e : BoardEntry). is_settling e.call ≡ true) own
      → EndsInLook before acted.between own look → IsEditor after → SettledBy before after look
  settled-by look own acted kinds ends sound =
      let number : before.number ≡ editor = sym acted.number ∙ sound.number in
      let journal = accepted_edits before.mine in
      let le : BoardEntry = look_entry look in
      let own_is : own ≡ ends.front ++ le ∷ [] = ends.own_is ∙ (λ i. ends.front ++ entry (number i) calls.Look (replies.Looked (Ok look)) ∷ []) in
      let between_is : acted.between ≡ ends.others ++ le ∷ [] = ends.between_is ∙ (λ i. ends.others ++ entry (number i) calls.Look (replies.Looked (Ok look)) ∷ []) in
      let front = before.seen ++ ends.others in
      let whole : after.seen ≡ front ++ le ∷ [] = acted.seen ∙ (ap (λ l. before.seen ++ l) between_is ∙ sym (append_assoc before.seen ends.others (le ∷ []))) in
      let mine : after.mine ≡ (before.mine ++ ends.front) ++ le ∷ [] = acted.mine ∙ (ap (λ l. before.mine ++ l) own_is ∙ sym (append_assoc before.mine ends.front (le ∷ []))) in
      let behind : entries_of editor front ≡ before.mine ++ ends.front =
      own-front editor front (le ∷ []) (before.mine ++ ends.front) (le ∷ [])
      (ap (entries_of editor) (sym whole) ∙ (ap (λ n. entries_of n after.seen) (sym sound.number) ∙ (sound.sound.own_entries ∙ mine)))
      (entries_of-own editor le refl) in
      let shown_right = show front ends.state ends.run in
      let work : All (λ (e : BoardEntry). is_settling e.call ≡ true) ends.front =
      all-front (λ (e : BoardEntry). is_settling e.call ≡ true) ends.front (le ∷ []) (subst (λ l. All (λ (e : BoardEntry). is_settling e.call ≡ true) l) own_is kinds) in
      let J : ends.state.journal ≡ journal =
      shown_right.journal ∙ (sym shown_right.editors ∙ (ap accepted_edits behind ∙ (accepted-append before.mine ends.front ∙ (ap (λ l. journal ++ l) (no-edits ends.front work) ∙ append-nil journal)))) in
      let right = right-at ends.state.journal journal (look_of ends.state) look J ends.shown shown_right.look in
      let looks : looks_in own ≡ look ∷ [] =
      ap looks_in own_is
      ∙ (looks_in-append ends.front (le ∷ [])
      ∙ (ap (λ l. l ++ looks_in (le ∷ [])) (no-looks ends.front (all-each IsQuiet (λ (e : BoardEntry). is_look e.reply ≡ false) (λ e q. q.no_look) ends.front ends.quiet)) ∙ looks_in-one le)) in
      record {
        own = own;
        goes = acted-goes own acted kinds;
        settles = record {
          work = ends.front;
          look = look;
          is = own_is;
          kinds = work;
          quiet = ends.quiet;
          stands = record {
            front = front;
            back = [];
            whole = whole;
            behind = behind ∙ ap (λ (l : Entries). l ++ ends.front) (sym (append-nil before.mine));
            state = ends.state;
            run = ends.run;
            shown = ends.shown;
          };
          settled = ends.settled;
          version = right.version;
          rows = ap (λ (l : LookAll). l.rows) ends.shown ∙ (shown_right.settled ends.settled ∙ ap (λ (es : List Edit). settled_rows (newest_scene es)) J);
        };
        looks = looks;
        accepts = ap accepted_edits acted.mine ∙ (accepted-append before.mine own ∙ (ap (λ l. journal ++ l) (no-edits own kinds) ∙ append-nil journal));
        few = right.few;
      }

  -- shown by its rows
  pub settle-met : (look : LookAll) (own : Entries) (acted : HasActed before own after) → All (λ (e : BoardEntry). is_settling e.call ≡ true) own
      → EndsInLook before acted.between own look → IsEditor after → HasMet before (shows settled) (answers.Settled look) after
  settle-met look own acted kinds ends sound =
      let s = settled-by look own acted kinds ends sound in
      record {
        added = s.own;
        goes = s.goes;
        does = record { looked = s.own; is = refl; looks = s.settles };
        asked = ap length s.looks;
        accepts = s.accepts;
        few = s.few;
        answered = ap (λ (ls : List LookAll). settled_by (slice_get ls 0)) (sym s.looks);
      }

  -- shown by contours
  pub contours-met : (contour : Contour) (look : LookAll) (own : Entries) (acted : HasActed before own after) → All (λ (e : BoardEntry). is_settling e.call ≡ true) own
      → EndsInLook before acted.between own look → IsEditor after → HasMet before (shows (contoured contour)) (answers.Contoured contour look) after
  contours-met contour look own acted kinds ends sound =
      let s = settled-by look own acted kinds ends sound in
      record {
        added = s.own;
        goes = s.goes;
        does = record { looked = s.own; is = refl; looks = s.settles };
        asked = ap length s.looks;
        accepts = s.accepts;
        few = s.few;
        answered = ap (λ (ls : List LookAll). contoured_by contour (slice_get ls 0)) (sym s.looks);
      }

  pub contours-failed : (contour : Contour) (own : Entries) → HasActed before own after → All (λ (e : BoardEntry). is_settling e.call ≡ true) own → EndsWithout own
      → HasFailed before (shows (contoured contour)) after
  contours-failed contour own acted kinds none = record {
    added = own;
    goes = acted-goes own acted kinds;
    fails = record {
      made = 0;
      rest = own;
      is = refl;
      breaks = inr (inr (no-look-of own kinds none));
    };
    unanswered = no-looks own none;
  }

-- ---- lines that ask nothing of the board

still-does : (history own : Entries) (journal : List Edit) (display : Display) → DoesLook history (own ++ []) journal display [] → HasEffect history own journal (shows display) []
still-does history own journal display looks = record { looked = []; is = refl; looks = looks }

pub nothing-met : (seat : BoardSeat) → HasMet seat (shows silent) answers.Nothing seat
nothing-met seat = record {
  added = [];
  goes = still seat;
  does = still-does seat.seen seat.mine (accepted_edits seat.mine) silent refl;
  asked = refl;
  accepts = refl;
  few = tt;
  answered = refl;
}

pub refusal-met : (seat : BoardSeat) (fault : Refusal) → HasMet seat (shows (refused fault)) (answers.Refused fault) seat
refusal-met seat fault = record {
  added = [];
  goes = still seat;
  does = still-does seat.seen seat.mine (accepted_edits seat.mine) (refused fault) refl;
  asked = refl;
  accepts = refl;
  few = tt;
  answered = refl;
}

pub never-tried : (seat : BoardSeat) (effect : Effect) → HasFailed seat effect seat
never-tried seat effect = record { added = []; goes = still seat; fails = record { made = 0; rest = []; is = refl; breaks = inl refl }; unanswered = refl }

-- an editor whose board was not edited knows the newest version as before, and keeps the same versions
pub knows-still : (before after : Editor) (display : Display) → Knows before → after.scene ≡ before.scene → after.version ≡ before.version → after.kept ≡ before.kept
    → accepted_edits after.seat.mine ≡ accepted_edits before.seat.mine → HasFollowed before (shows display) after
knows-still before after display knows scene version kept same =
    let items : after.kept.items ≡ before.kept.items = λ i. (kept i).items in
    record {
      knows = record {
        scene = scene ∙ (knows.scene ∙ ap newest_scene (sym same));
        version = version ∙ (knows.version ∙ ap length (sym same));
        kept = subst (λ (es : List Edit). All (IsKeptOf es) after.kept.items) (sym same) (subst (λ (ks : List KeptVersion). All (IsKeptOf (accepted_edits before.seat.mine)) ks) (sym items) knows.kept);
        order = subst (λ (ks : List KeptVersion). Descends (kept_in ks)) (sym items) knows.order;
      };
      past = λ i. record { journal = same i; kept = kept_in (items i) };
    }

-- an editor who did nothing
pub followed-still : (before : Editor) (display : Display) → Knows before → HasFollowed before (shows display) before
followed-still before display knows = record { knows = knows; past = refl }

-- what is shown is little
pub meets-few : {E : Type 0} (before after : Editor) (demand : Demand) (result : Result Answer E) → MeetsUnlessMemory before demand result after → IfOk result ShowsFew
meets-few before after demand (Ok answer) met = met.0.few
meets-few before after demand (Err want) met = tt

-- ---- lines that are read

short_line : (line : List ℕ) → length line ≤ line_limit → nat_lt line_limit (length line) ≡ false
short_line line few = grind (arith, few)

long_line : (line : List ℕ) → line_limit < length line → nat_lt line_limit (length line) ≡ true
long_line line long = grind (arith, long)

-- a blank line asks for nothing
pub blank-line : (line : List ℕ) → length line ≤ line_limit → is_blank line ≡ true → demand_of line ≡ nothing
unfolding demand_of
blank-line line few blank = rw (short_line line few, blank) refl

-- a long line is refused
pub long-refused : (before : Editor) (line : List ℕ) → Knows before → line_limit < length line → Meets before (effect_of (past_of before) (demand_of line)) (answers.Refused LongLine) before
unfolding demand_of
long-refused before line knows long = rw (long_line line long) (refusal-met before.seat LongLine, followed-still before (refused LongLine) knows)

pub refused-line : (before : Editor) (line : List ℕ) (fault : LineFault) → command_of line ≡ Err fault → Knows before
    → Meets before (effect_of (past_of before) (demand_read (command_of line))) (answers.Refused (OfLine fault)) before
refused-line before line fault is knows =
    subst (λ (r : Result Command LineFault). Meets before (effect_of (past_of before) (demand_read r)) (answers.Refused (OfLine fault)) before) (sym is)
    (refusal-met before.seat (OfLine fault), followed-still before (refused (OfLine fault)) knows)

-- ---- contours

-- a receiver of their grid is missing
pub missing-met : (before : Editor) (contour : Contour) (name : List ℕ) → Knows before → first_missing_of contour before.scene ≡ Some name
    → Meets before (effect_of (past_of before) (command (commands.Contour contour))) (answers.Refused (OfEdit (faults.NoSuchName name))) before
missing-met before contour name knows is =
    subst (λ (o : Option (List ℕ)). Meets before (effect_of_contour contour o) (answers.Refused (OfEdit (faults.NoSuchName name))) before)
    (sym (ap (first_missing_of contour) (sym knows.scene) ∙ is))
    (refusal-met before.seat (OfEdit (faults.NoSuchName name)), followed-still before (refused (OfEdit (faults.NoSuchName name))) knows)

-- none is
pub none-missing : (before : Editor) (contour : Contour) → Knows before → first_missing_of contour before.scene ≡ None
    → effect_of (past_of before) (command (commands.Contour contour)) ≡ shows (contoured contour)
none-missing before contour knows is = ap (effect_of_contour contour) (ap (first_missing_of contour) (sym knows.scene) ∙ is)

-- ---- edits made together

-- the edits of a command in the scene that the editor knows
pub batch-in : (before : Editor) (asked : Command) → IsBatch asked → Knows before → effect_of_edits (batch_edits_of asked before.scene) ≡ effect_of (past_of before) (command asked)
batch-in before asked batch knows =
    ap (λ (book : Book). effect_of_edits (batch_edits_of asked book)) knows.scene ∙ sym (batch (newest_scene (accepted_edits before.seat.mine)) (past_of before))

-- what is carried out of one effect is carried out of the same by another name
pub meets-as : {E : Type 0} (before after : Editor) (result : Result Answer E) (edits : Result (List Edit) EditFault) (demand : Demand)
    → effect_of_edits edits ≡ effect_of (past_of before) demand → MeetsEditsUnlessMemory before edits result after → MeetsUnlessMemory before demand result after
meets-as before after (Ok answer) edits demand is met = subst (λ (e : Effect). Meets before e answer after) is met
meets-as before after (Err want) edits demand is failed = subst (λ (e : Effect). HasFailed before.seat e after.seat) is failed
