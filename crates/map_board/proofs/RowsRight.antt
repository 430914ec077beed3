-- Every step leaves all rows right.
use Rattle.std.proofs.Common.{◌≡◌, ℕ, suc, ◌≤◌, Bool, true, false, cond, List, [], ◌∷◌, ◌++◌, length, get_or, Some, None, refl, sym, ap, ◌∙◌, subst, arith, ◌⊎◌, inl, inr, length-append}
use Rattle.std.specs.Prelude.{bytes_eq, Option, is_some, Ok, Err, All, unwrap_or}
use Rattle.std.proofs.lemmas.List.Elements.{All-cons, All-head, All-tail, All-map}
use Rattle.scene_parts.specs.Parts.{Receiver}
use Rattle.scene_book.specs.Book.{Book}
use Rattle.scene_book.specs.declared.edits.Edit.{Edit}
use Rattle.path_calc.specs.Levels.{levels_of}
use Rattle.path_calc.specs.Show.{show_of}
use Rattle.map_board.specs.declared.answers.Landed.TheVariants as landed
use Rattle.map_board.specs.declared.calls.Took.TheVariants as took
use Rattle.map_board.specs.declared.calls.BoardCall.TheVariants as calls
use Rattle.map_board.specs.declared.calls.BoardReply.TheVariants as replies
use Rattle.map_board.specs.Views.{Job, Answer}
use Rattle.map_board.specs.Journal.{scene_at, newest_scene, book_after, names, first_naming}
use Rattle.map_board.specs.Rows.{Row, State, row_named, with_row}
use Rattle.map_board.specs.Jobs.{IsOutFor, IsRight}
use Rattle.map_board.specs.Machine.{new_row, row_after, rows_after, with_out, with_kept, rows_after_return}
use Rattle.map_board.specs.Facts.{RowIsRight, EachStepKeepsRowsRight}
use Rattle.map_board.proofs.Journals.{at-more}

-- ---- one row by name

pub found-right : (P : Row → Type 0) (name : List ℕ) (rows : List Row) (row : Row) → All P rows → row_named name rows ≡ Some row → P row
found-right P name [] row all found = absurd (cc)
found-right P name (x ∷ rows) row all found = go (bytes_eq name x.receiver.name) (All-head P x rows all) (found-right P name rows row (All-tail P x rows all)) found where
  go : (test : Bool) → P x → (row_named name rows ≡ Some row → P row) → cond test (Some x) (row_named name rows) ≡ Some row → P row
  go true here later found = let is : x ≡ row = cc found in subst P is here
  go false here later found = later found

-- where the row of a name is changed, and what it was goes over into what it is
changed-right : (P : Row → Type 0) (name : List ℕ) (change : Row → Row) (rows : List Row) → All P rows
    → ((row : Row) → row_named name rows ≡ Some row → P row → P (change row)) → All P (with_row name change rows)
changed-right P name change [] all goes = all
changed-right P name change (x ∷ rows) all goes =
    go (bytes_eq name x.receiver.name) (All-head P x rows all) (All-tail P x rows all) goes (changed-right P name change rows (All-tail P x rows all)) where
      go : (test : Bool) → P x → All P rows → ((row : Row) → cond test (Some x) (row_named name rows) ≡ Some row → P row → P (change row))
          → (((row : Row) → row_named name rows ≡ Some row → P row → P (change row)) → All P (with_row name change rows))
          → All P (cond test (change x ∷ rows) (x ∷ with_row name change rows))
      go true here rest goes later = All-cons P (change x) rows (goes x refl here) rest
      go false here rest goes later = All-cons P x (with_row name change rows) here (later goes)

-- ---- an edit

pub new-right : (journal : List Edit) (edit : Edit) (r : Receiver) → RowIsRight (journal ++ edit ∷ []) (new_row (suc (length journal)) r)
new-right journal edit r = record {
  since = omega (arith, length-append journal (edit ∷ []));
  kept = λ kept none. absurd (cc none);
  out = λ version none. absurd (cc none);
}

pub more-right : (journal : List Edit) (edit : Edit) (row : Row) → RowIsRight journal row → RowIsRight (journal ++ edit ∷ []) row
more-right journal edit row right = record {
  since = omega (arith, length-append journal (edit ∷ []), right.since);
  kept = λ kept some.
      let k = right.kept kept some in
      record {
        from = k.from;
        past = omega (arith, length-append journal (edit ∷ []), k.past);
        levels = k.levels ∙ ap (λ book. show_of book row.receiver) (sym (at-more journal edit kept.version k.past));
      };
  out = λ version some.
      let o = right.out version some in
      record { from = o.from; past = omega (arith, length-append journal (edit ∷ []), o.past); later = o.later };
}

after-right : (journal : List Edit) (rows : List Row) (edit : Edit) (r : Receiver) → All (RowIsRight journal) rows
    → RowIsRight (journal ++ edit ∷ []) (row_after edit journal rows r)
after-right journal rows edit r all = go (names r.name edit (newest_scene journal)) where
  old : (o : Option Row) → row_named r.name rows ≡ o → RowIsRight (journal ++ edit ∷ []) (unwrap_or o (new_row (suc (length journal)) r))
  old None found = new-right journal edit r
  old (Some row) found = more-right journal edit row (found-right (RowIsRight journal) r.name rows row all found)

  go : (test : Bool) → RowIsRight (journal ++ edit ∷ []) (cond test (new_row (suc (length journal)) r) (unwrap_or (row_named r.name rows) (new_row (suc (length journal)) r)))
  go true = new-right journal edit r
  go false = old (row_named r.name rows) refl

edit-right : (journal : List Edit) (rows : List Row) (edit : Edit) → All (RowIsRight journal) rows → All (RowIsRight (journal ++ edit ∷ [])) (rows_after edit journal rows)
edit-right journal rows edit all =
    All-map (RowIsRight (journal ++ edit ∷ [])) (row_after edit journal rows) (book_after edit (newest_scene journal)).receivers
    (λ k d below. after-right journal rows edit (get_or (book_after edit (newest_scene journal)).receivers k d) all)

-- ---- takes and returns

pub taken-right : (journal : List Edit) (row : Row) (version : ℕ) → version ≡ length journal → RowIsRight journal row → RowIsRight journal (with_out (Some version) row)
taken-right journal row version newest right = record {
  since = right.since;
  kept = λ kept some. let k = right.kept kept some in record { from = k.from; past = k.past; levels = k.levels };
  out = λ other some.
      let is : version ≡ other = cc some in
      record {
        from = omega (arith, right.since, is, newest);
        past = omega (arith, is, newest);
        later = λ kept k. omega (arith, (right.kept kept k).past, is, newest);
      };
}

pub freed-right : (journal : List Edit) (row : Row) → RowIsRight journal row → RowIsRight journal (with_out None row)
freed-right journal row right = record {
  since = right.since;
  kept = λ kept some. let k = right.kept kept some in record { from = k.from; past = k.past; levels = k.levels };
  out = λ other none. absurd (cc none);
}

-- levels of an answer that is right
shown-right : (journal : List Edit) (answer : Answer) → IsRight journal answer → answer.levels ≡ show_of (scene_at journal answer.version) answer.receiver
unfolding show_of
shown-right journal answer right =
    right.levels ∙ (ap levels_of right.bundles ∙ ap (λ (book : Book). show_of book answer.receiver) right.scene)

pub kept-right : (journal : List Edit) (row : Row) (answer : Answer) → answer.version ≤ length journal → row.out ≡ Some answer.version
    → answer.receiver ≡ row.receiver → IsRight journal answer → RowIsRight journal row
    → RowIsRight journal (with_kept (record { version = answer.version; levels = answer.levels }) row)
kept-right journal row answer past out same right before = record {
  since = before.since;
  kept = λ kept some.
      let version : answer.version ≡ kept.version = cc some in
      let levels : answer.levels ≡ kept.levels = cc some in
      record {
        from = omega (arith, (before.out answer.version out).from, version);
        past = omega (arith, past, version);
        levels = sym levels ∙ (shown-right journal answer right ∙ (λ i. show_of (scene_at journal (version i)) (same i)));
      };
  out = λ other none. absurd (cc none);
}

-- ---- every step

returned-right : (journal : List Edit) (rows : List Row) (job : Job) (naming : Option ℕ) → All (RowIsRight journal) rows → All (RowIsRight journal) (rows_after_return job naming rows)
returned-right journal rows job None all = changed-right (RowIsRight journal) job.receiver.name (with_out None) rows all (λ row found right. freed-right journal row right)
returned-right journal rows job (Some by) all = all

offered-right : (s : State) (answer : Answer) → answer.version ≤ length s.journal → first_naming s.journal answer.version answer.receiver.name ≡ None
    → (is_some (first_naming s.journal answer.version answer.receiver.name) ≡ true) ⊎ IsOutFor s.rows answer.version answer.receiver
    → IsRight s.journal answer → All (RowIsRight s.journal) s.rows
    → All (RowIsRight s.journal) (with_row answer.receiver.name (with_kept (record { version = answer.version; levels = answer.levels })) s.rows)
offered-right s answer past unnamed (inl some) right all = absurd (cc (unnamed, some))
offered-right s answer past unnamed (inr out) right all =
    changed-right (RowIsRight s.journal) answer.receiver.name (with_kept (record { version = answer.version; levels = answer.levels })) s.rows all
    (λ row found before.
    let is : out.row ≡ row = cc (out.found, found) in
    kept-right s.journal row answer past (ap (λ (r : Row). r.out) (sym is) ∙ out.out) (sym out.receiver ∙ ap (λ (r : Row). r.receiver) is) right before)

abbrev AllRight : State → Type 0
AllRight state = All (RowIsRight state.journal) state.rows

pub each-step-keeps-rows-right : EachStepKeepsRowsRight
each-step-keeps-rows-right s t (calls.Edit edit) (replies.Edited (Ok v)) can step all = subst AllRight (sym step.1) (edit-right s.journal s.rows edit all)
each-step-keeps-rows-right s t (calls.Edit edit) (replies.Edited (Err fault)) can step all = subst AllRight (sym step.1) all
each-step-keeps-rows-right s t calls.Take (replies.Took (took.Job job)) can step all =
    subst AllRight (sym step.leaves)
    (changed-right (RowIsRight s.journal) job.receiver.name (with_out (Some job.version)) s.rows all (λ row found right. taken-right s.journal row job.version step.version right))
each-step-keeps-rows-right s t calls.Take (replies.Took (took.Idle count)) can step all = subst AllRight (sym step.1) all
each-step-keeps-rows-right s t calls.Take (replies.Took took.Finished) can step all = subst AllRight (sym step.1) all
each-step-keeps-rows-right s t calls.Finish replies.Done can step all = subst AllRight (sym step) all
each-step-keeps-rows-right s t (calls.Offer answer) (replies.Landed landed.Kept) can step all =
    subst AllRight (sym step.1) (offered-right s answer can.0.past step.0 can.0.awaited can.1 all)
each-step-keeps-rows-right s t (calls.Offer answer) (replies.Landed (landed.Gone by)) can step all = subst AllRight (sym step.1) all
each-step-keeps-rows-right s t (calls.GiveBack job) replies.Done can step all =
    subst AllRight (sym step) (returned-right s.journal s.rows job (first_naming s.journal job.version job.receiver.name) all)
each-step-keeps-rows-right s t calls.Look (replies.Looked (Ok look)) can step all = subst AllRight (sym step.1) all
each-step-keeps-rows-right s t calls.Look (replies.Looked (Err want)) can step all = subst AllRight (sym step) all
each-step-keeps-rows-right s t call reply can step all = absurd step
