-- After every history in which each seat asked only what it may, a call that it may ask meets the condition of its step.
use Rattle.std.proofs.Common.{◌≡◌, ℕ, suc, ◌≤◌, Bool, true, false, cond, eqb, List, [], ◌∷◌, ◌++◌, length, Some, None, refl, sym, ap, ◌∙◌, subst, arith, ◌⊎◌, inl, inr, append_assoc, length-append}
use Rattle.std.specs.Prelude.{bytes_eq, Option, is_some, Result, Ok, Err, Contains, not, ◌&&◌}
use Rattle.std.specs.Option.{option_and_then}
use Rattle.std.proofs.lemmas.List.{take-append-le, append-nil}
use Rattle.std.proofs.lemmas.List.Elements.{Contains-push_cases}
use Rattle.std.proofs.lemmas.Bool.Decides.{Decides-eqb}
use Rattle.scene_parts.specs.Parts.{Receiver}
use Rattle.scene_parts.specs.declared.parts.Part.{Part}
use Rattle.scene_book.specs.Book.{Book}
use Rattle.scene_book.specs.Lists.{named}
use Rattle.scene_book.specs.Applying.{apply_of}
use Rattle.scene_book.specs.declared.edits.Edit.{Edit}
use Rattle.scene_book.specs.declared.edits.EditFault.{EditFault}
use Rattle.path_calc.specs.Show.{bundles_of}
use Rattle.path_cache.proofs.Rightness.{refreshed-is}
use Rattle.turn_lock.specs.declared.entry.Entry.{Entry}
use Rattle.turn_lock.specs.History.{entries_of, entry, EachAllowed, Leads}
use Rattle.map_board.specs.declared.answers.Landed.TheVariants as landed
use Rattle.map_board.specs.declared.calls.Took.TheVariants as took
use Rattle.map_board.specs.declared.calls.BoardCall.{BoardCall}
use Rattle.map_board.specs.declared.calls.BoardCall.TheVariants as calls
use Rattle.map_board.specs.declared.calls.BoardReply.{BoardReply}
use Rattle.map_board.specs.declared.calls.BoardReply.TheVariants as replies
use Rattle.map_board.specs.Views.{Job}
use Rattle.map_board.specs.Journal.{scene_at, newest_scene, names, first_naming}
use Rattle.map_board.specs.Rows.{Row, State, start, row_named, with_row, version_out, shown_of, is_current, is_out}
use Rattle.map_board.specs.Due.{is_due}
use Rattle.map_board.specs.Jobs.{IsOutFor, MayReturn, IsFit}
use Rattle.map_board.specs.Machine.{Step, Can, rows_after, numbered, with_out, with_kept, rows_after_return}
use Rattle.map_board.specs.Seats.{Entries, May, is_of, without_job, owed_after, owed}
use Rattle.map_board.specs.Laws.{BoardIsLawful}
use Rattle.map_board.proofs.Naming.{same_or_not, itself}
use Rattle.map_board.proofs.Journals.{newest-more, at-more, first-kept, first-comes, none-after}
use Rattle.map_board.proofs.Owing.{AddsNone, fewer-owed, owed-more, from-filter, passed}
use Rattle.map_board.proofs.Keeping.{row-out, out-of, none-of, other-row, this-row, same-rows, other-out, edited-some, edited-named, edited-unnamed}

-- a job that is owed may return, and fits
pub record Returns (journal : List Edit) (rows : List Row) (job : Job) : Type 0 where
  pub may : MayReturn journal rows job.version job.receiver
  pub fit : IsFit journal rows job

-- What holds after every history: each receiver of the scene has a row, and no other; what a seat owes may return and fits;
-- and where it is out for its row, one seat alone owes it
pub record Sound (history : Entries) (journal : List Edit) (rows : List Row) : Type 0 where
  pub filed : (name : List ℕ) → is_some (row_named name rows) ≡ is_some (named (λ (r : Receiver). r.name) name (newest_scene journal).receivers)
  pub returns : (m : ℕ) (job : Job) → Contains (owed (entries_of m history)) job → Returns journal rows job
  pub alone : (m n : ℕ) (a b : Job) → Contains (owed (entries_of m history)) a → Contains (owed (entries_of n history)) b
      → a.version ≡ b.version → a.receiver.name ≡ b.receiver.name → version_out a.receiver.name rows ≡ Some a.version → m ≡ n

-- what is out for a receiver is out under its name
under-name : (rows : List Row) (v : ℕ) (r : Receiver) → IsOutFor rows v r → version_out r.name rows ≡ Some v
under-name rows v r is = out-of r.name rows is.row is.found ∙ is.out

no-none : {A : Type 0} (x : A) (P : Type 0) (o : Option A) → o ≡ None → o ≡ Some x → P
no-none x P o none some = absurd (cc)

no-some : (o : Option ℕ) (P : Type 0) → o ≡ None → is_some o ≡ true → P
no-some o P none some = absurd (cc)

-- ---- an entry that adds no job and leaves journal and rows

pub sound-fewer : (history : Entries) (e : Entry BoardCall BoardReply) (journal : List Edit) (rows : List Row) → AddsNone e.call e.reply
    → Sound history journal rows → Sound (history ++ e ∷ []) journal rows
sound-fewer history e journal rows none s = record {
  filed = s.filed;
  returns = λ m job c. s.returns m job (fewer-owed history e none m job c);
  alone = λ m n a b ca cb. s.alone m n a b (fewer-owed history e none m a ca) (fewer-owed history e none n b cb);
}

-- ---- an edit

module _ (edit : Edit) (journal : List Edit) (rows : List Row) (b : Book) (old : Option Part) (accepted : apply_of edit (newest_scene journal) ≡ Ok (b, old))
    (filed : (name : List ℕ) → is_some (row_named name rows) ≡ is_some (named (λ (r : Receiver). r.name) name (newest_scene journal).receivers)) where
  abbrev new_rows : List Row
  new_rows = rows_after edit journal rows

  -- what is out after the edit was out before it
  was-out : (name : List ℕ) (v : ℕ) → version_out name new_rows ≡ Some v → row_named name new_rows ≡ row_named name rows
  was-out name v out = go (names name edit (newest_scene journal)) refl where
    go : (test : Bool) → names name edit (newest_scene journal) ≡ test → row_named name new_rows ≡ row_named name rows
    go true e = no-none v (row_named name new_rows ≡ row_named name rows) (version_out name new_rows) (edited-named edit journal rows name e) out
    go false e = edited-unnamed edit journal rows name b old accepted e (filed name)

  grown-awaited : (r : Receiver) (v : ℕ) → v ≤ length journal → (is_some (first_naming journal v r.name) ≡ true) ⊎ IsOutFor rows v r
      → (is_some (first_naming (journal ++ edit ∷ []) v r.name) ≡ true) ⊎ IsOutFor new_rows v r
  grown-awaited r v past awaited = go (names r.name edit (newest_scene journal)) refl awaited where
    go : (test : Bool) → names r.name edit (newest_scene journal) ≡ test → (is_some (first_naming journal v r.name) ≡ true) ⊎ IsOutFor rows v r
        → (is_some (first_naming (journal ++ edit ∷ []) v r.name) ≡ true) ⊎ IsOutFor new_rows v r
    go true e h = inl (first-comes (names r.name) journal edit v past e)
    go false e (inl some) = inl (first-kept (names r.name) journal edit v past some)
    go false e (inr out) = inr (record {
      row = out.row;
      found = edited-unnamed edit journal rows r.name b old accepted e (filed r.name) ∙ out.found;
      receiver = out.receiver;
      out = out.out;
    })

  grown-returns : (job : Job) → Returns journal rows job → Returns (journal ++ edit ∷ []) new_rows job
  grown-returns job r = record {
    may = record {
      past = omega (arith, length-append journal (edit ∷ []), r.may.past);
      awaited = grown-awaited job.receiver job.version r.may.past r.may.awaited;
    };
    fit = record {
      scene = r.fit.scene ∙ sym (at-more journal edit job.version r.may.past);
      kept = r.fit.kept;
      due = λ row found out source within.
          let before : row_named job.receiver.name rows ≡ Some row = sym (was-out job.receiver.name job.version (out-of job.receiver.name new_rows row found ∙ out)) ∙ found in
          r.fit.due row before out source within
          ∙ ap (λ es. is_due es row.kept row.receiver source) (sym (take-append-le job.version journal (edit ∷ []) r.may.past));
    };
  }

pub sound-grown : (history : Entries) (edit : Edit) (journal : List Edit) (rows : List Row) (b : Book) (old : Option Part)
    → apply_of edit (newest_scene journal) ≡ Ok (b, old) → Sound history journal rows
    → Sound history (journal ++ edit ∷ []) (rows_after edit journal rows)
sound-grown history edit journal rows b old accepted s = record {
  filed = λ name. edited-some edit journal rows name ∙ ap (λ (book : Book). is_some (named (λ (r : Receiver). r.name) name book.receivers)) (sym (newest-more journal edit));
  returns = λ m job c. grown-returns edit journal rows b old accepted s.filed job (s.returns m job c);
  alone = λ m n x y cx cy versions same out.
      let stays = was-out edit journal rows b old accepted s.filed x.receiver.name x.version out in
      s.alone m n x y cx cy versions same (ap (option_and_then (λ (row : Row). row.out)) (sym stays) ∙ out);
}

-- ---- one row changed: what is owed for other rows

module _ (journal : List Edit) (rows : List Row) (name : List ℕ) (change : Row → Row) (keeps : (row : Row) → (change row).receiver ≡ row.receiver) where
  abbrev changed : List Row
  changed = with_row name change rows

  other-returns : (job : Job) → bytes_eq name job.receiver.name ≡ false → Returns journal rows job → Returns journal changed job
  other-returns job away r = record {
    may = record { past = r.may.past; awaited = go r.may.awaited };
    fit = record {
      scene = r.fit.scene;
      kept = r.fit.kept;
      due = λ row found. r.fit.due row (sym (other-row name change keeps job.receiver.name rows away) ∙ found);
    };
  } where
    go : (is_some (first_naming journal job.version job.receiver.name) ≡ true) ⊎ IsOutFor rows job.version job.receiver
        → (is_some (first_naming journal job.version job.receiver.name) ≡ true) ⊎ IsOutFor changed job.version job.receiver
    go (inl some) = inl some
    go (inr out) = inr (record { row = out.row; found = other-row name change keeps job.receiver.name rows away ∙ out.found; receiver = out.receiver; out = out.out })

  -- what is owed for the changed row itself, once an edit named it, where its version isn't out
  named-returns : (job : Job) → is_some (first_naming journal job.version job.receiver.name) ≡ true
      → (version_out job.receiver.name changed ≡ Some job.version → ⊥) → Returns journal rows job → Returns journal changed job
  named-returns job some not_out r = record {
    may = record { past = r.may.past; awaited = inl some };
    fit = record {
      scene = r.fit.scene;
      kept = r.fit.kept;
      due = λ row found out source within. absurd (not_out (out-of job.receiver.name changed row found ∙ out));
    };
  }

-- ---- a take

more-owed : (jobs : List Job) (job other : Job) (own : Bool) → Contains (cond own (jobs ++ job ∷ []) jobs) other → Contains jobs other ⊎ ((own ≡ true) × (job ≡ other))
more-owed jobs job other true c = go (Contains-push_cases jobs job other c) where
  go : Contains jobs other ⊎ (job ≡ other) → Contains jobs other ⊎ ((true ≡ true) × (job ≡ other))
  go (inl old) = inl old
  go (inr is) = inr (refl, is)
more-owed jobs job other false c = inl c

module _ (history : Entries) (e : Entry BoardCall BoardReply) (job : Job) (adds : (jobs : List Job) → owed_after jobs e.call e.reply ≡ jobs ++ job ∷ [])
    (journal : List Edit) (rows : List Row) (row : Row) (found : row_named job.receiver.name rows ≡ Some row) (same_receiver : row.receiver ≡ job.receiver) (free : row.out ≡ None)
    (newest : job.version ≡ length journal) (s : Sound history journal rows) where
  abbrev keeps_out : (version : Option ℕ) (r : Row) → (with_out version r).receiver ≡ r.receiver
  keeps_out version r = refl

  abbrev rows_taken : List Row
  rows_taken = with_row job.receiver.name (with_out (Some job.version)) rows

  taken-out : version_out job.receiver.name rows_taken ≡ Some job.version
  taken-out = ap (option_and_then (λ (r : Row). r.out)) (this-row job.receiver.name (with_out (Some job.version)) (keeps_out (Some job.version)) rows row found)

  -- no seat owed a job of the newest version for this row
  none-newest : (other : Job) → Returns journal rows other → job.receiver.name ≡ other.receiver.name → other.version ≡ length journal → ⊥
  none-newest other r same is = go r.may.awaited where
    go : (is_some (first_naming journal other.version other.receiver.name) ≡ true) ⊎ IsOutFor rows other.version other.receiver → ⊥
    go (inl some) =
        no-some (first_naming journal other.version other.receiver.name) ⊥
        (ap (λ v. first_naming journal v other.receiver.name) is ∙ none-after (names other.receiver.name) journal) some
    go (inr out) =
        no-none other.version ⊥ (version_out other.receiver.name rows)
        (ap (λ n. version_out n rows) (sym same) ∙ (out-of job.receiver.name rows row found ∙ free)) (under-name rows other.version other.receiver out)

  same-returns : (other : Job) → job.receiver.name ≡ other.receiver.name → Returns journal rows other → Returns journal rows_taken other
  same-returns other same r = go r.may.awaited where
    go : (is_some (first_naming journal other.version other.receiver.name) ≡ true) ⊎ IsOutFor rows other.version other.receiver
        → Returns journal rows_taken other
    go (inl some) =
        named-returns journal rows job.receiver.name (with_out (Some job.version)) (keeps_out (Some job.version)) other some
        (λ out.
        let is_taken : version_out other.receiver.name rows_taken ≡ Some job.version = ap (λ n. version_out n rows_taken) (sym same) ∙ taken-out in
        let versions : job.version ≡ other.version = cc (is_taken, out) in
        none-newest other r same (sym versions ∙ newest)) r
    go (inr out) =
        no-none other.version (Returns journal rows_taken other) (version_out other.receiver.name rows)
        (ap (λ n. version_out n rows) (sym same) ∙ (out-of job.receiver.name rows row found ∙ free)) (under-name rows other.version other.receiver out)

  old-returns : (other : Job) → Returns journal rows other → Returns journal rows_taken other
  old-returns other r = go (same_or_not job.receiver.name other.receiver.name) where
    go : (job.receiver.name ≡ other.receiver.name) ⊎ (bytes_eq job.receiver.name other.receiver.name ≡ false) → Returns journal rows_taken other
    go (inl same) = same-returns other same r
    go (inr away) = other-returns journal rows job.receiver.name (with_out (Some job.version)) (keeps_out (Some job.version)) other away r

  cases : (m : ℕ) (other : Job) → Contains (owed (entries_of m (history ++ e ∷ []))) other → Contains (owed (entries_of m history)) other ⊎ ((eqb e.number m ≡ true) × (job ≡ other))
  cases m other c =
      more-owed (owed (entries_of m history)) job other (eqb e.number m)
      (subst (λ jobs. Contains jobs other)
      (owed-more history e m ∙ ap (λ jobs. cond (eqb e.number m) jobs (owed (entries_of m history))) (adds (owed (entries_of m history)))) c)

  old-alone : (m n : ℕ) (a b : Job) → Contains (owed (entries_of m history)) a → Contains (owed (entries_of n history)) b
      → a.version ≡ b.version → a.receiver.name ≡ b.receiver.name → version_out a.receiver.name rows_taken ≡ Some a.version → m ≡ n
  old-alone m n a b ca cb versions same out = go (same_or_not job.receiver.name a.receiver.name) where
    go : (job.receiver.name ≡ a.receiver.name) ⊎ (bytes_eq job.receiver.name a.receiver.name ≡ false) → m ≡ n
    go (inl here) =
        let is_taken : version_out a.receiver.name rows_taken ≡ Some job.version = ap (λ n. version_out n rows_taken) (sym here) ∙ taken-out in
        let is : job.version ≡ a.version = cc (is_taken, out) in
        absurd (none-newest a (s.returns m a ca) here (sym is ∙ newest))
    go (inr away) =
        s.alone m n a b ca cb versions same
        (sym (other-out job.receiver.name (with_out (Some job.version)) (keeps_out (Some job.version)) a.receiver.name rows away) ∙ out)

  pub sound-taken : IsFit journal rows_taken job → Sound (history ++ e ∷ []) journal rows_taken
  sound-taken fit = record {
    filed = λ name. same-rows job.receiver.name (with_out (Some job.version)) (keeps_out (Some job.version)) name rows ∙ s.filed name;
    returns = λ m other c. back m other (cases m other c);
    alone = λ m n a b ca cb. lone m n a b (cases m a ca) (cases n b cb);
  } where
    new : Returns journal rows_taken job
    new = record {
      may = record {
        past = omega (arith, newest);
        awaited = inr (record {
          row = with_out (Some job.version) row;
          found = this-row job.receiver.name (with_out (Some job.version)) (keeps_out (Some job.version)) rows row found;
          receiver = same_receiver;
          out = refl;
        });
      };
      fit = fit;
    }

    back : (m : ℕ) (other : Job) → Contains (owed (entries_of m history)) other ⊎ ((eqb e.number m ≡ true) × (job ≡ other)) → Returns journal rows_taken other
    back m other (inl c) = old-returns other (s.returns m other c)
    back m other (inr is) = subst (λ j. Returns journal rows_taken j) is.1 new

    lone : (m n : ℕ) (a b : Job) → Contains (owed (entries_of m history)) a ⊎ ((eqb e.number m ≡ true) × (job ≡ a))
        → Contains (owed (entries_of n history)) b ⊎ ((eqb e.number n ≡ true) × (job ≡ b))
        → a.version ≡ b.version → a.receiver.name ≡ b.receiver.name → version_out a.receiver.name rows_taken ≡ Some a.version → m ≡ n
    lone m n a b (inl ca) (inl cb) versions same out = old-alone m n a b ca cb versions same out
    lone m n a b (inl ca) (inr is) versions same out =
        absurd (none-newest a (s.returns m a ca) (ap (λ (j : Job). j.receiver.name) is.1 ∙ sym same) (versions ∙ (ap (λ (j : Job). j.version) (sym is.1) ∙ newest)))
    lone m n a b (inr is) (inl cb) versions same out =
        absurd (none-newest b (s.returns n b cb) (ap (λ (j : Job). j.receiver.name) is.1 ∙ same) (sym versions ∙ (ap (λ (j : Job). j.version) (sym is.1) ∙ newest)))
    lone m n a b (inr is) (inr was) versions same out = sym ((Decides-eqb e.number m).0 is.0) ∙ (Decides-eqb e.number n).0 was.0

-- ---- an answer or a job that comes back, whose receiver no edit named since

returned-owed : (jobs : List Job) (version : ℕ) (name : List ℕ) (other : Job) (own : Bool) → Contains (cond own (without_job version name jobs) jobs) other
    → Contains jobs other × (own ≡ true → is_of version name other ≡ false)
returned-owed jobs version name other true c =
    (from-filter (λ job. not (is_of version name job)) jobs other c, λ own. unlike (is_of version name other) (passed (λ job. not (is_of version name job)) jobs other c)) where
      unlike : (test : Bool) → not test ≡ true → test ≡ false
      unlike true h = absurd (cc)
      unlike false h = refl
returned-owed jobs version name other false c = (c, λ own. absurd (cc))

is-of : (version : ℕ) (name : List ℕ) (job : Job) → job.version ≡ version → job.receiver.name ≡ name → is_of version name job ≡ true
is-of version name job versions same =
    let v : eqb job.version version ≡ true = (Decides-eqb job.version version).1 versions in
    let n : bytes_eq job.receiver.name name ≡ true = ap (bytes_eq job.receiver.name) (sym same) ∙ itself job.receiver.name in
    rw v n

module _ (history : Entries) (e : Entry BoardCall BoardReply) (job : Job) (version : ℕ) (name : List ℕ)
    (takes : (jobs : List Job) → owed_after jobs e.call e.reply ≡ without_job version name jobs)
    (journal : List Edit) (rows : List Row) (change : Row → Row) (keeps : (row : Row) → (change row).receiver ≡ row.receiver) (frees : (row : Row) → (change row).out ≡ None)
    (mine : Contains (owed (entries_of e.number history)) job) (versions : job.version ≡ version) (names_same : job.receiver.name ≡ name)
    (unnamed : first_naming journal version name ≡ None) (s : Sound history journal rows) where
  abbrev rows_back : List Row
  rows_back = with_row name change rows

  -- it was out
  out-before : version_out name rows ≡ Some version
  out-before = go (s.returns e.number job mine).may.awaited where
    go : (is_some (first_naming journal job.version job.receiver.name) ≡ true) ⊎ IsOutFor rows job.version job.receiver → version_out name rows ≡ Some version
    go (inl some) =
        no-some (first_naming journal job.version job.receiver.name) (version_out name rows ≡ Some version)
        (ap (λ v. first_naming journal v job.receiver.name) versions ∙ (ap (first_naming journal version) names_same ∙ unnamed)) some
    go (inr out) = ap (λ n. version_out n rows) (sym names_same) ∙ (under-name rows job.version job.receiver out ∙ ap (λ v. Some v) versions)

  -- and is no longer
  out-after : version_out name rows_back ≡ None
  out-after =
      let was = row-out name rows version out-before in
      ap (option_and_then (λ (r : Row). r.out)) (this-row name change keeps rows was.row was.found) ∙ frees was.row

  back-cases : (m : ℕ) (other : Job) → Contains (owed (entries_of m (history ++ e ∷ []))) other
      → Contains (owed (entries_of m history)) other × (eqb e.number m ≡ true → is_of version name other ≡ false)
  back-cases m other c =
      returned-owed (owed (entries_of m history)) version name other (eqb e.number m)
      (subst (λ jobs. Contains jobs other)
      (owed-more history e m ∙ ap (λ jobs. cond (eqb e.number m) jobs (owed (entries_of m history))) (takes (owed (entries_of m history)))) c)

  -- no seat still owes a job of that version for that receiver
  none-left : (m : ℕ) (other : Job) → Contains (owed (entries_of m (history ++ e ∷ []))) other → name ≡ other.receiver.name → version ≡ other.version → ⊥
  none-left m other c same is =
      let k = back-cases m other c in
      let out : version_out job.receiver.name rows ≡ Some job.version = ap (λ n. version_out n rows) names_same ∙ (out-before ∙ ap (λ v. Some v) (sym versions)) in
      let seat : e.number ≡ m = s.alone e.number m job other mine k.0 (versions ∙ is) (names_same ∙ same) out in
      let own : eqb e.number m ≡ true = (Decides-eqb e.number m).1 seat in
      clash (is_of version name other) (is-of version name other (sym is) (sym same)) (k.1 own) where
        clash : (test : Bool) → test ≡ true → test ≡ false → ⊥
        clash test is_true is_false = cc

  back-returns : (m : ℕ) (other : Job) → Contains (owed (entries_of m (history ++ e ∷ []))) other → Returns journal rows_back other
  back-returns m other c = go (same_or_not name other.receiver.name) where
    r : Returns journal rows other
    r = s.returns m other (back-cases m other c).0

    here : name ≡ other.receiver.name → (is_some (first_naming journal other.version other.receiver.name) ≡ true) ⊎ IsOutFor rows other.version other.receiver
        → Returns journal rows_back other
    here same (inl some) =
        named-returns journal rows name change keeps other some
        (λ out. no-none other.version ⊥ (version_out other.receiver.name rows_back) (ap (λ n. version_out n rows_back) (sym same) ∙ out-after) out) r
    here same (inr out) =
        let both : version_out name rows ≡ Some other.version = ap (λ n. version_out n rows) same ∙ under-name rows other.version other.receiver out in
        let is : version ≡ other.version = cc (both, out-before) in
        absurd (none-left m other c same is)

    go : (name ≡ other.receiver.name) ⊎ (bytes_eq name other.receiver.name ≡ false) → Returns journal rows_back other
    go (inl same) = here same r.may.awaited
    go (inr away) = other-returns journal rows name change keeps other away r

  back-alone : (m n : ℕ) (a b : Job) → Contains (owed (entries_of m history)) a → Contains (owed (entries_of n history)) b
      → a.version ≡ b.version → a.receiver.name ≡ b.receiver.name → version_out a.receiver.name rows_back ≡ Some a.version → m ≡ n
  back-alone m n a b ca cb same_version same out = go (same_or_not name a.receiver.name) where
    go : (name ≡ a.receiver.name) ⊎ (bytes_eq name a.receiver.name ≡ false) → m ≡ n
    go (inl here) =
        no-none a.version (m ≡ n) (version_out a.receiver.name rows_back) (ap (λ n. version_out n rows_back) (sym here) ∙ out-after) out
    go (inr away) = s.alone m n a b ca cb same_version same (sym (other-out name change keeps a.receiver.name rows away) ∙ out)

  pub sound-back : Sound (history ++ e ∷ []) journal rows_back
  sound-back = record {
    filed = λ other. same-rows name change keeps other rows ∙ s.filed other;
    returns = back-returns;
    alone = λ m n a b ca cb. back-alone m n a b (back-cases m a ca).0 (back-cases n b cb).0;
  }

-- ---- every step

accepted-of : (v w : ℕ) (answer : Result (Book × Option Part) EditFault) → numbered v answer ≡ Ok w → (after : Book × Option Part) × (answer ≡ Ok after)
accepted-of v w (Ok after) h = (after, refl)
accepted-of v w (Err fault) h = absurd (cc)

needy-free : (current out : Bool) → (not current && not out) ≡ true → out ≡ false
needy-free current false h = refl
needy-free true true h = absurd (cc)
needy-free false true h = absurd (cc)

abbrev HoldsIn : Entries → State → Type 0
HoldsIn history state = Sound history state.journal state.rows

given-back : (history : Entries) (n : ℕ) (job : Job) (s : State) → HoldsIn history s → Contains (owed (entries_of n history)) job
    → (naming : Option ℕ) → first_naming s.journal job.version job.receiver.name ≡ naming
    → Sound (history ++ entry n (calls.GiveBack job) replies.Done ∷ []) s.journal (rows_after_return job naming s.rows)
given-back history n job s sound mine None is =
    sound-back history (entry n (calls.GiveBack job) replies.Done) job job.version job.receiver.name (λ jobs. refl) s.journal s.rows (with_out None) (λ row. refl) (λ row. refl) mine refl refl is sound
given-back history n job s sound mine (Some by) is =
    sound-fewer history (entry n (calls.GiveBack job) replies.Done) s.journal s.rows (λ jobs other c. from-filter (λ j. not (is_of job.version job.receiver.name j)) jobs other c) sound

sound-step : (history : Entries) (n : ℕ) (call : BoardCall) (reply : BoardReply) (s t : State) → HoldsIn history s
    → May n (entries_of n history) call → Step s call reply t → HoldsIn (history ++ entry n call reply ∷ []) t
sound-step history n (calls.Edit edit) (replies.Edited (Ok v)) s t sound may step =
    let e = entry n (calls.Edit edit) (replies.Edited (Ok v)) in
    let after = accepted-of (suc (length s.journal)) v (apply_of edit (newest_scene s.journal)) step.0 in
    subst (HoldsIn (history ++ e ∷ [])) (sym step.1)
    (sound-grown (history ++ e ∷ []) edit s.journal s.rows after.0.0 after.0.1 after.1 (sound-fewer history e s.journal s.rows (λ jobs job c. c) sound))
sound-step history n (calls.Edit edit) (replies.Edited (Err fault)) s t sound may step =
    let e = entry n (calls.Edit edit) (replies.Edited (Err fault)) in
    subst (HoldsIn (history ++ e ∷ [])) (sym step.1) (sound-fewer history e s.journal s.rows (λ jobs job c. c) sound)
sound-step history n calls.Take (replies.Took (took.Job job)) s t sound may step =
    let e = entry n calls.Take (replies.Took (took.Job job)) in
    let free : step.row.out ≡ None = none-of step.row.out (needy-free (is_current (shown_of s.journal step.row)) (is_out step.row) step.needy) in
    let fit : IsFit s.journal (with_row job.receiver.name (with_out (Some job.version)) s.rows) job = subst (λ (u : State). IsFit u.journal u.rows job) step.leaves step.fit in
    subst (HoldsIn (history ++ e ∷ [])) (sym step.leaves) (sound-taken history e job (λ jobs. refl) s.journal s.rows step.row step.named step.receiver free step.version sound fit)
sound-step history n calls.Take (replies.Took (took.Idle count)) s t sound may step =
    let e = entry n calls.Take (replies.Took (took.Idle count)) in
    subst (HoldsIn (history ++ e ∷ [])) (sym step.1) (sound-fewer history e s.journal s.rows (λ jobs job c. c) sound)
sound-step history n calls.Take (replies.Took took.Finished) s t sound may step =
    let e = entry n calls.Take (replies.Took took.Finished) in
    subst (HoldsIn (history ++ e ∷ [])) (sym step.1) (sound-fewer history e s.journal s.rows (λ jobs job c. c) sound)
sound-step history n calls.Finish replies.Done s t sound may step =
    let e = entry n calls.Finish replies.Done in
    subst (HoldsIn (history ++ e ∷ [])) (sym step) (sound-fewer history e s.journal s.rows (λ jobs job c. c) sound)
sound-step history n (calls.Offer answer) (replies.Landed landed.Kept) s t sound may step =
    let e = entry n (calls.Offer answer) (replies.Landed landed.Kept) in
    subst (HoldsIn (history ++ e ∷ [])) (sym step.1)
    (sound-back history e may.0 answer.version answer.receiver.name (λ jobs. refl) s.journal s.rows
    (with_kept (record { version = answer.version; levels = answer.levels })) (λ row. refl) (λ row. refl)
    may.1 (sym may.2.version) (ap (λ (r : Receiver). r.name) (sym may.2.receiver)) step.0 sound)
sound-step history n (calls.Offer answer) (replies.Landed (landed.Gone by)) s t sound may step =
    let e = entry n (calls.Offer answer) (replies.Landed (landed.Gone by)) in
    subst (HoldsIn (history ++ e ∷ [])) (sym step.1)
    (sound-fewer history e s.journal s.rows (λ jobs job c. from-filter (λ j. not (is_of answer.version answer.receiver.name j)) jobs job c) sound)
sound-step history n (calls.GiveBack job) replies.Done s t sound may step =
    let e = entry n (calls.GiveBack job) replies.Done in
    subst (HoldsIn (history ++ e ∷ [])) (sym step)
    (given-back history n job s sound may (first_naming s.journal job.version job.receiver.name) refl)
sound-step history n calls.Look (replies.Looked (Ok look)) s t sound may step =
    let e = entry n calls.Look (replies.Looked (Ok look)) in
    subst (HoldsIn (history ++ e ∷ [])) (sym step.1) (sound-fewer history e s.journal s.rows (λ jobs job c. c) sound)
sound-step history n calls.Look (replies.Looked (Err want)) s t sound may step =
    let e = entry n calls.Look (replies.Looked (Err want)) in
    subst (HoldsIn (history ++ e ∷ [])) (sym step) (sound-fewer history e s.journal s.rows (λ jobs job c. c) sound)
sound-step history n call reply s t sound may step = absurd step

-- ---- every history

sound-from : (front back : Entries) (mid to : State) → EachAllowed May front back → Leads Step mid back to → HoldsIn front mid → HoldsIn (front ++ back) to
sound-from front [] mid to allowed leads sound =
    subst (HoldsIn (front ++ [])) leads (subst (λ (h : Entries). HoldsIn h mid) (sym (append-nil front)) sound)
sound-from front (e ∷ back) mid to allowed leads sound =
    subst (λ (h : Entries). HoldsIn h to) (append_assoc front (e ∷ []) back)
    (sound-from (front ++ e ∷ []) back leads.0 to allowed.1 leads.2 (sound-step front e.number e.call e.reply mid leads.0 sound allowed.0 leads.1))

sound-start : HoldsIn [] start
sound-start = record {
  filed = λ name. refl;
  returns = λ m job c. absurd (omega (arith, c.1));
  alone = λ m n a b ca. absurd (omega (arith, ca.1));
}

can-ask : (history : Entries) (s : State) (n : ℕ) (call : BoardCall) → HoldsIn history s → May n (entries_of n history) call → Can s call
can-ask history s n (calls.Edit edit) sound may = tt
can-ask history s n calls.Take sound may = tt
can-ask history s n calls.Finish sound may = tt
can-ask history s n (calls.Offer answer) sound may =
    let job = may.0 in
    let r = sound.returns n job may.1 in
    let of : MayReturn s.journal s.rows answer.version answer.receiver =
    subst (λ (p : ℕ × Receiver). MayReturn s.journal s.rows p.0 p.1) (λ i. (sym may.2.version i, sym may.2.receiver i)) r.may in (
      of,
      record {
        scene = may.2.scene ∙ (r.fit.scene ∙ ap (scene_at s.journal) (sym may.2.version));
        bundles = may.2.bundles ∙ (refreshed-is job.scene job.receiver job.kept job.marks r.fit.kept ∙ (λ i. bundles_of (sym may.2.scene i) (sym may.2.receiver i)));
        levels = may.2.levels;
      },
    )
can-ask history s n (calls.GiveBack job) sound may = let r = sound.returns n job may in (r.may, r.fit)
can-ask history s n calls.Look sound may = tt

pub board-is-lawful : BoardIsLawful
board-is-lawful history state number call run may =
    can-ask history state number call (sound-from [] history start state run.allowed run.leads sound-start) may
