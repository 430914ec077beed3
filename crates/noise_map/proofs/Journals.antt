-- Edits in a row, each in its ranges and accepted by the scene that the earlier ones left.
use Rattle.std.proofs.Common.{◌≡◌, ℕ, zero, suc, ◌≤◌, ◌<◌, List, [], ◌∷◌, ◌++◌, length, take, refl, sym, ap, ◌∙◌, subst, arith, append_assoc}
use Rattle.std.specs.Prelude.{Option, Some, None, Result, Ok, Err, All, slice_get, flat_map}
use Rattle.std.proofs.lemmas.List.{append-nil, take_all, take-append-le}
use Rattle.std.proofs.lemmas.List.Elements.{All-nil, All-head, All-tail, All-append}
use Rattle.scene_parts.specs.declared.parts.Part.{Part}
use Rattle.scene_parts.specs.Answers.{◌>>=◌}
use Rattle.scene_book.specs.declared.edits.Edit.{Edit}
use Rattle.scene_book.specs.declared.edits.EditFault.{EditFault}
use Rattle.scene_book.specs.Book.{Book, empty_book}
use Rattle.scene_book.specs.Applying.{apply_of, applied}
use Rattle.scene_undo.specs.Inverse.{inverse_of}
use Rattle.scene_undo.specs.Scenes.{IsEdit, IsScene}
use Rattle.map_board.specs.Journal.{scene_left, book_after, book_after_all, scene_at, newest_scene}
use Rattle.noise_map.specs.Effects.{undone_by, way_back, with_edit, journal_with, journal_with_all}
use Rattle.scene_undo.proofs.Kept.{empty-scene, scene-kept}
use Rattle.scene_undo.proofs.Trails.{inverse-edits}
use Rattle.map_board.proofs.Journals.{all-append}
use Rattle.noise_map.proofs.Effects.{get-front, get-behind}

-- ---- one edit

-- a scene and an old part as an answer
abbrev answered : Book → Option Part → Result (Book × Option Part) EditFault
answered book old = Ok (book, old)

-- an edit in its ranges that a scene accepts
pub record IsTaken (edit : Edit) (book : Book) : Type 0 where
  pub is : IsEdit edit
  pub old : Option Part
  pub accepted : apply_of edit book ≡ Ok (book_after edit book, old)

pub taken : (edit : Edit) (book after : Book) (old : Option Part) → IsEdit edit → apply_of edit book ≡ Ok (after, old) → IsTaken edit book
taken edit book after old is e = record {
  is = is;
  old = old;
  accepted = e ∙ ap (λ (b : Book). answered b old) (sym (ap (scene_left book) e));
}

-- ---- edits in a row

abbrev pub AreTaken : Book → List Edit → Type 0
AreTaken book [] = Unit {0}
AreTaken book (edit ∷ edits) = IsTaken edit book × AreTaken (book_after edit book) edits

-- from the scene without parts
abbrev pub IsJournal : List Edit → Type 0
IsJournal journal = AreTaken empty_book journal

taken-append : (book : Book) (edits more : List Edit) → AreTaken book edits → AreTaken (book_after_all edits book) more → AreTaken book (edits ++ more)
taken-append book [] more done then = then
taken-append book (edit ∷ edits) more done then = (done.0, taken-append (book_after edit book) edits more done.1 then)

taken-first : (book : Book) (edits : List Edit) (k : ℕ) → AreTaken book edits → AreTaken book (take k edits)
taken-first book edits zero done = tt
taken-first book [] (suc k) done = tt
taken-first book (edit ∷ edits) (suc k) done = (done.0, taken-first (book_after edit book) edits k done.1)

scene-behind : (book : Book) (edits : List Edit) → IsScene book → AreTaken book edits → IsScene (book_after_all edits book)
scene-behind book [] scene done = scene
scene-behind book (edit ∷ edits) scene done =
    let first = done.0 in
    scene-behind (book_after edit book) edits (scene-kept edit book (book_after edit book) first.old first.is scene first.accepted) done.1

-- each version of a journal is a scene
pub version-scene : (journal : List Edit) (version : ℕ) → IsJournal journal → IsScene (scene_at journal version)
version-scene journal version done =
    scene-behind empty_book (take version journal) empty-scene (taken-first empty_book journal version done)

-- edits that are accepted one after the other are so in a row
pub in-row : (book after : Book) (edits : List Edit) → All IsEdit edits → applied edits book ≡ Ok after
    → AreTaken book edits × (book_after_all edits book ≡ after)
in-row book after [] all e = (tt, cc)
in-row book after (edit ∷ edits) all e =
    by (apply_of edit book) refl (λ next f. in-row next after edits (All-tail IsEdit edit edits all) f) e
  where
    by : (r : Result (Book × Option Part) EditFault) → apply_of edit book ≡ r
        → ((next : Book) → applied edits next ≡ Ok after → AreTaken next edits × (book_after_all edits next ≡ after))
        → (r >>= λ next. applied edits next.0) ≡ Ok after
        → AreTaken book (edit ∷ edits) × (book_after_all (edit ∷ edits) book ≡ after)
    by (Err fault) h later e = cc
    by (Ok next) h later e =
        let here : book_after edit book ≡ next.0 = ap (scene_left book) h in
        let rest = subst (λ (b : Book). AreTaken b edits × (book_after_all edits b ≡ after)) (sym here) (later next.0 e) in
        ((taken edit book next.0 next.1 (All-head IsEdit edit edits all) h, rest.0), rest.1)

-- ---- journals

pub newest-behind : (journal more : List Edit) → newest_scene (journal ++ more) ≡ book_after_all more (newest_scene journal)
newest-behind journal more = all-append journal more empty_book

-- a version stays as it is in a longer journal
pub version-stays : (journal more : List Edit) (version : ℕ) → version ≤ length journal → scene_at (journal ++ more) version ≡ scene_at journal version
version-stays journal more version past = ap (λ (edits : List Edit). book_after_all edits empty_book) (take-append-le version journal more past)

-- the last version is the newest scene
pub last-version : (journal : List Edit) (version : ℕ) → length journal ≤ version → scene_at journal version ≡ newest_scene journal
last-version journal version all = ap (λ (edits : List Edit). book_after_all edits empty_book) (take_all version journal all)

pub journal-append : (journal more : List Edit) → IsJournal journal → AreTaken (newest_scene journal) more → IsJournal (journal ++ more)
journal-append journal more done then = taken-append empty_book journal more done then

-- edits that are taken in a row are all in the journal behind them
pub all-in : (journal edits : List Edit) → AreTaken (newest_scene journal) edits → journal_with_all journal edits ≡ journal ++ edits
all-in journal [] done = sym (append-nil journal)
all-in journal (edit ∷ edits) done =
    let one : journal_with journal edit ≡ journal ++ edit ∷ [] = ap (with_edit journal edit) (done.0).accepted in
    let rest = subst (λ (b : Book). AreTaken b edits) (sym (newest-behind journal (edit ∷ []))) done.1 in
    ap (λ (j : List Edit). journal_with_all j edits) one
    ∙ (all-in (journal ++ edit ∷ []) edits rest ∙ append_assoc journal (edit ∷ []) edits)

-- ---- one version and the next

-- the edit behind a version, and what it leads to
pub record IsStep (book : Book) (edits : List Edit) (before : ℕ) : Type 0 where
  pub edit : Edit
  pub at : slice_get edits before ≡ Some edit
  pub taken : IsTaken edit (book_after_all (take before edits) book)
  pub leads : book_after_all (take (suc before) edits) book ≡ book_after edit (book_after_all (take before edits) book)

pub step-at : (book : Book) (edits : List Edit) (before : ℕ) → before < length edits → AreTaken book edits → IsStep book edits before
step-at book [] before below done = absurd (omega (arith, below))
step-at book (edit ∷ edits) zero below done = record { edit = edit; at = refl; taken = done.0; leads = refl }
step-at book (edit ∷ edits) (suc before) below done =
    let rest = step-at (book_after edit book) edits before (omega (arith, below)) done.1 in
    record { edit = rest.edit; at = rest.at; taken = rest.taken; leads = rest.leads }

-- ---- the edits that lead back keep their ranges

undone-edits : (edit : Option Edit) (book : Book) → IsScene book → All IsEdit (undone_by edit book)
undone-edits None book scene = All-nil IsEdit
undone-edits (Some edit) book scene = inverse-edits edit book scene

way-edits : (journal : List Edit) (version : ℕ) → IsJournal journal → All IsEdit (way_back journal version)
way-edits journal zero done = All-nil IsEdit
way-edits journal (suc before) done = undone-edits (slice_get journal before) (scene_at journal before) (version-scene journal before done)

pub ways-edits : (journal : List Edit) (versions : List ℕ) → IsJournal journal → All IsEdit (flat_map (way_back journal) versions)
ways-edits journal [] done = All-nil IsEdit
ways-edits journal (version ∷ versions) done =
    All-append IsEdit (way_back journal version) (flat_map (way_back journal) versions) (way-edits journal version done)
    (ways-edits journal versions done)

-- ---- the way back of a version

-- it stays as it is in a longer journal
pub way-stays : (journal more : List Edit) (version : ℕ) → version ≤ length journal → way_back (journal ++ more) version ≡ way_back journal version
way-stays journal more zero past = refl
way-stays journal more (suc before) past =
    let same_edit : slice_get (journal ++ more) before ≡ slice_get journal before = get-front journal more before (omega (arith, past)) in
    let same_scene : scene_at (journal ++ more) before ≡ scene_at journal before = version-stays journal more before (omega (arith, past)) in
    λ i. undone_by (same_edit i) (same_scene i)

-- that of the last edit undoes it by the scene before
pub way-last : (journal : List Edit) (edit : Edit) → way_back (journal ++ edit ∷ []) (suc (length journal)) ≡ inverse_of edit (newest_scene journal)
way-last journal edit =
    let this_edit : slice_get (journal ++ edit ∷ []) (length journal) ≡ Some edit = get-behind journal (edit ∷ []) in
    let this_scene : scene_at (journal ++ edit ∷ []) (length journal) ≡ newest_scene journal =
    version-stays journal (edit ∷ []) (length journal) (omega arith) ∙ last-version journal (length journal) (omega arith) in
    λ i. undone_by (this_edit i) (this_scene i)
