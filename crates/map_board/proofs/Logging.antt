-- Accepted edits, the log and the list of edits that name receivers, as a journal grows.
use Rattle.std.proofs.Common.{◌≡◌, ℕ, zero, suc, ◌+◌, ◌-◌, ◌≤◌, List, [], ◌∷◌, ◌++◌, length, take, drop, refl, sym, ap, ◌∙◌, arith, append_assoc, zero-add, suc-add}
use Rattle.std.specs.Prelude.{Option, Ok}
use Rattle.std.proofs.lemmas.List.{append-nil, drop-append-le, drop-drop}
use Rattle.scene_parts.specs.declared.parts.Part.{Part}
use Rattle.scene_book.specs.Book.{Book, empty_book}
use Rattle.scene_book.specs.Applying.{apply_of}
use Rattle.scene_book.specs.declared.edits.Edit.{Edit}
use Rattle.touch_test.specs.Touches.{old_part}
use Rattle.touch_test.proofs.Edits.{answers-old}
use Rattle.map_board.specs.Journal.{scene_left, book_after, book_after_all, scene_at, newest_scene, AreAccepted}
use Rattle.map_board.specs.inner.Log.{entry_of, entries_from, entries_after}
use Rattle.map_board.specs.inner.Namings.{noted, naming_of, namings_from, namings_of}
use Rattle.map_board.proofs.Journals.{through, at-more}

-- ---- accepted edits

-- an application that is accepted, as the journal speaks of it
pub accepted-as : (e : Edit) (a b : Book) (old : Option Part) → apply_of e a ≡ Ok (b, old) → apply_of e a ≡ Ok (book_after e a, old_part e a)
accepted-as e a b old accepted =
    let after : book_after e a ≡ b = ap (scene_left a) accepted in
    let part : old_part e a ≡ old = answers-old e a b old accepted in
    accepted ∙ (λ i. Ok (sym after i, sym part i))

pub accepted-more : (es : List Edit) (book : Book) (e : Edit) → AreAccepted book es
    → apply_of e (book_after_all es book) ≡ Ok (book_after e (book_after_all es book), old_part e (book_after_all es book)) → AreAccepted book (es ++ e ∷ [])
accepted-more [] book e all accepted = (accepted, tt)
accepted-more (x ∷ es) book e all accepted = (all.0, accepted-more es (book_after x book) e all.1 accepted)

-- those after a version are accepted from its scene on
pub accepted-from : (v : ℕ) (es : List Edit) (book : Book) → AreAccepted book es → AreAccepted (book_after_all (take v es) book) (drop v es)
accepted-from zero es book all = all
accepted-from (suc v) [] book all = all
accepted-from (suc v) (e ∷ es) book all = accepted-from v es (book_after e book) all.1

pub accepted-after : (journal : List Edit) (v : ℕ) → AreAccepted empty_book journal → AreAccepted (scene_at journal v) (drop v journal)
accepted-after journal v all = accepted-from v journal empty_book all

-- ---- the log

pub entries-append : (es fs : List Edit) (book : Book) → entries_from book (es ++ fs) ≡ entries_from book es ++ entries_from (book_after_all es book) fs
entries-append [] fs book = refl
entries-append (e ∷ es) fs book = ap (λ rest. entry_of e book ∷ rest) (entries-append es fs (book_after e book))

pub entries-length : (es : List Edit) (book : Book) → length (entries_from book es) ≡ length es
entries-length [] book = refl
entries-length (e ∷ es) book = ap suc (entries-length es (book_after e book))

-- one edit more is one entry more
pub entries-more : (journal : List Edit) (e : Edit) (v : ℕ) → v ≤ length journal
    → entries_after (journal ++ e ∷ []) v ≡ entries_after journal v ++ entry_of e (newest_scene journal) ∷ []
entries-more journal e v past =
    (λ i. entries_from (at-more journal e v past i) (drop-append-le v journal (e ∷ []) past i))
    ∙ (entries-append (drop v journal) (e ∷ []) (scene_at journal v)
    ∙ ap (λ book. entries_after journal v ++ entry_of e book ∷ []) (through journal v))

entries-drop : (n : ℕ) (es : List Edit) (book : Book) → drop n (entries_from book es) ≡ entries_from (book_after_all (take n es) book) (drop n es)
entries-drop zero es book = refl
entries-drop (suc n) [] book = refl
entries-drop (suc n) (e ∷ es) book = entries-drop n es (book_after e book)

scene-on : (v n : ℕ) (es : List Edit) (book : Book) → book_after_all (take n (drop v es)) (book_after_all (take v es) book) ≡ book_after_all (take (v + n) es) book
scene-on zero n es book = rw zero-add refl
scene-on (suc v) zero [] book = rw suc-add refl
scene-on (suc v) (suc n) [] book = rw suc-add refl
scene-on (suc v) n (e ∷ es) book = rw suc-add (scene-on v n es (book_after e book))

-- the entries after a later version are the last ones
pub entries-later : (journal : List Edit) (v n : ℕ) → drop n (entries_after journal v) ≡ entries_after journal (v + n)
entries-later journal v n =
    entries-drop n (drop v journal) (scene_at journal v)
    ∙ (λ i. entries_from (scene-on v n journal empty_book i) (drop-drop n v journal i))

pub later : (journal : List Edit) (v w : ℕ) → v ≤ w → drop (w - v) (entries_after journal v) ≡ entries_after journal w
later journal v w before =
    let sum : v + (w - v) ≡ w = omega arith in
    entries-later journal v (w - v) ∙ ap (entries_after journal) sum

-- ---- edits that name receivers

namings-append : (count : ℕ) (book : Book) (es fs : List Edit)
    → namings_from count book (es ++ fs) ≡ namings_from count book es ++ namings_from (count + length es) (book_after_all es book) fs
namings-append count book [] fs = ap (λ n. namings_from n book fs) (omega arith)
namings-append count book (e ∷ es) fs =
    let sum : suc count + length es ≡ count + length (e ∷ es) = omega arith in
    ap (λ rest. noted (suc count) (naming_of e (old_part e book)) ++ rest) (namings-append (suc count) (book_after e book) es fs)
    ∙ (sym (append_assoc (noted (suc count) (naming_of e (old_part e book))) (namings_from (suc count) (book_after e book) es) (namings_from (suc count + length es) (book_after_all es (book_after e book)) fs))
    ∙ ap (λ n. (noted (suc count) (naming_of e (old_part e book)) ++ namings_from (suc count) (book_after e book) es) ++ namings_from n (book_after_all es (book_after e book)) fs) sum)

pub namings-more : (journal : List Edit) (e : Edit)
    → namings_of (journal ++ e ∷ []) ≡ namings_of journal ++ noted (suc (length journal)) (naming_of e (old_part e (newest_scene journal)))
namings-more journal e =
    namings-append 0 empty_book journal (e ∷ [])
    ∙ ((λ i. namings_of journal ++ (append-nil (noted (suc (0 + length journal)) (naming_of e (old_part e (newest_scene journal)))) i))
    ∙ ap (λ n. namings_of journal ++ noted (suc n) (naming_of e (old_part e (newest_scene journal)))) (zero-add (length journal)))
