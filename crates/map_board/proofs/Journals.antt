-- Journals that grow.
use Rattle.std.proofs.Common.{◌≡◌, ℕ, suc, ◌+◌, ◌≤◌, Bool, true, false, cond, List, [], ◌∷◌, ◌++◌, length, take, drop, Some, None, refl, sym, ap, ◌∙◌, arith, length-drop}
use Rattle.std.specs.Prelude.{Option, is_some, ◌||◌}
use Rattle.std.specs.Option.{option_or}
use Rattle.std.proofs.lemmas.List.{take-append-le, drop-append-le, take-append-drop}
use Rattle.std.proofs.Math.Seq.{drop-length}
use Rattle.scene_book.specs.Book.{Book, empty_book}
use Rattle.scene_book.specs.declared.edits.Edit.{Edit}
use Rattle.map_board.specs.Journal.{book_after, book_after_all, scene_at, newest_scene, first_from, first_after}

pub all-append : (es fs : List Edit) (book : Book) → book_after_all (es ++ fs) book ≡ book_after_all fs (book_after_all es book)
all-append [] fs book = refl
all-append (e ∷ es) fs book = all-append es fs (book_after e book)

pub newest-more : (journal : List Edit) (e : Edit) → newest_scene (journal ++ e ∷ []) ≡ book_after e (newest_scene journal)
newest-more journal e = all-append journal (e ∷ []) empty_book

pub at-more : (journal : List Edit) (e : Edit) (v : ℕ) → v ≤ length journal → scene_at (journal ++ e ∷ []) v ≡ scene_at journal v
at-more journal e v past = ap (λ es. book_after_all es empty_book) (take-append-le v journal (e ∷ []) past)

-- the edits after a version lead from its scene to the newest
pub through : (journal : List Edit) (v : ℕ) → book_after_all (drop v journal) (scene_at journal v) ≡ newest_scene journal
through journal v =
    sym (all-append (take v journal) (drop v journal) empty_book)
    ∙ ap (λ es. book_after_all es empty_book) (take-append-drop v journal)

stays-step : (test : Bool) (here : ℕ) (rest more : Option ℕ) → (is_some rest ≡ true → more ≡ rest)
    → is_some (cond test (Some here) rest) ≡ true → cond test (Some here) more ≡ cond test (Some here) rest
stays-step true here rest more later some = refl
stays-step false here rest more later some = later some

-- the first edit that passes stays the first
first-stays : (test : Edit → Book → Bool) (count : ℕ) (book : Book) (es fs : List Edit) → is_some (first_from test count book es) ≡ true
    → first_from test count book (es ++ fs) ≡ first_from test count book es
first-stays test count book [] fs some = absurd (cc)
first-stays test count book (e ∷ es) fs some =
    stays-step (test e book) (suc count) (first_from test (suc count) (book_after e book) es)
    (first_from test (suc count) (book_after e book) (es ++ fs)) (first-stays test (suc count) (book_after e book) es fs) some

some-step : (test : Bool) (here : ℕ) (rest : Option ℕ) → is_some rest ≡ true → is_some (cond test (Some here) rest) ≡ true
some-step true here rest some = refl
some-step false here rest some = some

-- an edit at the end that passes makes that there is a first
first-last : (test : Edit → Book → Bool) (count : ℕ) (book : Book) (es : List Edit) (e : Edit) → test e (book_after_all es book) ≡ true
    → is_some (first_from test count book (es ++ e ∷ [])) ≡ true
first-last test count book [] e passes = rw passes
first-last test count book (x ∷ es) e passes =
    some-step (test x book) (suc count) (first_from test (suc count) (book_after x book) (es ++ e ∷ []))
    (first-last test (suc count) (book_after x book) es e passes)

-- of a version of the journal before: the first edit after it, with one edit more
after-more : (test : Edit → Book → Bool) (journal : List Edit) (e : Edit) (v : ℕ) → v ≤ length journal
    → first_after test (journal ++ e ∷ []) v ≡ first_from test v (scene_at journal v) (drop v journal ++ e ∷ [])
after-more test journal e v past =
    ap (λ book. first_from test v book (drop v (journal ++ e ∷ []))) (at-more journal e v past)
    ∙ ap (first_from test v (scene_at journal v)) (drop-append-le v journal (e ∷ []) past)

pub first-kept : (test : Edit → Book → Bool) (journal : List Edit) (e : Edit) (v : ℕ) → v ≤ length journal
    → is_some (first_after test journal v) ≡ true → is_some (first_after test (journal ++ e ∷ []) v) ≡ true
first-kept test journal e v past some =
    ap (λ o. is_some o) (after-more test journal e v past ∙ first-stays test v (scene_at journal v) (drop v journal) (e ∷ []) some) ∙ some

pub first-comes : (test : Edit → Book → Bool) (journal : List Edit) (e : Edit) (v : ℕ) → v ≤ length journal
    → test e (newest_scene journal) ≡ true → is_some (first_after test (journal ++ e ∷ []) v) ≡ true
first-comes test journal e v past passes =
    ap (λ o. is_some o) (after-more test journal e v past)
    ∙ first-last test v (scene_at journal v) (drop v journal) e (ap (test e) (through journal v) ∙ passes)

-- after the newest version comes none
pub none-after : (test : Edit → Book → Bool) (journal : List Edit) → first_after test journal (length journal) ≡ None
none-after test journal = ap (first_from test (length journal) (scene_at journal (length journal))) (drop-length journal)

-- ---- the first edit with one edit more at the end

or-step : (test : Bool) (here : ℕ) (rest more last : Option ℕ) → more ≡ option_or rest last
    → cond test (Some here) more ≡ option_or (cond test (Some here) rest) last
or-step true here rest more last later = refl
or-step false here rest more last later = later

last-from : (test : Edit → Book → Bool) (count : ℕ) (book : Book) (es : List Edit) (e : Edit)
    → first_from test count book (es ++ e ∷ []) ≡ option_or (first_from test count book es) (cond (test e (book_after_all es book)) (Some (suc (count + length es))) None)
last-from test count book [] e = ap (λ n. cond (test e book) (Some (suc n)) None) (omega arith)
last-from test count book (x ∷ es) e =
    or-step (test x book) (suc count) (first_from test (suc count) (book_after x book) es) (first_from test (suc count) (book_after x book) (es ++ e ∷ []))
    (cond (test e (book_after_all es (book_after x book))) (Some (suc (count + length (x ∷ es)))) None)
    (last-from test (suc count) (book_after x book) es e
    ∙ ap (λ n. option_or (first_from test (suc count) (book_after x book) es) (cond (test e (book_after_all es (book_after x book))) (Some (suc n)) None)) (omega arith))

-- it is the first of those before, else the new one where that passes
pub first-more : (test : Edit → Book → Bool) (journal : List Edit) (e : Edit) (v : ℕ) → v ≤ length journal
    → first_after test (journal ++ e ∷ []) v ≡ option_or (first_after test journal v) (cond (test e (newest_scene journal)) (Some (suc (length journal))) None)
first-more test journal e v past =
    after-more test journal e v past
    ∙ (last-from test v (scene_at journal v) (drop v journal) e
    ∙ ((λ i. option_or (first_after test journal v) (cond (test e (through journal v i)) (Some (suc (v + length (drop v journal)))) None))
    ∙ ap (λ n. option_or (first_after test journal v) (cond (test e (newest_scene journal)) (Some (suc n)) None)) (omega (arith, length-drop v journal, past))))

some-or : (o : Option ℕ) (test : Bool) (here : ℕ) → is_some (option_or o (cond test (Some here) None)) ≡ (is_some o || test)
some-or None true here = refl
some-or None false here = refl
some-or (Some k) test here = refl

pub some-more : (test : Edit → Book → Bool) (journal : List Edit) (e : Edit) (v : ℕ) → v ≤ length journal
    → is_some (first_after test (journal ++ e ∷ []) v) ≡ (is_some (first_after test journal v) || test e (newest_scene journal))
some-more test journal e v past =
    ap (λ o. is_some o) (first-more test journal e v past)
    ∙ some-or (first_after test journal v) (test e (newest_scene journal)) (suc (length journal))
