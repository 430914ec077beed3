-- Lines one after another, and their texts with one line or one look more.
use Rattle.std.proofs.Common.{◌≡◌, ℕ, zero, suc, ◌+◌, ◌≤◌, ◌<◌, false, List, [], ◌∷◌, ◌++◌, length, Some, None, refl, sym, ap, ◌∙◌, arith, append_assoc}
use Rattle.std.specs.Prelude.{Option, Result, Ok, Err, slice_get, fold}
use Rattle.std.proofs.lemmas.List.{append-nil}
use Rattle.std.proofs.lemmas.List.Sums.{fold-append}
use Rattle.scene_parts.specs.declared.parts.Part.{Part}
use Rattle.scene_book.specs.Book.{Book}
use Rattle.scene_book.specs.Applying.{apply_of}
use Rattle.scene_book.specs.declared.edits.Edit.{Edit}
use Rattle.scene_book.specs.declared.edits.EditFault.{EditFault}
use Rattle.command_lines.specs.Views.{Contour}
use Rattle.command_words.specs.declared.line.CommandLine.{CommandLine}
use Rattle.map_board.specs.declared.looks.LookAll.{LookAll}
use Rattle.map_board.specs.Journal.{newest_scene, scene_left, book_after}
use Rattle.map_board.proofs.Journals.{newest-more}
use Rattle.noise_map.specs.Effects.{Display, silent, refused, settled, known, contoured, looks_asked, with_edit, journal_with, is_refused, Point, at_start, effect_at, passed_line, point_after}
use Rattle.noise_map.specs.Texts.{answer_to, settled_by, looked_by, contoured_by, rows_of, line_rows, text_from}
use Rattle.noise_map.specs.inner.Steps.{is_refusal}

-- ---- edits

newest_with-of : (journal : List Edit) (edit : Edit) (r : Result (Book × Option Part) EditFault) → apply_of edit (newest_scene journal) ≡ r
    → newest_scene (with_edit journal edit r) ≡ scene_left (newest_scene journal) r
newest_with-of journal edit (Ok after) e = newest-more journal edit ∙ ap (scene_left (newest_scene journal)) e
newest_with-of journal edit (Err fault) e = refl

-- the newest scene with one edit more
pub newest-with : (journal : List Edit) (edit : Edit) → newest_scene (journal_with journal edit) ≡ book_after edit (newest_scene journal)
newest-with journal edit = newest_with-of journal edit (apply_of edit (newest_scene journal)) refl

-- ---- one line more

pub point-push : (done : List (List ℕ)) (line : List ℕ) → point_after (done ++ line ∷ []) ≡ passed_line (point_after done) line
point-push done line = fold-append passed_line at_start done (line ∷ [])

pub text-push : (words : CommandLine) (looks : List LookAll) (point : Point) (done : List (List ℕ)) (line : List ℕ)
    → text_from words looks point (done ++ line ∷ []) ≡ text_from words looks point done ++ line_rows words looks (fold passed_line point done) line
text-push words looks point [] line = append-nil (line_rows words looks point line)
text-push words looks point (first ∷ more) line =
    ap (λ t. line_rows words looks point first ++ t) (text-push words looks (passed_line point first) more line)
    ∙ sym (append_assoc (line_rows words looks point first) (text_from words looks (passed_line point first) more) (line_rows words looks (fold passed_line (passed_line point first) more) line))

asked-up : (point : Point) (done : List (List ℕ)) → point.asked ≤ (fold passed_line point done).asked
asked-up point [] = omega arith
asked-up point (line ∷ more) = omega (arith, asked-up (passed_line point line) more)

-- ---- more looks

pub get-front : {X : Type 0} (xs ys : List X) (i : ℕ) → i < length xs → slice_get (xs ++ ys) i ≡ slice_get xs i
get-front [] ys i below = absurd (omega arith)
get-front (x ∷ xs) ys zero below = refl
get-front (x ∷ xs) ys (suc i) below = get-front xs ys i (omega arith)

pub get-behind : {X : Type 0} (xs ys : List X) → slice_get (xs ++ ys) (length xs) ≡ slice_get ys 0
get-behind [] ys = refl
get-behind (x ∷ xs) ys = get-behind xs ys

rows-more : (words : CommandLine) (looks more : List LookAll) (number version asked : ℕ) (display : Display) → asked + looks_asked display ≤ length looks
    → rows_of words number version (answer_to display (slice_get (looks ++ more) asked)) ≡ rows_of words number version (answer_to display (slice_get looks asked))
rows-more words looks more number version asked silent few = refl
rows-more words looks more number version asked (refused fault) few = refl
rows-more words looks more number version asked settled few =
    ap (λ (o : Option LookAll). rows_of words number version (settled_by o)) (get-front looks more asked (omega arith))
rows-more words looks more number version asked known few =
    ap (λ (o : Option LookAll). rows_of words number version (looked_by o)) (get-front looks more asked (omega arith))
rows-more words looks more number version asked (contoured contour) few =
    ap (λ (o : Option LookAll). rows_of words number version (contoured_by contour o)) (get-front looks more asked (omega arith))

line-more : (words : CommandLine) (looks more : List LookAll) (point : Point) (line : List ℕ) → (passed_line point line).asked ≤ length looks
    → line_rows words (looks ++ more) point line ≡ line_rows words looks point line
unfolding line_rows
line-more words looks more point line few = rows-more words looks more (point.count + 1) (length point.past.journal) point.asked (effect_at point line).display few

-- looks that no line asks for change nothing
pub text-more : (words : CommandLine) (looks more : List LookAll) (point : Point) (done : List (List ℕ)) → (fold passed_line point done).asked ≤ length looks
    → text_from words (looks ++ more) point done ≡ text_from words looks point done
text-more words looks more point [] few = refl
text-more words looks more point (line ∷ rest) few =
    let later = text-more words looks more (passed_line point line) rest few in
    let here = line-more words looks more point line (omega (arith, asked-up (passed_line point line) rest, few)) in
    λ i. here i ++ later i

-- ---- what an answer says of its line

settled-refusal : (o : Option LookAll) → is_refusal (settled_by o) ≡ false
settled-refusal None = refl
settled-refusal (Some look) = refl

looked-refusal : (o : Option LookAll) → is_refusal (looked_by o) ≡ false
looked-refusal None = refl
looked-refusal (Some look) = refl

contoured-refusal : (contour : Contour) (o : Option LookAll) → is_refusal (contoured_by contour o) ≡ false
contoured-refusal contour None = refl
contoured-refusal contour (Some look) = refl

-- whether it was refused
pub refusal-is : (display : Display) (look : Option LookAll) → is_refusal (answer_to display look) ≡ is_refused display
refusal-is silent look = refl
refusal-is (refused fault) look = refl
refusal-is settled look = settled-refusal look
refusal-is known look = looked-refusal look
refusal-is (contoured contour) look = contoured-refusal contour look

-- how many lines were counted
count-from : (point : Point) (done : List (List ℕ)) → (fold passed_line point done).count ≡ point.count + length done
count-from point [] = omega arith
count-from point (line ∷ more) = count-from (passed_line point line) more ∙ omega arith

pub count-is : (done : List (List ℕ)) → (point_after done).count ≡ length done
count-is done = count-from at_start done ∙ omega arith
