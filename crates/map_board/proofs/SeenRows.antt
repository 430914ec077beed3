-- Rows as a look shows them.
use Rattle.std.proofs.Common.{◌≡◌, ℕ, zero, suc, ◌+◌, ◌<◌, List, [], ◌∷◌, ◌++◌, length, get_or, take, map, refl, sym, ap, ◌∙◌, arith}
use Rattle.std.specs.List.{zip}
use Rattle.std.proofs.lemmas.List.{take_more, map-append}
use Rattle.scene_parts.specs.Parts.{Receiver}
use Rattle.scene_book.specs.declared.edits.Edit.{Edit}
use Rattle.map_board.specs.declared.looks.LookRow.{LookRow}
use Rattle.map_board.specs.declared.rows.HeldRow.{HeldRow}
use Rattle.map_board.specs.Boards.{row_of, rows_of}
use Rattle.map_board.specs.inner.Boards.{held_look, held_looks, EachHolds}
use Rattle.map_board.specs.Machine.{look_row}
use Rattle.map_board.proofs.Places.{held-shown}

zip-append : {A B : Type 0} (xs zs : List A) (ys ws : List B) → length ys ≡ length xs → zip (xs ++ zs) (ys ++ ws) ≡ zip xs ys ++ zip zs ws
zip-append [] zs [] ws same = refl
zip-append [] zs (y ∷ ys) ws same = absurd (omega arith)
zip-append (x ∷ xs) zs [] ws same = absurd (omega arith)
zip-append (x ∷ xs) zs (y ∷ ys) ws same = ap (λ rest. (x, y) ∷ rest) (zip-append xs zs ys ws (omega arith))

length-takes : {A B : Type 0} (i : ℕ) (xs : List A) (ys : List B) → length ys ≡ length xs → length (take i ys) ≡ length (take i xs)
length-takes zero xs ys same = refl
length-takes (suc i) [] [] same = refl
length-takes (suc i) [] (y ∷ ys) same = absurd (omega arith)
length-takes (suc i) (x ∷ xs) [] same = absurd (omega arith)
length-takes (suc i) (x ∷ xs) (y ∷ ys) same = let rest = length-takes i xs ys (omega arith) in omega arith

-- one row more is looked at
pub looks-more : (rs : List Receiver) (hs : List HeldRow) (looked : List LookRow) (i : ℕ) (r : Receiver) (h : HeldRow) → length hs ≡ length rs → i < length hs
    → r ≡ get_or rs i r → h ≡ get_or hs i h → looked ≡ held_looks (take i rs) (take i hs)
    → looked ++ held_look r h ∷ [] ≡ held_looks (take (i + 1) rs) (take (i + 1) hs)
looks-more rs hs looked i r h same below r_is h_is so_far =
    let receivers : take (i + 1) rs ≡ take i rs ++ r ∷ [] = take_more rs i r (omega arith) ∙ ap (λ x. take i rs ++ x ∷ []) (sym r_is) in
    let rows : take (i + 1) hs ≡ take i hs ++ h ∷ [] = take_more hs i h below ∙ ap (λ x. take i hs ++ x ∷ []) (sym h_is) in
    ap (λ l. l ++ held_look r h ∷ []) so_far
    ∙ sym ((λ i. held_looks (receivers i) (rows i))
    ∙ (ap (map (λ (pair : Receiver × HeldRow). held_look pair.0 pair.1)) (zip-append (take i rs) (r ∷ []) (take i hs) (h ∷ []) (length-takes i rs hs same))
    ∙ map-append (λ (pair : Receiver × HeldRow). held_look pair.0 pair.1) (zip (take i rs) (take i hs)) ((r, h) ∷ [])))

-- what held rows show is what the rows show
pub looks-are : (journal : List Edit) (rs : List Receiver) (hs : List HeldRow) → EachHolds journal rs hs → held_looks rs hs ≡ map (look_row journal) (rows_of rs hs)
looks-are journal [] hs each = refl
looks-are journal (r ∷ rs) [] each = absurd each
looks-are journal (r ∷ rs) (h ∷ hs) each =
    let here : held_look r h ≡ look_row journal (row_of r h) =
    ap (λ shown. record { name = r.name; shown = shown }) (sym (held-shown journal r h each.0)) in
    let rest = looks-are journal rs hs each.1 in
    λ i. here i ∷ rest i
