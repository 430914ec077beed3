-- Marked sides.
use Rattle.std.proofs.Common.{◌≡◌, ℕ, zero, suc, add-one, ◌-◌, ◌+◌, ◌<◌, ◌≤◌, inl, inr, Bool, true, false, List, [], ◌∷◌, ◌++◌, length, get_or, drop, map, filter, refl, sym, ap, ◌∙◌, arith, append_assoc, append-nil}
use Rattle.std.specs.List.{items_where_true}
use Rattle.std.proofs.lemmas.List.{drop_more, drop_all}
use Rattle.std.proofs.lemmas.Bool.{cases_Bool}
use Rattle.part_grid.specs.declared.owned.Owned.{Owned}

here : (marks : List Bool) (sides : List Owned) (n : ℕ) (owned : Owned) → n < length sides → length marks ≡ length sides → owned ≡ get_or sides n owned
    → (items_where_true (drop n marks) (drop n sides)) ≡ (items_where_true (get_or marks n false ∷ drop (n + 1) marks) (owned ∷ drop (n + 1) sides))
here marks sides n owned h same is =
    let marked : drop n marks ≡ get_or marks n false ∷ drop (n + 1) marks = drop_more marks n false (omega arith) in
    let side : drop n sides ≡ owned ∷ drop (n + 1) sides = drop_more sides n owned h ∙ ap (λ (x : Owned). x ∷ drop (n + 1) sides) (sym is) in
    rw (marked, side) refl

pub marked-more : (marks : List Bool) (sides : List Owned) (n : ℕ) (owned : Owned) (found new all : List Owned) → n < length sides → length marks ≡ length sides → owned ≡ get_or sides n owned
    → true ≡ get_or marks n false → new ≡ found ++ owned ∷ []
    → found ++ (items_where_true (drop n marks) (drop n sides)) ≡ all
    → new ++ (items_where_true (drop (n + 1) marks) (drop (n + 1) sides)) ≡ all
marked-more marks sides n owned found new all h same is marked new-is e =
    let rest = (items_where_true (drop (n + 1) marks) (drop (n + 1) sides)) in
    let now : (items_where_true (drop n marks) (drop n sides)) ≡ owned ∷ rest =
    here marks sides n owned h same is ∙ ap (λ (b : Bool). (items_where_true (b ∷ drop (n + 1) marks) (owned ∷ drop (n + 1) sides))) (sym marked) in
    ap (λ (xs : List Owned). xs ++ rest) new-is
    ∙ append_assoc found (owned ∷ []) rest ∙ ap (λ (xs : List Owned). found ++ xs) (sym now) ∙ e

-- sides without a mark add nothing
unmarked-one : (marks : List Bool) (sides : List Owned) (n : ℕ) → length marks ≡ length sides → get_or marks n false ≡ false
    → (items_where_true (drop n marks) (drop n sides)) ≡ (items_where_true (drop (n + 1) marks) (drop (n + 1) sides))
unmarked-one [] [] n same e =
    let here : drop {A = Bool} n [] ≡ [] = drop_all {X = Bool} n [] (omega arith) in
    let there : drop {A = Bool} (n + 1) [] ≡ [] = drop_all {X = Bool} (n + 1) [] (omega arith) in
    rw (here, there) refl
unmarked-one [] (owned ∷ sides) n same e = absurd (omega arith)
unmarked-one (b ∷ marks) [] n same e = absurd (omega arith)
unmarked-one (b ∷ marks) (owned ∷ sides) zero same e = ap (λ (x : Bool). (items_where_true (x ∷ marks) (owned ∷ sides))) e
unmarked-one (b ∷ marks) (owned ∷ sides) (suc n) same e = rw add-one (unmarked-one marks sides n (omega arith) e ∙ rw add-one refl)

unmarked-some : (marks : List Bool) (sides : List Owned) (n count : ℕ) → length marks ≡ length sides → ((k : ℕ) → n ≤ k → k < n + count → get_or marks k false ≡ false)
    → (items_where_true (drop n marks) (drop n sides)) ≡ (items_where_true (drop (n + count) marks) (drop (n + count) sides))
unmarked-some marks sides n zero same h = let here : n + 0 ≡ n = omega arith in rw here refl
unmarked-some marks sides n (suc count) same h =
    let there : (n + 1) + count ≡ n + suc count = omega arith in
    unmarked-one marks sides n same (h n (omega arith) (omega arith))
    ∙ unmarked-some marks sides (n + 1) count same (λ k from below. h k (omega arith) (omega arith))
    ∙ ap (λ (m : ℕ). (items_where_true (drop m marks) (drop m sides))) there

pub unmarked-to : (marks : List Bool) (sides : List Owned) (n m : ℕ) (found all : List Owned) → length marks ≡ length sides → n ≤ m → ((k : ℕ) → n ≤ k → k < m → get_or marks k false ≡ false)
    → found ++ (items_where_true (drop n marks) (drop n sides)) ≡ all
    → found ++ (items_where_true (drop m marks) (drop m sides)) ≡ all
unmarked-to marks sides n m found all same le h e =
    let there : n + (m - n) ≡ m = omega arith in
    ap (λ (xs : List Owned). found ++ xs)
    (sym (unmarked-some marks sides n (m - n) same (λ k from below. h k from (omega arith)) ∙ ap (λ (i : ℕ). (items_where_true (drop i marks) (drop i sides))) there))
    ∙ e

pub marked-all : (marks : List Bool) (sides : List Owned) (n : ℕ) (found all : List Owned) → length marks ≡ length sides → length sides ≤ n
    → found ++ (items_where_true (drop n marks) (drop n sides)) ≡ all → found ≡ all
marked-all marks sides n found all same h e =
    let none : drop n marks ≡ [] = drop_all n marks (omega arith) in
    sym (append-nil found) ∙ ap (λ (bs : List Bool). found ++ (items_where_true bs (drop n sides))) (sym none) ∙ e

-- marks by a test pick what passes it
pub marked-by : (test : Owned → Bool) (sides : List Owned) → items_where_true (map test sides) sides ≡ filter test sides
marked-by test [] = refl
marked-by test (owned ∷ sides) =
    elim (cases_Bool (test owned)) [
      | inl passes ↦ rw passes (ap (λ (xs : List Owned). owned ∷ xs) (marked-by test sides))
      | inr fails ↦ rw fails (marked-by test sides)
    ]
