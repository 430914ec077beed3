-- Lists that are joined from pieces, one for each number of a range.
use Rattle.std.proofs.Common.{◌≡◌, ℕ, zero, suc, ◌+◌, ◌<◌, ◌≤◌, Bool, true, false, ◌||◌, List, [], ◌∷◌, ◌++◌, filter, arith, refl, sym, ap, ◌∙◌, append-nil, append_assoc, ◌⊎◌, inl, inr}
use Rattle.std.specs.List.{flat_map, range_with_len, list_any}
use Rattle.std.proofs.lemmas.List.Elements.{filter-append}
use Rattle.std.proofs.lemmas.List.Folds.{list_any-append}
use Rattle.std.proofs.lemmas.Grind.{flat_map-append}
use Rattle.std.proofs.lemmas.Bool.{or_left, or_right, cases_eq}
use Rattle.std.proofs.lemmas.List.{map-id}
use Rattle.std.proofs.lemmas.List.FromFn.{map-range_with_len_more}
use Rattle.cell_loops.specs.declared.corners.Edge.{Edge}
use Rattle.cell_loops.specs.Boundary.{same}
use Rattle.cell_loops.specs.inner.Steps.{is_listed}

range-push : (a n j : ℕ) → a + n ≡ j → range_with_len a (n + 1) ≡ range_with_len a n ++ j ∷ []
range-push a n j h =
    sym (map-id (range_with_len a (n + 1))) ∙ map-range_with_len_more (λ k. k) a n j h ∙ ap (λ l. l ++ j ∷ []) (map-id (range_with_len a n))

pub pieces-more : (f : ℕ → List Edge) (n : ℕ) → flat_map f (range_with_len 0 (n + 1)) ≡ flat_map f (range_with_len 0 n) ++ f n
pieces-more f n =
    ap (flat_map f) (range-push 0 n n (omega arith)) ∙ flat_map-append f (range_with_len 0 n) (n ∷ []) ∙ ap (λ l. flat_map f (range_with_len 0 n) ++ l) (append-nil (f n))

-- what passes a test in the pieces so far and in one more
pub filter-pieces : (p : Edge → Bool) (f : ℕ → List Edge) (n : ℕ) (old now new : List Edge)
    → now ≡ old ++ filter p (flat_map f (range_with_len 0 n)) → new ≡ now ++ filter p (f n)
    → new ≡ old ++ filter p (flat_map f (range_with_len 0 (n + 1)))
filter-pieces p f n old now new so_far added =
    let pieces = flat_map f (range_with_len 0 n) in
    added ∙ ap (λ l. l ++ filter p (f n)) so_far ∙ append_assoc old (filter p pieces) (filter p (f n))
    ∙ ap (λ l. old ++ l) (sym (filter-append p pieces (f n)) ∙ ap (filter p) (sym (pieces-more f n)))

-- what stands in the piece of a number of the range stands in the list
pub listed-pieces : (f : ℕ → List Edge) (e : Edge) (a n k : ℕ) → a ≤ k → k < a + n → is_listed e (f k) ≡ true
    → is_listed e (flat_map f (range_with_len a n)) ≡ true
listed-pieces f e a zero k low high h = absurd (omega arith)
listed-pieces f e a (suc n) k low high h =
    list_any-append (same e) (f a) (flat_map f (range_with_len (a + 1) n))
    ∙ by_place (cases_eq a k) (λ above. listed-pieces f e (a + 1) n k above (omega arith) h)
  where
    by_place : (a ≡ k) ⊎ (a ≡ k → ⊥) → (a + 1 ≤ k → is_listed e (flat_map f (range_with_len (a + 1) n)) ≡ true)
        → (is_listed e (f a) || is_listed e (flat_map f (range_with_len (a + 1) n))) ≡ true
    by_place (inl here) later = or_left _ _ (ap (λ m. is_listed e (f m)) here ∙ h)
    by_place (inr other) later = or_right _ _ (later (omega arith))
