-- A job that came in last goes off the list again, and what holds at each place of two lists.
use Rattle.std.proofs.Common.{◌≡◌, ℕ, suc, ◌<◌, List, [], ◌∷◌, ◌++◌, length, get_or, sym, ◌∙◌, ap, subst, refl, arith}
use Rattle.std.specs.Prelude.{All, Contains}
use Rattle.std.specs.List.{AllZip}
use Rattle.std.proofs.lemmas.List.{get_or_push, length_push}
use Rattle.std.proofs.Common.{length-append}
use Rattle.receiver_workers.specs.Owing.{LosesLast}

-- the first list without its first item
rest : {X : Type 0} → List X → List X
rest [] = []
rest (x ∷ xs) = xs

same_rest : {X : Type 0} (x y : X) (xs ys : List X) → x ∷ xs ≡ y ∷ ys → xs ≡ ys
unfolding rest
same_rest x y xs ys same = ap rest same

module _ {X : Type 0} (P : X → Type 0) (job : X) (fits : P job) where
  -- the cut of a list behind whose last item nothing fits, where its last item fits, is before its last item
  cut_before_last : (xs front : List X) (item : X) (back : List X) → xs ++ job ∷ [] ≡ front ++ item ∷ back
      → All (λ x. P x → ⊥) back → front ++ back ≡ xs
  cut_before_last [] [] item back same none = sym (same_rest job item [] back same)
  cut_before_last (x ∷ xs) [] item back same none =
      let back_is = same_rest x item (xs ++ job ∷ []) back same in
      let nothing : All (λ y. P y → ⊥) (xs ++ job ∷ []) = subst (All (λ y. P y → ⊥)) (sym back_is) none in
      absurd (nothing (length xs) job (omega (arith, length_push xs job))
      (subst P (sym (get_or_push xs job job (length xs) refl)) fits))
  cut_before_last [] (f ∷ fs) item back same none =
      let empty = same_rest job f [] (fs ++ item ∷ back) same in
      absurd (omega (arith, ap length empty, length-append fs (item ∷ back)))
  cut_before_last (x ∷ xs) (f ∷ fs) item back same none =
      let tail = cut_before_last xs fs item back (same_rest x f (xs ++ job ∷ []) (fs ++ item ∷ back) same) none in
      grind (arith, tail, same)

  -- what is taken off a list to which a fitting job came last is this job
  pub push_then_lose : (xs before after : List X) → before ≡ xs ++ job ∷ [] → LosesLast P before after → after ≡ xs
  push_then_lose xs before after pushed lost =
      lost.after_is ∙ cut_before_last xs lost.front lost.item lost.back (sym pushed ∙ lost.before_is) lost.none_behind

-- a list has what came last
pub contains_last : {X : Type 0} (xs before : List X) (job x : X) → before ≡ xs ++ job ∷ [] → x ≡ job
    → Contains before x
contains_last xs before job x pushed same = (
  length xs,
  omega (arith, ap length pushed, length_push xs job),
  ap (λ list. get_or list (length xs) x) pushed ∙ get_or_push xs job x (length xs) refl ∙ sym same,
)

-- what holds at each place of two lists of one length
pub all_zip : {X : Type 0} (Holds : X → X → Type 0) (xs ys : List X) → length ys ≡ length xs
    → ((i : ℕ) (d : X) → i < length xs → Holds (get_or xs i d) (get_or ys i d)) → AllZip Holds xs ys
all_zip Holds [] [] long each = tt
all_zip Holds [] (y ∷ ys) long each = grind (arith, long)
all_zip Holds (x ∷ xs) [] long each = grind (arith, long)
all_zip Holds (x ∷ xs) (y ∷ ys) long each =
    (each 0 x (omega arith), all_zip Holds xs ys (omega (arith, long)) (λ i d lt. each (suc i) d (omega arith)))
