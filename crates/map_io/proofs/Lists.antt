-- Lists: what a line keeps of its pieces, and the parts of a buffer.
use Rattle.std.proofs.Common.{◌≡◌, ℕ, ◌+◌, ◌-◌, ◌≤◌, List, [], ◌∷◌, ◌++◌, length, take, refl, ap, sym, ◌∙◌, arith, length-take, inl, inr}
use Rattle.std.proofs.lemmas.Bool.{cases_lt}
use Rattle.std.proofs.lemmas.List.{take_all, take_at, take-append-le}
use Rattle.std.proofs.Math.Seq.{take-append-add}

-- what has room of a piece behind a list is what has room of both
pub take-append_room : (n : ℕ) (xs ys : List ℕ) → length xs ≤ n → xs ++ take (n - length xs) ys ≡ take n (xs ++ ys)
take-append_room n xs ys fits =
    let whole : length xs + (n - length xs) ≡ n = omega arith in
    sym (take-append-add xs ys (n - length xs)) ∙ ap (λ k. take k (xs ++ ys)) whole

-- what was cut off a list before more is added is cut off afterwards
pub take-append_cut : (n : ℕ) (xs ys : List ℕ) → take n (take n xs ++ ys) ≡ take n (xs ++ ys)
take-append_cut n xs ys = elim (cases_lt n (length xs)) [
  | inr short ↦ ap (λ front. take n (front ++ ys)) (take_all n xs short)
  | inl long ↦
      let cut : length (take n xs) ≡ n = omega (arith, length-take n xs) in
      let fits : n ≤ length xs = omega arith in
      take_at (take n xs) ys n cut ∙ sym (take-append-le n xs ys fits)
]

pub empty_if_no_length : (xs : List ℕ) → length xs ≡ 0 → xs ≡ []
empty_if_no_length [] none = refl
empty_if_no_length (x ∷ xs) none = absurd (omega arith)
