-- Numbers with commas between them, one after another.
use Rattle.std.proofs.Common.{◌≡◌, ℕ, zero, suc, ◌+◌, ◌<◌, length, take, get_or, nat_lt, if◌then◌else◌, true, subst, arith, List, [], ◌∷◌, ◌++◌, map, decimal, refl, ap, ◌∙◌, append_assoc, sym}
use Rattle.std.proofs.lemmas.Bool.{lt-ltb}
use Rattle.std.proofs.lemmas.List.{take_more}
use Rattle.site_maker.specs.Json.{IsText, whole, with_commas, array}

-- numbers that another one follows
more_numbers : (first : ℕ) (before : List ℕ) (n : ℕ) (rest : List ℕ) → with_commas (map whole (first ∷ before ++ n ∷ [])) rest ≡ with_commas (map whole (first ∷ before)) (44 ∷ (decimal n ++ rest))
more_numbers first [] n rest = refl
more_numbers first (second ∷ before) n rest = ap (λ t. decimal first ++ 44 ∷ t) (more_numbers second before n rest)

-- what stands before one more number
abbrev pub comma_after : List ℕ → List ℕ
comma_after [] = []
comma_after (first ∷ before) = 44 ∷ []

-- a text that has begun: a bracket and these numbers
abbrev pub Begins : List ℕ → List ℕ → Type 0
Begins numbers text = IsText (λ rest. 91 ∷ with_commas (map whole numbers) rest) text

pub one_more : (numbers : List ℕ) (n : ℕ) (text : List ℕ) → Begins numbers text → Begins (numbers ++ n ∷ []) (text ++ (comma_after numbers ++ decimal n))
one_more [] n text begins rest = append_assoc text (decimal n) rest ∙ begins (decimal n ++ rest)
one_more (first ∷ before) n text begins rest =
    append_assoc text (44 ∷ decimal n) rest ∙ begins (44 ∷ (decimal n ++ rest)) ∙ ap (λ t. 91 ∷ t) (sym (more_numbers first before n rest))

pub closed : (numbers text : List ℕ) → Begins numbers text → IsText (array (map whole numbers)) (text ++ 93 ∷ [])
closed numbers text begins rest = append_assoc text (93 ∷ []) rest ∙ begins (93 ∷ rest)

-- a comma stands before each number but the first
comma_at : (numbers : List ℕ) (i : ℕ) → i < length numbers → comma_after (take i numbers) ≡ (if nat_lt 0 i then 44 ∷ [] else [])
comma_at numbers zero within = refl
comma_at [] (suc i) within = absurd (omega arith)
comma_at (first ∷ numbers) (suc i) within = let yes : nat_lt 0 (suc i) ≡ true = lt-ltb 0 (suc i) (omega arith) in rw yes refl

pub next_number : (numbers : List ℕ) (i : ℕ) (text comma new : List ℕ) → i < length numbers → Begins (take i numbers) text
    → comma ≡ (if nat_lt 0 i then 44 ∷ [] else []) → new ≡ text ++ (comma ++ decimal (get_or numbers i 0)) → Begins (take (i + 1) numbers) new
next_number numbers i text comma new within begins comma_is new_is =
    let now : Begins (take i numbers ++ get_or numbers i 0 ∷ []) (text ++ (comma_after (take i numbers) ++ decimal (get_or numbers i 0))) = one_more (take i numbers) (get_or numbers i 0) text begins in
    let comma_same : comma_after (take i numbers) ≡ comma = comma_at numbers i within ∙ sym comma_is in
    subst (λ ns. Begins ns new) (sym (take_more numbers i 0 within))
    (subst (Begins (take i numbers ++ get_or numbers i 0 ∷ [])) (ap (λ t. text ++ (t ++ decimal (get_or numbers i 0))) comma_same ∙ sym new_is) now)
