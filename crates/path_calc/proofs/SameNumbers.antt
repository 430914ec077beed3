-- The numbers of the obstacles that screen in a band, compared with others side by side.
use Rattle.std.proofs.Common.{◌≡◌, ℕ, zero, suc, ◌+◌, ◌<◌, ◌≤◌, Bool, true, false, List, [], ◌∷◌, length, get_or, drop, Option, refl, sym, ap, ◌∙◌, arith}
use Rattle.std.specs.Prelude.{Some, not, ◌==◌, ◌&&◌, slice_get}
use Rattle.std.proofs.lemmas.Bool.Decides.{nat_tests}
use Rattle.std.proofs.lemmas.List.{drop_all}
use Rattle.scene_geom.specs.declared.band.Band.{Band}
use Rattle.scene_parts.specs.declared.screening.crossing.Crossing.{Crossing}
use Rattle.path_calc.specs.inner.Strings.{rises_in, is_number, numbers_after}
use Rattle.path_calc.specs.inner.Tracing.{same_numbers}
use Rattle.path_calc.proofs.Numbered.{next-crossing}

either-way : (m n : ℕ) (test : Bool) → (n == m) ≡ test → (m == n) ≡ test
either-way m n true e = grind (arith, nat_tests)
either-way m n false e = grind (arith, nat_tests)

-- ---- a number, and the one at a place

matched : (m : ℕ) (ms numbers : List ℕ) (k : ℕ) → is_number m (slice_get numbers k) ≡ true
    → same_numbers (m ∷ ms) (drop k numbers) ≡ same_numbers ms (drop (suc k) numbers)
matched m ms [] k h = absurd (cc)
matched m ms (n ∷ numbers) zero h = rw (either-way m n true h) refl
matched m ms (n ∷ numbers) (suc k) h = matched m ms numbers k h

within : (m : ℕ) (numbers : List ℕ) (k : ℕ) → is_number m (slice_get numbers k) ≡ true → k < length numbers
within m [] k h = absurd (cc)
within m (n ∷ numbers) zero h = omega arith
within m (n ∷ numbers) (suc k) h = let below : k < length numbers = within m numbers k h in omega arith

unmatched : (m : ℕ) (ms numbers : List ℕ) (k : ℕ) → is_number m (slice_get numbers k) ≡ false
    → same_numbers (m ∷ ms) (drop k numbers) ≡ false
unmatched m ms [] k h = ap (same_numbers (m ∷ ms)) (drop_all k [] (omega arith))
unmatched m ms (n ∷ numbers) zero h = rw (either-way m n false h) refl
unmatched m ms (n ∷ numbers) (suc k) h = unmatched m ms numbers k h

ended : (numbers : List ℕ) (k : ℕ) → k ≤ length numbers → same_numbers [] (drop k numbers) ≡ (k == length numbers)
ended [] zero h = refl
ended [] (suc k) h = absurd (omega arith)
ended (n ∷ numbers) zero h = sym (more (length numbers)) where
  more : (l : ℕ) → (0 == suc l) ≡ false
  more l = grind (arith, nat_tests)
ended (n ∷ numbers) (suc k) h = ended numbers k (omega arith) ∙ both k (length numbers) where
  both : (k l : ℕ) → (k == l) ≡ (suc k == suc l)
  both k l = grind (arith, nat_tests)

-- ---- crossings, one after another

-- what is left to compare where a crossing and as many numbers are behind
abbrev pub rest_same : Band → List Crossing → List ℕ → ℕ → Option ℕ → ℕ → Bool
rest_same band crossings numbers i before k = same_numbers (numbers_after band before (drop i crossings)) (drop k numbers)

-- a crossing gives the number at the place
pub number-matched : (band : Band) (before : Option ℕ) (crossings : List Crossing) (i : ℕ) (c : Crossing) (numbers : List ℕ) (k : ℕ) (all : Bool)
    → i < length crossings → c ≡ get_or crossings i c → (rises_in band c && not (is_number c.obstacle before)) ≡ true
    → is_number c.obstacle (slice_get numbers k) ≡ true
    → rest_same band crossings numbers i before k ≡ all → rest_same band crossings numbers (i + 1) (Some c.obstacle) (k + 1) ≡ all
number-matched band before crossings i c numbers k all below is rises is_there h =
    let rest = numbers_after band (Some c.obstacle) (drop (i + 1) crossings) in
    ap (λ (j : ℕ). same_numbers rest (drop j numbers)) (next k)
    ∙ sym (matched c.obstacle rest numbers k is_there)
    ∙ ap (λ (ns : List ℕ). same_numbers ns (drop k numbers)) (sym (next-crossing band before crossings i c true below is rises))
    ∙ h
  where
    next : (k : ℕ) → k + 1 ≡ suc k
    next k = omega arith

pub place-within : (m : ℕ) (numbers : List ℕ) (k : ℕ) → is_number m (slice_get numbers k) ≡ true → k + 1 ≤ length numbers
place-within m numbers k h = let below : k < length numbers = within m numbers k h in omega arith

-- it gives another
pub number-differs : (band : Band) (before : Option ℕ) (crossings : List Crossing) (i : ℕ) (c : Crossing) (numbers : List ℕ) (k : ℕ) (all : Bool)
    → i < length crossings → c ≡ get_or crossings i c → (rises_in band c && not (is_number c.obstacle before)) ≡ true
    → is_number c.obstacle (slice_get numbers k) ≡ false
    → rest_same band crossings numbers i before k ≡ all → false ≡ all
number-differs band before crossings i c numbers k all below is rises is_there h =
    let rest = numbers_after band (Some c.obstacle) (drop (i + 1) crossings) in
    sym (unmatched c.obstacle rest numbers k is_there)
    ∙ ap (λ (ns : List ℕ). same_numbers ns (drop k numbers)) (sym (next-crossing band before crossings i c true below is rises))
    ∙ h

-- it gives none
pub number-skipped : (band : Band) (before : Option ℕ) (crossings : List Crossing) (i : ℕ) (c : Crossing) (numbers : List ℕ) (k : ℕ) (all : Bool)
    → i < length crossings → c ≡ get_or crossings i c → (rises_in band c && not (is_number c.obstacle before)) ≡ false
    → rest_same band crossings numbers i before k ≡ all → rest_same band crossings numbers (i + 1) before k ≡ all
number-skipped band before crossings i c numbers k all below is passed h =
    ap (λ (ns : List ℕ). same_numbers ns (drop k numbers)) (sym (next-crossing band before crossings i c false below is passed)) ∙ h

-- behind the last crossing no number is left
pub none-left : (band : Band) (before : Option ℕ) (crossings : List Crossing) (i : ℕ) (numbers : List ℕ) (k : ℕ) (all : Bool)
    → length crossings ≤ i → k ≤ length numbers → rest_same band crossings numbers i before k ≡ all → (k == length numbers) ≡ all
none-left band before crossings i numbers k all end within h =
    sym (ended numbers k within)
    ∙ ap (λ (cs : List Crossing). same_numbers (numbers_after band before cs) (drop k numbers)) (sym (drop_all i crossings end))
    ∙ h

-- ---- numbers that are found to be the same

pub same-are : (a b : List ℕ) → same_numbers a b ≡ true → a ≡ b
same-are [] [] h = refl
same-are [] (n ∷ ns) h = absurd (cc)
same-are (m ∷ ms) [] h = absurd (cc)
same-are (m ∷ ms) (n ∷ ns) h = by (m == n) refl h (same-are ms ns) where
  by : (test : Bool) → (m == n) ≡ test → (test && same_numbers ms ns) ≡ true → (same_numbers ms ns ≡ true → ms ≡ ns) → m ∷ ms ≡ n ∷ ns
  by true e h rest =
      let first : m ≡ n = grind (arith, nat_tests) in
      rw (first, rest h) refl
  by false e h rest = absurd (cc)
