-- The chain as a value: it is found among all lists over the points.
use Rattle.std.proofs.Common.{◌≡◌, ℕ, zero, suc, ◌≤◌, Bool, true, false, arith, ap, subst, sym, refl, ◌∙◌, ◌⊎◌, inl, inr, List, [], ◌∷◌, ◌++◌, length, map}
use Rattle.std.specs.Prelude.{Some, find, flat_map, unwrap_or, Contains}
use Rattle.scene_geom.specs.declared.plan.Pt.{Pt}
use Rattle.edge_chain.specs.declared.hand.Hand.{Hand}
use Rattle.edge_chain.specs.Chain.{IsChain, chain_of, lists_over, points_beside, is_stretched}
use Rattle.edge_chain.proofs.Tight.{In}
use Rattle.edge_chain.proofs.Stretched.{contains, found_in, all_of, each_of}
use Rattle.edge_chain.proofs.Unique.{one_chain}

module _ {A : Type 0} where
  pub in_left : (x : A) (xs ys : List A) → In x xs → In x (xs ++ ys)
  in_left x [] ys m = absurd m
  in_left x (y ∷ xs) ys (inl e) = inl e
  in_left x (y ∷ xs) ys (inr m) = inr (in_left x xs ys m)

  pub in_right : (x : A) (xs ys : List A) → In x ys → In x (xs ++ ys)
  in_right x [] ys m = m
  in_right x (y ∷ xs) ys m = inr (in_right x xs ys m)

  in_either : (x : A) (xs ys : List A) → In x (xs ++ ys) → In x xs ⊎ In x ys
  in_either x [] ys m = inr m
  in_either x (y ∷ xs) ys (inl e) = inl (inl e)
  in_either x (y ∷ xs) ys (inr m) = elim (in_either x xs ys m) [ inl k ↦ inl (inr k) | inr k ↦ inr k ]

  -- what is found where something passes
  record Found (test : A → Bool) (xs : List A) : Type 0 where
    it : A
    found : find test xs ≡ Some it
    passes : test it ≡ true
    member : In it xs

  found_by : (test : A → Bool) (xs : List A) (x : A) → In x xs → test x ≡ true → Found test xs
  found_by test [] x m e = absurd m
  found_by test (y ∷ xs) x m e = by_test (test y) refl (λ n. found_by test xs x n e) where
    by_test : (t : Bool) → test y ≡ t → (In x xs → Found test xs) → Found test (y ∷ xs)
    by_test true f rest = record { it = y; found = rw f refl; passes = f; member = inl refl }
    by_test false f rest =
        elim m [
          | inl same ↦ absurd (let g : test y ≡ true = ap test (sym same) ∙ e in cc)
          | inr n ↦ (let h = rest n in record { it = h.it; found = rw f h.found; passes = h.passes; member = inr h.member })
        ]

module _ {A B : Type 0} where
  in_map : (f : A → B) (x : A) (xs : List A) → In x xs → In (f x) (map f xs)
  in_map f x [] m = absurd m
  in_map f x (y ∷ xs) (inl e) = inl (ap f e)
  in_map f x (y ∷ xs) (inr m) = inr (in_map f x xs m)

  from_map : (f : A → B) (z : B) (xs : List A) → In z (map f xs) → (x : A) × In x xs × (z ≡ f x)
  from_map f z [] m = absurd m
  from_map f z (y ∷ xs) (inl e) = (y, inl refl, e)
  from_map f z (y ∷ xs) (inr m) = let found = from_map f z xs m in (found.0, inr found.1, found.2)

  in_flat_map : (f : A → List B) (x : A) (xs : List A) (z : B) → In x xs → In z (f x) → In z (flat_map f xs)
  in_flat_map f x [] z m n = absurd m
  in_flat_map f x (y ∷ xs) z (inl e) n = in_left z (f y) (flat_map f xs) (subst (λ (w : A). In z (f w)) e n)
  in_flat_map f x (y ∷ xs) z (inr m) n = in_right z (f y) (flat_map f xs) (in_flat_map f x xs z m n)

  from_flat_map : (f : A → List B) (xs : List A) (z : B) → In z (flat_map f xs) → (x : A) × In x xs × In z (f x)
  from_flat_map f [] z m = absurd m
  from_flat_map f (y ∷ xs) z m =
      elim (in_either z (f y) (flat_map f xs) m) [
        | inl k ↦ (y, inl refl, k)
        | inr k ↦ (let found = from_flat_map f xs z k in (found.0, inr found.1, found.2))
      ]

-- ---- lists over points
listed : (n : ℕ) (points chain : List Pt) → ((p : Pt) → In p chain → In p points) → length chain ≤ n → In chain (lists_over n points)
listed zero points [] drawn short = inl refl
listed zero points (p ∷ chain) drawn short = absurd (omega arith)
listed (suc n) points [] drawn short = inl refl
listed (suc n) points (p ∷ chain) drawn short =
    inr (in_flat_map (λ q. map (λ rest. q ∷ rest) (lists_over n points)) p points (p ∷ chain) (drawn p (inl refl))
    (in_map (λ rest. p ∷ rest) chain (lists_over n points) (listed n points chain (λ q m. drawn q (inr m)) (omega arith))))

drawn_from : (n : ℕ) (points chain : List Pt) → In chain (lists_over n points) → (p : Pt) → In p chain → In p points
drawn_from zero points chain (inl e) p m = absurd (subst (λ (list : List Pt). In p list) e m)
drawn_from zero points chain (inr k) p m = absurd k
drawn_from (suc n) points chain (inl e) p m = absurd (subst (λ (list : List Pt). In p list) e m)
drawn_from (suc n) points chain (inr k) p m =
    let first = from_flat_map (λ q. map (λ rest. q ∷ rest) (lists_over n points)) points chain k in
    let rest = from_map (λ (list : List Pt). first.0 ∷ list) chain (lists_over n points) first.2 in
    elim (subst (λ (list : List Pt). In p list) rest.2 m) [
      | inl e ↦ subst (λ (q : Pt). In q points) (sym e) first.1
      | inr in_rest ↦ drawn_from n points rest.0 rest.1 p in_rest
    ]

-- ---- the chain
pub chain_is_value : (points : List Pt) (s r : Pt) (hand : Hand) (chain : List Pt) → IsChain points s r hand chain → length chain ≤ length (points_beside points s r hand)
    → chain ≡ chain_of points s r hand
unfolding chain_of
chain_is_value points s r hand chain is short =
    let beside = points_beside points s r hand in
    let all = lists_over (length beside) beside in
    let member : In chain all = listed (length beside) beside chain (λ p m. found_in p beside (each_of (Contains beside) chain is.members p m)) short in
    let found : Found (is_stretched beside s r hand) all = found_by (is_stretched beside s r hand) all chain member is.stretched in
    let other : IsChain points s r hand found.it = record {
      members = all_of (Contains beside) found.it (λ p m. contains p beside (drawn_from (length beside) beside found.it found.member p m));
      stretched = found.passes;
    } in
    one_chain points s r hand chain found.it is other ∙ ap (λ o. unwrap_or o []) (sym found.found)
