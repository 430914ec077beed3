-- What the code has at its end is the chain.
use Rattle.std.proofs.Common.{◌≡◌, ℕ, ◌+◌, ◌-◌, ◌≤◌, arith, ap, subst, sym, ◌∙◌, inl, inr, List, [], ◌∷◌, ◌++◌, length, drop, take}
use Rattle.std.specs.Prelude.{pos, ◌<ℤ◌, Contains, IsPermutation}
use Rattle.std.proofs.lemmas.Int.{ints}
use Rattle.std.proofs.lemmas.List.{append_assoc, length-append, length-drop, take_at}
use Rattle.std.proofs.lemmas.List.Sorted.{IsPermutation-sym, Contains-permutation, length_permutation}
use Rattle.scene_geom.specs.declared.plan.Pt.{Pt}
use Rattle.edge_chain.specs.declared.hand.Hand.{Hand}
use Rattle.edge_chain.specs.Chain.{off_line, points_beside, IsChain, chain_of}
use Rattle.edge_chain.specs.inner.Winding.{wound}
use Rattle.edge_chain.proofs.Tight.{In, Hull, Sorted, level, first_clear, wound_is_tight}
use Rattle.edge_chain.proofs.Stretched.{Covered, IsFirst, stretched, contains, found_in, all_of}
use Rattle.edge_chain.proofs.Unique.{beside_is}
use Rattle.edge_chain.proofs.Bearings.{InOrder, sorted_points, in_one_more}
use Rattle.edge_chain.proofs.Listed.{in_left, in_right, chain_is_value}

-- ---- a string and its end
record Ended (r : Pt) (string : List Pt) : Type 0 where
  chain : List Pt
  is : string ≡ chain ++ r ∷ []

ended : (hand : Hand) (s r : Pt) (points string : List Pt) → Hull hand s r points string → Ended r string
ended hand s r points [] hull = absurd hull
ended hand s r points (a ∷ []) hull = record { chain = []; is = ap (λ (p : Pt). p ∷ []) hull.0 }
ended hand s r points (a ∷ b ∷ rest) hull =
    let end = ended hand s r points (b ∷ rest) hull.1 in record { chain = a ∷ end.chain; is = ap (λ xs. a ∷ xs) end.is }

-- the points of a chain are among those that it is wound round, and stand off the line
members : (hand : Hand) (s r : Pt) (points chain : List Pt) → Hull hand s r points (chain ++ r ∷ []) → (p : Pt) → In p chain → In p points × (pos 0 <ℤ off_line hand s r p)
members hand s r points [] hull p m = absurd m
members hand s r points (x ∷ []) hull p (inl e) = rw e (hull.0.member, hull.0.beside)
members hand s r points (x ∷ []) hull p (inr m) = absurd m
members hand s r points (x ∷ y ∷ chain) hull p (inl e) = rw e (hull.0.member, hull.0.beside)
members hand s r points (x ∷ y ∷ chain) hull p (inr m) = members hand s r points (y ∷ chain) hull.1 p m

is_first : (hand : Hand) (s r : Pt) (points : List Pt) → Sorted hand s r points → IsFirst hand s points (wound hand points)
is_first hand s r [] sorted = tt
is_first hand s r (p ∷ rest) sorted = first_clear hand s r p rest sorted

-- a string has its end at least
pub has_end : (hand : Hand) (r : Pt) (sorted held : List Pt) (begin : ℕ) → drop begin held ≡ wound hand (sorted ++ r ∷ []) → 1 ≤ length held - begin
has_end hand r [] held begin is = omega (arith, length-drop begin held, ap length is)
has_end hand r (p ∷ sorted) held begin is = omega (arith, length-drop begin held, ap length is)

-- ---- the buffer
-- what the buffer holds: the points on the hand in their order, the string wound round them with its end behind it, and
-- what is cut out of it
pub record Buffer (hand : Hand) (s r : Pt) (points sorted held chain : List Pt) (begin : ℕ) : Type 0 where
  pub permutation : IsPermutation (points_beside points s r hand) sorted
  pub order : InOrder hand s r sorted
  pub string : drop begin held ≡ wound hand (sorted ++ r ∷ [])
  pub count : length held ≡ length sorted + 1
  pub within : begin ≤ length held
  pub cut : chain ≡ take (length held - begin - 1) (drop begin held ++ take begin held)

record Outcome (hand : Hand) (s r : Pt) (points sorted : List Pt) (chain : List Pt) : Type 0 where
  hull : Hull hand s r (sorted ++ r ∷ []) (chain ++ r ∷ [])
  first : IsFirst hand s (sorted ++ r ∷ []) (chain ++ r ∷ [])
  short : length chain ≤ length sorted

module _ (hand : Hand) (s r : Pt) (points sorted held chain : List Pt) (begin : ℕ) (buffer : Buffer hand s r points sorted held chain begin) where
  sorted_is : (p : Pt) → In p sorted → In p (points_beside points s r hand)
  sorted_is p m =
      found_in p (points_beside points s r hand)
      (Contains-permutation sorted (points_beside points s r hand) p (IsPermutation-sym _ _ buffer.permutation) (contains p sorted m))

  beside_sorted : (p : Pt) → In p (points_beside points s r hand) → In p sorted
  beside_sorted p m =
      found_in p sorted (Contains-permutation (points_beside points s r hand) sorted p buffer.permutation (contains p (points_beside points s r hand) m))

  off : (p : Pt) → In p sorted → pos 0 <ℤ off_line hand s r p
  off p m = beside_is hand s r points p (sorted_is p m)

  in_order : Sorted hand s r (sorted ++ r ∷ [])
  in_order = sorted_points hand s r sorted off buffer.order

  string_hull : Hull hand s r (sorted ++ r ∷ []) (drop begin held)
  string_hull = subst (Hull hand s r (sorted ++ r ∷ [])) (sym buffer.string) (wound_is_tight hand s r (sorted ++ r ∷ []) in_order)

  end : Ended r (drop begin held)
  end = ended hand s r (sorted ++ r ∷ []) (drop begin held) string_hull

  same : chain ≡ end.chain
  same =
      let shape : drop begin held ++ take begin held ≡ end.chain ++ (r ∷ take begin held) =
      ap (λ xs. xs ++ take begin held) end.is ∙ append_assoc end.chain (r ∷ []) (take begin held) in
      buffer.cut ∙ ap (take (length held - begin - 1)) shape ∙ take_at end.chain (r ∷ take begin held) (length held - begin - 1) count
    where
      count : length end.chain ≡ length held - begin - 1
      count = omega (arith, length-drop begin held, ap length end.is, length-append end.chain (r ∷ []))

  is_string : drop begin held ≡ chain ++ r ∷ []
  is_string = end.is ∙ ap (λ xs. xs ++ r ∷ []) (sym same)

  outcome : Outcome hand s r points sorted chain
  outcome = record {
    hull = subst (Hull hand s r (sorted ++ r ∷ [])) is_string string_hull;
    first = subst (IsFirst hand s (sorted ++ r ∷ [])) (sym buffer.string ∙ is_string) (is_first hand s r (sorted ++ r ∷ []) in_order);
    short = omega (arith, length-drop begin held, ap length is_string, length-append chain (r ∷ []), buffer.count);
  }

  covered : Covered (s ∷ r ∷ points_beside points s r hand) s (sorted ++ r ∷ [])
  covered p (inl e) = inl e
  covered p (inr (inl e)) = inr (in_right p sorted (r ∷ []) (inl e))
  covered p (inr (inr m)) = inr (in_left p sorted (r ∷ []) (beside_sorted p m))

  drawn : (p : Pt) → In p chain → In p (points_beside points s r hand)
  drawn p m =
      let there = members hand s r (sorted ++ r ∷ []) chain outcome.hull p m in
      elim (in_one_more p r sorted there.0) [
        | inl k ↦ sorted_is p k
        | inr e ↦ (let none = level hand s r in let on : pos 0 <ℤ off_line hand s r r = subst (λ (q : Pt). pos 0 <ℤ off_line hand s r q) e there.1 in absurd (omega (arith, ints)))
      ]

  pub is_chain : IsChain points s r hand chain
  is_chain = record {
    members = all_of (Contains (points_beside points s r hand)) chain (λ p m. contains p (points_beside points s r hand) (drawn p m));
    stretched = stretched hand s r (sorted ++ r ∷ []) (points_beside points s r hand) chain covered outcome.hull outcome.first;
  }

  pub is_value : chain ≡ chain_of points s r hand
  is_value =
      chain_is_value points s r hand chain is_chain
      (omega (arith, outcome.short, length_permutation (points_beside points s r hand) sorted buffer.permutation))
