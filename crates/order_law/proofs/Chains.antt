-- That a chain doesn't depend on the order of the points that it is stretched round.
use Rattle.std.proofs.Common.{◌≡◌, ℕ, zero, suc, ◌≤◌, Bool, true, false, arith, refl, sym, ap, subst, ◌∙◌, inl, inr, List, [], ◌∷◌, ◌++◌, length, map}
use Rattle.std.specs.Prelude.{Option, Some, None, find, flat_map, cond, not, ◌&&◌, Contains}
use Rattle.std.specs.List.{list_all}
use Rattle.scene_geom.specs.declared.plan.Pt.{Pt}
use Rattle.scene_book.specs.Orders.{Shuffled, under}
use Rattle.edge_chain.specs.declared.hand.Hand.{Hand}
use Rattle.edge_chain.specs.Chain.{IsChain, chain_of, lists_over, points_beside, is_stretched, is_beside, is_outermost, turns_away, segments_of}
use Rattle.edge_chain.proofs.Tight.{In}
use Rattle.edge_chain.proofs.Stretched.{contains, found_in, all_of, each_of}
use Rattle.edge_chain.proofs.Listed.{chain_is_value}
use Rattle.order_law.proofs.Shuffles.{Each, turned, in-shuffled, length-shuffled, all-shuffled, filter-shuffled}

-- ---- what is found keeps what each thing of the list keeps

each-append : {A : Type 0} (P : A → Type 0) (xs ys : List A) → Each P xs → Each P ys → Each P (xs ++ ys)
each-append P [] ys h k = k
each-append P (x ∷ xs) ys h k = (h.0, each-append P xs ys h.1 k)

each-map : {A B : Type 0} (P : B → Type 0) (Q : A → Type 0) (f : A → B) → ((x : A) → Q x → P (f x)) → (xs : List A) → Each Q xs → Each P (map f xs)
each-map P Q f keeps [] h = tt
each-map P Q f keeps (x ∷ xs) h = (keeps x h.0, each-map P Q f keeps xs h.1)

each-flat_map : {A B : Type 0} (P : B → Type 0) (f : A → List B) (xs : List A) → ((x : A) → In x xs → Each P (f x)) → Each P (flat_map f xs)
each-flat_map P f [] h = tt
each-flat_map P f (x ∷ xs) h = each-append P (f x) (flat_map f xs) (h x (inl refl)) (each-flat_map P f xs (λ y m. h y (inr m)))

found-keeps : {A : Type 0} (P : A → Type 0) (test : A → Bool) (xs : List A) (it : A) → Each P xs → find test xs ≡ Some it → P it × (test it ≡ true)
found-keeps P test [] it h e = absurd (cc)
found-keeps {A = A} P test (x ∷ xs) it h e = by (test x) refl e (λ g. found-keeps P test xs it h.1 g) where
  by : (b : Bool) → test x ≡ b → cond b (Some x) (find test xs) ≡ Some it → (find test xs ≡ Some it → P it × (test it ≡ true)) → P it × (test it ≡ true)
  by true f g rest = (let is : x ≡ it = cc in (subst P is h.0, subst (λ (y : A). test y ≡ true) is f))
  by false f g rest = rest g

-- ---- lists over points

-- a list of at most n things out of some
record Drawn (n : ℕ) (points chain : List Pt) : Type 0 where
  members : (p : Pt) → In p chain → In p points
  short : length chain ≤ n

none-drawn : (n : ℕ) (points : List Pt) → Drawn n points []
none-drawn n points = record { members = λ p m. absurd m; short = omega arith }

one-more : (n : ℕ) (points : List Pt) (p : Pt) → In p points → (rest : List Pt) → Drawn n points rest → Drawn (suc n) points (p ∷ rest)
one-more n points p m rest h = record {
  members = λ q k. elim k [ inl e ↦ subst (λ (x : Pt). In x points) (sym e) m | inr there ↦ h.members q there ];
  short = omega (arith, h.short);
}

drawn : (n : ℕ) (points : List Pt) → Each (Drawn n points) (lists_over n points)
drawn zero points = (none-drawn zero points, tt)
drawn (suc n) points = (
  none-drawn (suc n) points,
  each-flat_map (Drawn (suc n) points) (λ p. map (λ rest. p ∷ rest) (lists_over n points)) points
      (λ p m. each-map (Drawn (suc n) points) (Drawn n points) (λ rest. p ∷ rest) (one-more n points p m) (lists_over n points) (drawn n points)),
)

-- ---- chains

all-tests : {A : Type 0} (f g : A → Bool) → ((x : A) → f x ≡ g x) → (xs : List A) → list_all f xs ≡ list_all g xs
all-tests f g alike [] = refl
all-tests f g alike (x ∷ xs) = rw (alike x, all-tests f g alike xs)

-- the string is stretched round points in any order
stretched-alike : {xs ys : List Pt} (s r : Pt) (hand : Hand) → Shuffled xs ys → (chain : List Pt) → is_stretched xs s r hand chain ≡ is_stretched ys s r hand chain
stretched-alike {xs = xs} {ys = ys} s r hand h chain =
    ap (λ b. turns_away hand (s ∷ (chain ++ r ∷ [])) && b)
    (all-tests (is_outermost hand (s ∷ r ∷ xs)) (is_outermost hand (s ∷ r ∷ ys))
    (λ side. all-shuffled (λ p. not (is_beside hand side.from side.to p)) (under s (under r h))) (segments_of chain s r))

module _ (s r : Pt) (hand : Hand) where
  -- what is found is a chain, and no longer than all points together
  record FoundChain (points chain : List Pt) : Type 0 where
    is : IsChain points s r hand chain
    short : length chain ≤ length (points_beside points s r hand)

  found-chain : (points chain : List Pt)
      → find (is_stretched (points_beside points s r hand) s r hand) (lists_over (length (points_beside points s r hand)) (points_beside points s r hand)) ≡ Some chain → FoundChain points chain
  found-chain points chain e =
      let beside = points_beside points s r hand in
      let found = found-keeps (Drawn (length beside) beside) (is_stretched beside s r hand) (lists_over (length beside) beside) chain (drawn (length beside) beside) e in
      record {
        is = record { members = all_of (Contains beside) chain (λ p m. contains p beside (found.0.members p m)); stretched = found.1 };
        short = found.0.short;
      }

  -- a chain of points is one of the same points in another order
  chain-moved : {xs ys : List Pt} → Shuffled xs ys → (chain : List Pt) → FoundChain xs chain → FoundChain ys chain
  chain-moved {xs = xs} {ys = ys} h chain found =
      let beside = filter-shuffled (is_beside hand s r) h in
      let there = points_beside xs s r hand in
      let here = points_beside ys s r hand in
      record {
        is = record {
          members = all_of (Contains here) chain (λ p m. contains p here (in-shuffled p beside (found_in p there (each_of (Contains there) chain found.is.members p m))));
          stretched = sym (stretched-alike s r hand beside chain) ∙ found.is.stretched;
        };
        short = omega (arith, found.short, length-shuffled beside);
      }

  chain-found : (points chain : List Pt) → FoundChain points chain → chain ≡ chain_of points s r hand
  chain-found points chain found = chain_is_value points s r hand chain found.is found.short

  -- what is found among all lists over the points
  found-in : List Pt → Option (List Pt)
  found-in points = find (is_stretched (points_beside points s r hand) s r hand) (lists_over (length (points_beside points s r hand)) (points_beside points s r hand))

  pub chain-alike : {xs ys : List Pt} → Shuffled xs ys → chain_of xs s r hand ≡ chain_of ys s r hand
  unfolding chain_of found-in
  chain-alike {xs = xs} {ys = ys} h = by (found-in xs) (found-in ys) refl refl where
    by : (a b : Option (List Pt)) → found-in xs ≡ a → found-in ys ≡ b → chain_of xs s r hand ≡ chain_of ys s r hand
    by (Some chain) b e f = sym (chain-found xs chain (found-chain xs chain e)) ∙ chain-found ys chain (chain-moved h chain (found-chain xs chain e))
    by None (Some chain) e f = sym (chain-found xs chain (chain-moved (turned h) chain (found-chain ys chain f))) ∙ chain-found ys chain (found-chain ys chain f)
    by None None e f = rw (e, f)
