-- A tight string is stretched as the definition of a chain says.
use Rattle.std.proofs.Common.{◌≡◌, ℕ, zero, suc, ◌<◌, Bool, true, false, arith, sym, refl, ◌⊎◌, inl, inr, List, [], ◌∷◌, ◌++◌, length}
use Rattle.std.specs.Prelude.{ℤ, pos, int_lt, not, ◌&&◌, ◌≤ℤ◌, ◌<ℤ◌, All, Contains, slice_index_or}
use Rattle.std.specs.List.{list_all}
use Rattle.std.proofs.lemmas.Int.{ints}
use Rattle.scene_geom.specs.declared.plan.Pt.{Pt}
use Rattle.scene_geom.specs.Outline.{sides_along}
use Rattle.edge_chain.specs.declared.hand.Hand.{Hand}
use Rattle.edge_chain.specs.Chain.{off_line, turns_away, is_outermost, is_stretched}
use Rattle.edge_chain.proofs.Hands.{turned}
use Rattle.edge_chain.proofs.Tight.{In, Hull, level}

pub below_zero : (a : ℤ) → a <ℤ pos 0 → int_lt a (pos 0) ≡ true
below_zero a h = sym (omega (arith, ints))

not_above : (a : ℤ) → a ≤ℤ pos 0 → not (int_lt (pos 0) a) ≡ true
not_above a h = let no : false ≡ int_lt (pos 0) a = omega (arith, ints) in rw (← no) refl

pub both : (x y : Bool) → x ≡ true → y ≡ true → (x && y) ≡ true
both x y e f = rw (e, f) refl

-- ---- turns
turns : (hand : Hand) (s r : Pt) (points string : List Pt) → Hull hand s r points string → turns_away hand string ≡ true
turns hand s r points [] hull = absurd hull
turns hand s r points (a ∷ []) hull = refl
turns hand s r points (a ∷ b ∷ []) hull = refl
turns hand s r points (a ∷ b ∷ c ∷ rest) hull =
    both _ _ (below_zero (off_line hand a b c) hull.0.bend) (turns hand s r points (b ∷ c ∷ rest) hull.1)

turns_from : (hand : Hand) (s r : Pt) (points string : List Pt) → Hull hand s r points string → turns_away hand (s ∷ string) ≡ true
turns_from hand s r points [] hull = refl
turns_from hand s r points (b ∷ []) hull = refl
turns_from hand s r points (b ∷ c ∷ rest) hull =
    both _ _ (below_zero (off_line hand s b c) hull.0.fan) (turns hand s r points (b ∷ c ∷ rest) hull)

-- ---- nothing stands out
outermost : (hand : Hand) (a b : Pt) (others : List Pt) → ((p : Pt) → In p others → off_line hand a b p ≤ℤ pos 0) → is_outermost hand others (record { from = a; to = b }) ≡ true
outermost hand a b [] h = refl
outermost hand a b (p ∷ others) h =
    both _ _ (not_above (off_line hand a b p) (h p (inl refl))) (outermost hand a b others (λ q m. h q (inr m)))

-- each is s or among the points
abbrev pub Covered : List Pt → Pt → List Pt → Type 0
Covered others s points = (p : Pt) → In p others → (p ≡ s) ⊎ In p points

nothing_out : (hand : Hand) (s r : Pt) (points others string : List Pt) → Covered others s points → Hull hand s r points string
    → list_all (is_outermost hand others) (sides_along string) ≡ true
nothing_out hand s r points others [] covered hull = absurd hull
nothing_out hand s r points others (a ∷ []) covered hull = refl
nothing_out hand s r points others (a ∷ b ∷ rest) covered hull =
    both _ _ (outermost hand a b others within) (nothing_out hand s r points others (b ∷ rest) covered hull.1)
  where
    within : (p : Pt) → In p others → off_line hand a b p ≤ℤ pos 0
    within p m =
        elim (covered p m) [
          | inl e ↦ (let t = turned hand s a b in let fan = hull.0.fan in let u = turned hand a b s in rw e (omega (arith, ints)))
          | inr n ↦ hull.0.within p n
        ]

-- no point stands out of the first way
abbrev pub IsFirst : Hand → Pt → List Pt → List Pt → Type 0
IsFirst hand s points [] = Unit {0}
IsFirst hand s points (b ∷ rest) = (q : Pt) → In q points → off_line hand s b q ≤ℤ pos 0

nothing_out_from : (hand : Hand) (s r : Pt) (points others string : List Pt) → Covered others s points → Hull hand s r points string → IsFirst hand s points string
    → list_all (is_outermost hand others) (sides_along (s ∷ string)) ≡ true
nothing_out_from hand s r points others [] covered hull first = refl
nothing_out_from hand s r points others (b ∷ rest) covered hull first =
    both _ _ (outermost hand s b others within) (nothing_out hand s r points others (b ∷ rest) covered hull)
  where
    within : (p : Pt) → In p others → off_line hand s b p ≤ℤ pos 0
    within p m =
        elim (covered p m) [
          | inl e ↦ (let t = turned hand s b s in let u = turned hand b s s in let none = level hand b s in rw e (omega (arith, ints)))
          | inr n ↦ first p n
        ]

pub stretched : (hand : Hand) (s r : Pt) (points beside chain : List Pt) → Covered (s ∷ r ∷ beside) s points → Hull hand s r points (chain ++ r ∷ [])
    → IsFirst hand s points (chain ++ r ∷ []) → is_stretched beside s r hand chain ≡ true
stretched hand s r points beside chain covered hull first =
    both _ _ (turns_from hand s r points (chain ++ r ∷ []) hull) (nothing_out_from hand s r points (s ∷ r ∷ beside) (chain ++ r ∷ []) covered hull first)

-- ---- elements
pub contains : (p : Pt) (points : List Pt) → In p points → Contains points p
contains p [] m = absurd m
contains p (q ∷ points) (inl e) = (0, omega arith, sym e)
contains p (q ∷ points) (inr m) = let found = contains p points m in (suc found.0, omega arith, found.2)

pub found_in : (p : Pt) (points : List Pt) → Contains points p → In p points
found_in p points found = at points found.0 found.1 found.2 where
  at : (points : List Pt) (k : ℕ) → k < length points → slice_index_or points k p ≡ p → In p points
  at [] k below e = absurd (omega arith)
  at (q ∷ points) zero below e = inl (sym e)
  at (q ∷ points) (suc k) below e = inr (at points k (omega arith) e)

pub all_of : (P : Pt → Type 0) (points : List Pt) → ((p : Pt) → In p points → P p) → All P points
all_of P [] h k d below = absurd (omega arith)
all_of P (p ∷ points) h zero d below = h p (inl refl)
all_of P (p ∷ points) h (suc k) d below = all_of P points (λ q m. h q (inr m)) k d (omega arith)

pub each_of : (P : Pt → Type 0) (points : List Pt) → All P points → (p : Pt) → In p points → P p
each_of P [] all p m = absurd m
each_of P (q ∷ points) all p (inl e) = rw e (all 0 q (omega arith))
each_of P (q ∷ points) all p (inr m) = each_of P points (λ k d below. all (suc k) d (omega arith)) p m
