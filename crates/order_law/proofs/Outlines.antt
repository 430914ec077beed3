-- That an outline holds little of a stretch of a path: how much it holds has a bound, whatever the path is.
use Rattle.std.proofs.Common.{◌≡◌, ℕ, suc, ◌+◌, ◌*◌, ◌<◌, ◌≤◌, ℤ, pos, neg_ℤ, ◌+ℤ◌, ◌≤ℤ◌, unsigned_abs, Bool, true, false, arith, refl, ap, ◌∙◌, List, [], ◌∷◌, ◌++◌, length, map}
use Rattle.std.specs.Prelude.{Option, Some, None, IfSome, ◌^◌, int_lt, if◌then◌else◌}
use Rattle.std.specs.Option.{option_map}
use Rattle.std.proofs.lemmas.Int.{ints, clamps}
use Rattle.std.proofs.lemmas.List.{length-append}
use Rattle.fix_interval.specs.Units.{unit}
use Rattle.fix_interval.specs.Interval.{Interval}
use Rattle.fix_interval.specs.Values.{ratio_of, sum_of_ends, add_of, neg_of, sub_of, lesser_low, lesser_high, greater_low, greater_high, min_of, max_of}
use Rattle.fix_interval.specs.Tree.{Tree, Add, Sub, Neg, Min, enc}
use Rattle.fix_interval.proofs.Multiplying.{end_of-small}
use Rattle.scene_geom.specs.declared.plan.Pt.{Pt}
use Rattle.scene_geom.specs.declared.fractions.fraction.Frac.{Frac}
use Rattle.scene_geom.specs.declared.directions.direction.Dir.{Dir}
use Rattle.scene_geom.specs.declared.meetings.crossing.Passage.{Passage}
use Rattle.scene_geom.specs.Fraction.{rest_of}
use Rattle.scene_geom.specs.Crossing.{passage_of}
use Rattle.scene_geom.specs.Outline.{sides_along, ring, area2_of, passages_of, meets_of}
use Rattle.path_shape.specs.declared.legs.Legs.{Legs}
use Rattle.path_shape.specs.declared.legs.Legs.TheVariants.{One, Two}
use Rattle.path_shape.specs.Forms.{zero_form, one_form, plus_all}
use Rattle.path_shape.specs.Outlines.{place_form, before, signed, counted, left_of_sides, length_inside, length_on_leg, length_on_legs}
use Rattle.order_law.proofs.Shuffles.{Each, length-made, fewer}
use Rattle.order_law.proofs.Ends.{Ends, NotNegative, IsPositive, AtMost, AreWithin, add-keeps, neg-keeps, add-within, neg-within}

-- ---- between 0 and 1

-- 1, at most 1 and at least -1, in units of 2^-32
abbrev IsOne : ℤ → Type 0
IsOne z = z ≡ pos (2 ^ 32)

abbrev pub UpToOne : ℤ → Type 0
UpToOne z = z ≤ℤ pos (2 ^ 32)

abbrev FromMinusOne : ℤ → Type 0
FromMinusOne z = neg_ℤ (pos (2 ^ 32)) ≤ℤ z

abbrev UpToZero : ℤ → Type 0
UpToZero z = z ≤ℤ pos 0

-- a quantity from 0 on, and one up to 1 that has a high end
abbrev Starts : Interval → Type 0
Starts a = IsPositive a

record Stops (b : Interval) : Type 0 where
  ends : Ends UpToOne b
  high : ℤ
  there : b.hi ≡ Some high

one-is : Ends IsOne (enc one_form)
unfolding ratio_of unit
one-is = (omega (arith, ints), omega (arith, ints))

-- one less what isn't negative, and one less what is at most one
pub less-positive : (a : Interval) → Starts a → Ends UpToOne (sub_of (enc one_form) a)
less-positive a h =
    add-keeps IsOne UpToZero UpToOne (λ x y one k. omega (arith, ints, one, k)) (enc one_form) (neg_of a) one-is
    (neg-keeps NotNegative UpToZero (λ x k. omega (arith, ints, k)) a h)

pub less-up-to-one : (b : Interval) → Ends UpToOne b → Starts (sub_of (enc one_form) b)
less-up-to-one b h =
    add-keeps IsOne FromMinusOne NotNegative (λ x y one k. omega (arith, ints, one, k)) (enc one_form) (neg_of b) one-is
    (neg-keeps UpToOne FromMinusOne (λ x k. omega (arith, ints, k)) b h)

-- the lesser of two, one of which is at most one
lesser_low-up-to : (p b : Option ℤ) → IfSome b UpToOne → IfSome (lesser_low p b) UpToOne
lesser_low-up-to None b h = tt
lesser_low-up-to (Some p) None h = tt
lesser_low-up-to (Some p) (Some b) h = omega (arith, ints, clamps, h)

lesser_high-up-to : (p b : Option ℤ) (high : ℤ) → IfSome b UpToOne → b ≡ Some high → IfSome (lesser_high p b) UpToOne
lesser_high-up-to p None high h e = absurd (cc)
lesser_high-up-to None (Some b) high h e = h
lesser_high-up-to (Some p) (Some b) high h e = omega (arith, ints, clamps, h)

min-up-to : (p b : Interval) → Stops b → Ends UpToOne (min_of p b)
unfolding min_of
min-up-to p b h = (lesser_low-up-to p.lo b.lo h.ends.0, lesser_high-up-to p.hi b.hi h.high h.ends.1 h.there)

-- and so is the lesser, the other way round, with a high end
lesser_low-first : (b p : Option ℤ) → IfSome b UpToOne → IfSome (lesser_low b p) UpToOne
lesser_low-first None p h = tt
lesser_low-first (Some b) None h = tt
lesser_low-first (Some b) (Some p) h = omega (arith, ints, clamps, h)

-- an end that is there, and at most one
record High (end : Option ℤ) : Type 0 where
  high : ℤ
  there : end ≡ Some high
  most : UpToOne high

lesser_high-first : (b p : Option ℤ) (high : ℤ) → IfSome b UpToOne → b ≡ Some high → High (lesser_high b p)
lesser_high-first None p high h e = absurd (cc)
lesser_high-first (Some b) None high h e = record { high = b; there = refl; most = h }
lesser_high-first (Some b) (Some p) high h e = record { high = _; there = refl; most = omega (arith, ints, clamps, h) }

there-keeps : (P : ℤ → Type 0) (end : Option ℤ) (high : ℤ) → end ≡ Some high → P high → IfSome end P
there-keeps P end high e h = rw e h

stops-min : (b p : Interval) → Stops b → Stops (min_of b p)
unfolding min_of
stops-min b p h =
    let high = lesser_high-first b.hi p.hi h.high h.ends.1 h.there in
    record { ends = (lesser_low-first b.lo p.lo h.ends.0, there-keeps UpToOne (lesser_high b.hi p.hi) high.high high.there high.most); high = high.high; there = high.there }

pub one-up-to-one : Ends UpToOne (enc one_form)
unfolding ratio_of unit
one-up-to-one = (omega (arith, ints), omega (arith, ints))

pub least-of-one : (x : Interval) → Ends UpToOne (min_of (enc one_form) x)
unfolding min_of ratio_of unit
least-of-one x = (low x.lo, high x.hi) where
  low : (end : Option ℤ) → IfSome (lesser_low (Some (pos (2 ^ 32))) end) UpToOne
  low None = tt
  low (Some z) = omega (arith, ints, clamps)

  high : (end : Option ℤ) → IfSome (lesser_high (Some (pos (2 ^ 32))) end) UpToOne
  high None = omega (arith, ints)
  high (Some z) = omega (arith, ints, clamps)

-- ---- how much of a stretch lies before a place

greatest-within : (x : Interval) → Ends UpToOne x → AreWithin (2 ^ 32) (max_of (enc zero_form) x)
unfolding max_of ratio_of unit
greatest-within x h = (low x.lo h.0, high x.hi h.1) where
  low : (end : Option ℤ) → IfSome end UpToOne → IfSome (greater_low (Some (pos 0)) end) (AtMost (2 ^ 32))
  low None h = omega arith
  low (Some z) h = omega (arith, ints, clamps, h)

  high : (end : Option ℤ) → IfSome end UpToOne → IfSome (greater_high (Some (pos 0)) end) (AtMost (2 ^ 32))
  high None h = tt
  high (Some z) h = omega (arith, ints, clamps, h)

before-within : (place : Frac) (a b : Tree) → Starts (enc a) → Stops (enc b) → AreWithin (2 ^ 32) (enc (before place a b))
before-within place a b starts stops =
    greatest-within _
    (add-keeps UpToOne UpToZero UpToOne (λ x y h k. omega (arith, ints, h, k)) (enc (Min (place_form place) b)) (neg_of (enc a))
    (min-up-to (enc (place_form place)) (enc b) stops)
    (neg-keeps NotNegative UpToZero (λ x k. omega (arith, ints, k)) (enc a) starts))

signed-within : (m : ℕ) (to_left : Bool) (t : Tree) → AreWithin m (enc t) → AreWithin m (enc (signed to_left t))
signed-within m true t h = h
signed-within m false t h = neg-within m (enc t) h

pub zero-within : (m : ℕ) → AreWithin m (enc zero_form)
unfolding ratio_of unit
zero-within m = (omega arith, omega arith)

-- ---- sums over sides

more-end : (m n : ℕ) (end : Option ℤ) → m ≤ n → IfSome end (AtMost m) → IfSome end (AtMost n)
more-end m n None h k = tt
more-end m n (Some z) h k = omega (arith, h, k)

pub more-within : (m n : ℕ) (i : Interval) → m ≤ n → AreWithin m i → AreWithin n i
more-within m n i h k = (more-end m n i.lo h k.0, more-end m n i.hi h k.1)

sum-within : (m k : ℕ) (total : Tree) (terms : List Tree) → AreWithin k (enc total) → Each (λ t. AreWithin m (enc t)) terms → AreWithin (k + length terms * m) (enc (plus_all total terms))
sum-within m k total [] h each = more-within k (k + 0 * m) (enc total) (omega arith) h
sum-within m k total (t ∷ ts) h each =
    more-within (k + m + length ts * m) (k + suc (length ts) * m) (enc (plus_all (Add total t) ts)) (omega arith)
    (sum-within m (k + m) (Add total t) ts (add-within k m (enc total) (enc t) h each.0) each.1)

sides-count : (a : Pt) (rest : List Pt) → length (sides_along (a ∷ rest)) ≡ length rest
sides-count a [] = refl
sides-count a (b ∷ rest) = ap suc (sides-count b rest)

ring-count : (outline : List Pt) → length (ring outline) ≡ length outline
ring-count [] = refl
ring-count (first ∷ rest) = sides-count first (rest ++ first ∷ []) ∙ omega (arith, length-append rest (first ∷ []))

module _ (a b : Tree) (starts : Starts (enc a)) (stops : Stops (enc b)) where
  each-within : (passages : List Passage) → Each (λ t. AreWithin (2 ^ 32) (enc t)) (map (counted a b) passages)
  each-within [] = tt
  each-within (passage ∷ passages) =
      (signed-within (2 ^ 32) passage.to_left (before passage.place a b) (before-within passage.place a b starts stops), each-within passages)

  left-within : (passages : List Passage) → length passages ≤ 1024 → AreWithin (2 ^ 42) (enc (left_of_sides passages a b))
  left-within passages few =
      more-within (0 + length (map (counted a b) passages) * 2 ^ 32) (2 ^ 42) (enc (left_of_sides passages a b)) (omega (arith, length-made (counted a b) passages, few))
      (sum-within (2 ^ 32) 0 zero_form (map (counted a b) passages) (zero-within 0) (each-within passages))

  inside-within : (outline : List Pt) (from : Pt) (dir : Dir) → length outline ≤ 1024 → AreWithin (2 ^ 42) (enc (length_inside outline from dir a b))
  inside-within outline from dir few = by (int_lt (area2_of outline) (pos 0)) where
    left : AreWithin (2 ^ 42) (enc (left_of_sides (passages_of (ring outline) from dir) a b))
    left = left-within (passages_of (ring outline) from dir) (omega (arith, fewer (λ side. passage_of side from dir) (ring outline), ring-count outline, few))

    by : (negative : Bool) → AreWithin (2 ^ 42) (enc (if negative then Neg (left_of_sides (passages_of (ring outline) from dir) a b) else left_of_sides (passages_of (ring outline) from dir) a b))
    by true = neg-within (2 ^ 42) _ left
    by false = left

  on-leg-within : (outline : List Pt) (from : Pt) (dir : Dir) (end : Frac) → length outline ≤ 1024 → AreWithin (2 ^ 42) (enc (length_on_leg outline from dir end a b))
  on-leg-within outline from dir end few = by (meets_of outline from dir end) where
    by : (met : Bool) → AreWithin (2 ^ 42) (enc (if met then length_inside outline from dir a b else zero_form))
    by true = inside-within outline from dir few
    by false = zero-within (2 ^ 42)

-- ---- along a path

-- a stretch that begins at 0 or later and ends at 1 or before. That its length has a high end is that these two ends are
-- there, and close enough
pub record IsStretch (u0 u1 : Interval) : Type 0 where
  pub start : Starts u0
  pub end : Ends UpToOne u1
  pub first : ℤ
  pub last : ℤ
  pub first_there : u0.lo ≡ Some first
  pub last_there : u1.hi ≡ Some last
  pub close : unsigned_abs (last +ℤ neg_ℤ first) < 2 ^ 126

stretch-stops : (u0 u1 : Interval) → IsStretch u0 u1 → Stops u1
stretch-stops u0 u1 h = record { ends = h.end; high = h.last; there = h.last_there }

-- what a high or low end that is there keeps
pub end-is : (P : ℤ → Type 0) (end : Option ℤ) (z : ℤ) → end ≡ Some z → IfSome end P → P z
end-is P end z e h = rw e at h

turned-stops : (u0 u1 : Interval) → IsStretch u0 u1 → Stops (sub_of (enc one_form) u0)
unfolding add_of neg_of ratio_of unit
turned-stops u0 u1 h = record {
  ends = less-positive u0 h.start;
  high = pos (2 ^ 32) +ℤ neg_ℤ h.first;
  there =
      ap (λ end. sum_of_ends (Some (pos (2 ^ 32))) (option_map neg_ℤ end)) h.first_there
      ∙ end_of-small (pos (2 ^ 32) +ℤ neg_ℤ h.first)
      (omega (arith, ints, h.close, end-is NotNegative u0.lo h.first h.first_there h.start.0, end-is UpToOne u1.hi h.last h.last_there h.end.1));
}

pub legs-within : (legs : Legs) (s r : Pt) (outline : List Pt) (u0 u1 : Tree) → IsStretch (enc u0) (enc u1) → length outline ≤ 1024 → AreWithin (2 ^ 43) (enc (length_on_legs legs s r outline u0 u1))
legs-within (One dir) s r outline u0 u1 h few =
    more-within (2 ^ 42) (2 ^ 43) _ (omega arith) (inside-within u0 u1 h.start (stretch-stops _ _ h) outline s dir few)
legs-within (Two first second p) s r outline u0 u1 h few =
    add-within (2 ^ 42) (2 ^ 42) _ _
    (on-leg-within u0 (Min u1 (place_form p)) h.start (stops-min _ _ (stretch-stops _ _ h)) outline s first p few)
    (on-leg-within (Sub one_form u1) (Min (Sub one_form u0) (place_form (rest_of p))) (less-up-to-one _ h.end) (stops-min _ _ (turned-stops _ _ h)) outline r second (rest_of p) few)
