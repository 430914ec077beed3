-- A chain isn't long. How far a point stands off the line from S to R grows along a chain up to one point and then
-- falls. While it grows, a coordinate of the plan turns round once at most, and while it falls, once more.
use Rattle.std.proofs.Common.{◌≡◌, ℕ, zero, suc, ◌+◌, ◌≤◌, Bool, true, false, arith, ap, refl, inl, inr, List, [], ◌∷◌, ◌++◌}
use Rattle.std.specs.Prelude.{ℤ, pos, negsuc, neg_ℤ, int_lt, not, ◌&&◌, ◌+ℤ◌, ◌-ℤ◌, ◌*ℤ◌, ◌≤ℤ◌, ◌<ℤ◌, unsigned_abs, Contains}
use Rattle.std.specs.List.{list_all}
use Rattle.std.proofs.lemmas.Int.{ints, by_lt_z}
use Rattle.scene_geom.specs.declared.plan.Pt.{Pt}
use Rattle.scene_geom.specs.Vector.{Vector, cross}
use Rattle.scene_geom.specs.Point.{from_to, orient_of}
use Rattle.scene_geom.specs.Outline.{sides_along}
use Rattle.scene_geom.proofs.Whole.{sub_mul, mul_sub}
use Rattle.scene_geom.proofs.Vectors.{cross-between}
use Rattle.edge_chain.specs.declared.hand.Hand.{Hand}
use Rattle.edge_chain.specs.declared.hand.Hand.TheVariants.{Left, Right}
use Rattle.edge_chain.specs.Chain.{off_line, turns_away, is_outermost, points_beside}
use Rattle.edge_chain.specs.Laws.{way_along_axes, ChainsAreShort}
use Rattle.edge_chain.proofs.Signs.{positive_mul, negative_mul, of_product, four_vectors, of_negatives}
use Rattle.edge_chain.proofs.Hands.{turned}
use Rattle.edge_chain.proofs.Tight.{In, level}
use Rattle.edge_chain.proofs.Stretched.{found_in, each_of}
use Rattle.edge_chain.proofs.Unique.{beside_is}

-- ---- products on a hand
-- how far v turns to a hand from u
abbrev aside : Hand → Vector → Vector → ℤ
aside Left u v = cross u v
aside Right u v = neg_ℤ (cross u v)

four : (hand : Hand) (a b c d : Vector) → aside hand a c *ℤ aside hand b d ≡ aside hand a b *ℤ aside hand c d +ℤ aside hand a d *ℤ aside hand b c
four Left a b c d = four_vectors a b c d
four Right a b c d =
    of_negatives (cross a c) (cross b d) (cross a b) (cross c d) (cross a d) (cross b c) (four_vectors a b c d)

-- what stands off the line from a to b does so of the way from b too
onward : (a b p : Pt) → orient_of a b p ≡ cross (from_to a b) (from_to b p)
onward a b p = simp (mul_sub, sub_mul) (omega (arith, ints))

off_onward : (hand : Hand) (a b p : Pt) → off_line hand a b p ≡ aside hand (from_to a b) (from_to b p)
off_onward Left a b p = onward a b p
off_onward Right a b p = ap neg_ℤ (onward a b p)

off_from : (hand : Hand) (a b p : Pt) → off_line hand a b p ≡ aside hand (from_to a b) (from_to a p)
off_from Left a b p = refl
off_from Right a b p = refl

rise : (hand : Hand) (s r a b : Pt) → off_line hand s r b -ℤ off_line hand s r a ≡ aside hand (from_to s r) (from_to a b)
rise Left s r a b = cross-between (from_to s r) s a b
rise Right s r a b =
    negated (orient_of s r b) (orient_of s r a) (cross (from_to s r) (from_to a b)) (cross-between (from_to s r) s a b) where
      negated : (x y z : ℤ) → x -ℤ y ≡ z → neg_ℤ x -ℤ neg_ℤ y ≡ neg_ℤ z
      negated x y z e = omega (arith, ints)

-- ---- signs
positive_product : (a b : ℤ) → a <ℤ pos 0 → b <ℤ pos 0 → pos 0 <ℤ (a *ℤ b)
positive_product (negsuc m) (negsuc n) h k = omega (arith, ints)
positive_product (pos m) b h k = absurd (omega (arith, ints))
positive_product (negsuc m) (pos n) h k = absurd (omega (arith, ints))

mixed_product : (a b : ℤ) → pos 0 ≤ℤ a → b ≤ℤ pos 0 → (a *ℤ b) ≤ℤ pos 0
mixed_product (pos m) (pos zero) h k = omega (arith, ints)
mixed_product (pos m) (pos (suc n)) h k = absurd (omega (arith, ints))
mixed_product (pos m) (negsuc n) h k = omega (arith, ints)
mixed_product (negsuc m) b h k = absurd (omega (arith, ints))

-- after a way that doesn't rise the next one falls
falls_on : (hv hw hu vu wu vw : ℤ) → hw *ℤ vu ≡ hv *ℤ wu +ℤ hu *ℤ vw → hv ≤ℤ pos 0 → hu <ℤ pos 0 → vu ≤ℤ pos 0 → wu ≤ℤ pos 0 → vw <ℤ pos 0 → hw <ℤ pos 0
falls_on hv hw hu vu wu vw e h j k l m = by_lt_z hw (pos 0) (λ less. less) (λ least.
    let first = mixed_product hw vu least k in
    let second = negative_mul hv wu h l in
    let third = positive_product hu vw j m in
    absurd (omega (arith, ints)))

-- what doesn't fall while the string rises goes on so, and what doesn't rise while it falls
keeps_on : (gv gw hv hw k vw : ℤ) → gv *ℤ hw ≡ k *ℤ vw +ℤ gw *ℤ hv → pos 0 ≤ℤ k → vw <ℤ pos 0 → pos 0 ≤ℤ gv → pos 0 <ℤ hv → pos 0 <ℤ hw → pos 0 ≤ℤ gw
keeps_on gv gw hv hw k vw e hk hvw hg h j =
    let first = mixed_product k vw hk (omega (arith, ints)) in
    let second = positive_mul gv hw hg (omega (arith, ints)) in
    of_product gw hv h (omega (arith, ints))

keeps_back : (gv gw hv hw k vw : ℤ) → gv *ℤ hw ≡ k *ℤ vw +ℤ gw *ℤ hv → pos 0 ≤ℤ k → vw <ℤ pos 0 → gv <ℤ pos 0 → hv ≤ℤ pos 0 → hw <ℤ pos 0 → gw <ℤ pos 0
keeps_back gv gw hv hw k vw e hk hvw hg h j = by_lt_z gw (pos 0) (λ less. less) (λ least.
    let first = mixed_product k vw hk (omega (arith, ints)) in
    let second = positive_product gv hw hg j in
    let third = mixed_product gw hv least h in
    absurd (omega (arith, ints)))

-- ---- strings
-- a string that came from a to b goes on by some points to its end: b stands off the line, and the string turns there,
-- and s isn't outside of its way
abbrev Goes : Hand → Pt → Pt → Pt → Pt → List Pt → Type 0
Goes hand s r a b [] = Unit {0}
Goes hand s r a b (c ∷ rest) =
    (pos 0 <ℤ off_line hand s r b) × (off_line hand a b c <ℤ pos 0) × (off_line hand b c s ≤ℤ pos 0) × Goes hand s r b c rest

-- how far a way rises off the line
abbrev rises : Hand → Pt → Pt → Pt → Pt → ℤ
rises hand s r a b = aside hand (from_to s r) (from_to a b)

falls : (hand : Hand) (s r a b c : Pt) → pos 0 <ℤ off_line hand s r b → off_line hand a b c <ℤ pos 0 → off_line hand a b s ≤ℤ pos 0 → off_line hand b c s ≤ℤ pos 0
    → rises hand s r a b ≤ℤ pos 0 → rises hand s r b c <ℤ pos 0
falls hand s r a b c off turn within after h =
    let v = from_to a b in let w = from_to b c in let u = from_to b s in let d = from_to s r in
    let e1 = off_onward hand a b c in let e2 = off_onward hand a b s in let e3 = off_from hand b c s in
    let e4 = rise hand s r b s in let e5 = level hand r s in let e6 = turned hand s r s in let e7 = turned hand r s s in
    falls_on (aside hand d v) (aside hand d w) (aside hand d u) (aside hand v u) (aside hand w u) (aside hand v w)
    (four hand d v w u) h (omega (arith, ints)) (omega (arith, ints)) (omega (arith, ints)) (omega (arith, ints))

-- ---- a quantity of points, of at most 4,000,000, that changes along a way as far as the way turns from e
abbrev change : (Pt → ℤ) → Pt → Pt → ℕ
change g a b = unsigned_abs (g b -ℤ g a)

abbrev changes : (Pt → ℤ) → Pt → List Pt → ℕ
changes g a [] = 0
changes g a (b ∷ rest) = change g a b + changes g b rest

abbrev Within : (Pt → ℤ) → Type 0
Within g = (p : Pt) → (neg_ℤ (pos 4000000) ≤ℤ g p) × (g p ≤ℤ pos 4000000)

abbrev Follows : Hand → Vector → (Pt → ℤ) → Type 0
Follows hand e g = (a b : Pt) → g b -ℤ g a ≡ aside hand e (from_to a b)

module _ (hand : Hand) (s r : Pt) (e : Vector) (g : Pt → ℤ) (ahead : pos 0 ≤ℤ aside hand e (from_to s r)) (follows : Follows hand e g) (within : Within g) where
  turn : (a b c : Pt) → (g b -ℤ g a) *ℤ rises hand s r b c ≡ aside hand e (from_to s r) *ℤ aside hand (from_to a b) (from_to b c) +ℤ (g c -ℤ g b) *ℤ rises hand s r a b
  turn a b c =
      rw (follows a b, follows b c) (four hand e (from_to s r) (from_to a b) (from_to b c))

  turns : (a b c : Pt) → off_line hand a b c <ℤ pos 0 → aside hand (from_to a b) (from_to b c) <ℤ pos 0
  turns a b c h = let e1 = off_onward hand a b c in omega (arith, ints)

  on : (a b c : Pt) → off_line hand a b c <ℤ pos 0 → pos 0 ≤ℤ (g b -ℤ g a) → pos 0 <ℤ rises hand s r a b → pos 0 <ℤ rises hand s r b c → pos 0 ≤ℤ (g c -ℤ g b)
  on a b c h hg up more =
      keeps_on (g b -ℤ g a) (g c -ℤ g b) (rises hand s r a b) (rises hand s r b c) (aside hand e (from_to s r)) (aside hand (from_to a b) (from_to b c))
      (turn a b c) ahead (turns a b c h) hg up more

  back : (a b c : Pt) → off_line hand a b c <ℤ pos 0 → (g b -ℤ g a) <ℤ pos 0 → rises hand s r a b ≤ℤ pos 0 → rises hand s r b c <ℤ pos 0 → (g c -ℤ g b) <ℤ pos 0
  back a b c h hg up more =
      keeps_back (g b -ℤ g a) (g c -ℤ g b) (rises hand s r a b) (rises hand s r b c) (aside hand e (from_to s r)) (aside hand (from_to a b) (from_to b c))
      (turn a b c) ahead (turns a b c h) hg up more

  -- once it doesn't rise: after the quantity has turned back, and before
  falling_back : (a b : Pt) (rest : List Pt) → off_line hand a b s ≤ℤ pos 0 → Goes hand s r a b rest → rises hand s r a b ≤ℤ pos 0 → (g b -ℤ g a) <ℤ pos 0
      → pos (changes g b rest) ≤ℤ (g b +ℤ pos 4000000)
  falling_back a b [] out goes h hg = let w = (within b).0 in omega (arith, ints)
  falling_back a b (c ∷ rest) out goes h hg =
      let down = falls hand s r a b c goes.0 goes.1 out goes.2 h in
      let less = back a b c goes.1 hg h down in
      let more = falling_back b c rest goes.2 goes.3 (omega (arith, ints)) less in
      sum_down (g b) (g c) (changes g c rest) less more
    where
      sum_down : (p q : ℤ) (n : ℕ) → (q -ℤ p) <ℤ pos 0 → pos n ≤ℤ (q +ℤ pos 4000000) → pos (unsigned_abs (q -ℤ p) + n) ≤ℤ (p +ℤ pos 4000000)
      sum_down p q n less more = omega (arith, ints)

  -- what is left after a way on, and after a way back
  then_on : (p q : ℤ) (n : ℕ) → pos 0 ≤ℤ (q -ℤ p) → pos n ≤ℤ (pos 12000000 -ℤ q) → pos (unsigned_abs (q -ℤ p) + n) ≤ℤ (pos 12000000 -ℤ p)
  then_on p q n less more = omega (arith, ints)

  then_back : (p q : ℤ) (n : ℕ) → p ≤ℤ pos 4000000 → (q -ℤ p) <ℤ pos 0 → pos n ≤ℤ (q +ℤ pos 4000000) → pos (unsigned_abs (q -ℤ p) + n) ≤ℤ (pos 12000000 -ℤ p)
  then_back p q n w less more = omega (arith, ints)

  falling : (a b : Pt) (rest : List Pt) → off_line hand a b s ≤ℤ pos 0 → Goes hand s r a b rest → rises hand s r a b ≤ℤ pos 0
      → pos (changes g b rest) ≤ℤ (pos 12000000 -ℤ g b)
  falling a b [] out goes h = let w = (within b).1 in omega (arith, ints)
  falling a b (c ∷ rest) out goes h =
      let down = falls hand s r a b c goes.0 goes.1 out goes.2 h in
      let level : rises hand s r b c ≤ℤ pos 0 = omega (arith, ints) in
      by_lt_z (g c -ℤ g b) (pos 0)
      (λ less. then_back (g b) (g c) (changes g c rest) (within b).1 less (falling_back b c rest goes.2 goes.3 level less))
      (λ least. then_on (g b) (g c) (changes g c rest) least (falling b c rest goes.2 goes.3 level))

  -- while it rises: after the quantity has turned on, and before
  rising_on : (a b : Pt) (rest : List Pt) → off_line hand a b s ≤ℤ pos 0 → Goes hand s r a b rest → pos 0 <ℤ rises hand s r a b → pos 0 ≤ℤ (g b -ℤ g a)
      → pos (changes g b rest) ≤ℤ (pos 12000000 -ℤ g b)
  rising_on a b [] out goes h hg = let w = (within b).1 in omega (arith, ints)
  rising_on a b (c ∷ rest) out goes h hg =
      by_lt_z (pos 0) (rises hand s r b c)
      (λ up. let least = on a b c goes.1 hg h up in then_on (g b) (g c) (changes g c rest) least (rising_on b c rest goes.2 goes.3 up least))
      (λ down. by_lt_z (g c -ℤ g b) (pos 0)
      (λ less. then_back (g b) (g c) (changes g c rest) (within b).1 less (falling_back b c rest goes.2 goes.3 down less))
      (λ least. then_on (g b) (g c) (changes g c rest) least (falling b c rest goes.2 goes.3 down)))

  rising : (a b : Pt) (rest : List Pt) → off_line hand a b s ≤ℤ pos 0 → Goes hand s r a b rest → pos (changes g b rest) ≤ℤ (g b +ℤ pos 20000000)
  rising a b [] out goes = let w = (within b).0 in omega (arith, ints)
  rising a b (c ∷ rest) out goes =
      by_lt_z (g c -ℤ g b) (pos 0)
      (λ less. by_lt_z (pos 0) (rises hand s r b c)
      (λ up. then_less (g b) (g c) (changes g c rest) less (rising b c rest goes.2 goes.3))
      (λ down. longer_back (g b) _ (within b).0 (then_back (g b) (g c) (changes g c rest) (within b).1 less (falling_back b c rest goes.2 goes.3 down less))))
      (λ least. by_lt_z (pos 0) (rises hand s r b c)
      (λ up. longer_back (g b) _ (within b).0 (then_on (g b) (g c) (changes g c rest) least (rising_on b c rest goes.2 goes.3 up least)))
      (λ down. longer_back (g b) _ (within b).0 (then_on (g b) (g c) (changes g c rest) least (falling b c rest goes.2 goes.3 down))))
    where
      then_less : (p q : ℤ) (n : ℕ) → (q -ℤ p) <ℤ pos 0 → pos n ≤ℤ (q +ℤ pos 20000000) → pos (unsigned_abs (q -ℤ p) + n) ≤ℤ (p +ℤ pos 20000000)
      then_less p q n less more = omega (arith, ints)

      longer_back : (p : ℤ) (n : ℕ) → neg_ℤ (pos 4000000) ≤ℤ p → pos n ≤ℤ (pos 12000000 -ℤ p) → pos n ≤ℤ (p +ℤ pos 20000000)
      longer_back p n w h = omega (arith, ints)

  -- from s over the first point to the end
  first : (b : Pt) (rest : List Pt) → pos 0 <ℤ off_line hand s r b → off_line hand s b s ≤ℤ pos 0 → Goes hand s r s b rest → changes g s (b ∷ rest) ≤ 24000000
  first b rest off out goes =
      let up : pos 0 <ℤ rises hand s r s b = (let e4 = rise hand s r s b in let e5 = level hand r s in let e6 = turned hand s r s in let e7 = turned hand r s s in omega (arith, ints)) in
      by_lt_z (g b -ℤ g s) (pos 0)
      (λ less. back_first (g s) (g b) (changes g b rest) (within s).1 less (rising s b rest out goes))
      (λ least. on_first (g s) (g b) (changes g b rest) (within s).0 least (rising_on s b rest out goes up least))
    where
      back_first : (p q : ℤ) (n : ℕ) → p ≤ℤ pos 4000000 → (q -ℤ p) <ℤ pos 0 → pos n ≤ℤ (q +ℤ pos 20000000) → unsigned_abs (q -ℤ p) + n ≤ 24000000
      back_first p q n w less more = omega (arith, ints)

      on_first : (p q : ℤ) (n : ℕ) → neg_ℤ (pos 4000000) ≤ℤ p → pos 0 ≤ℤ (q -ℤ p) → pos n ≤ℤ (pos 12000000 -ℤ q) → unsigned_abs (q -ℤ p) + n ≤ 24000000
      on_first p q n w least more = omega (arith, ints)

-- ---- a coordinate
negated_changes : (f : Pt → ℤ) (a : Pt) (rest : List Pt) → changes (λ p. neg_ℤ (f p)) a rest ≡ changes f a rest
negated_changes f a [] = refl
negated_changes f a (b ∷ rest) = same (f a) (f b) _ _ (negated_changes f b rest) where
  same : (p q : ℤ) (m n : ℕ) → m ≡ n → unsigned_abs (neg_ℤ q -ℤ neg_ℤ p) + m ≡ unsigned_abs (q -ℤ p) + n
  same p q m n e = omega (arith, ints)

-- whichever way it leads from s to r
either_way : (hand : Hand) (s r : Pt) (e e' : Vector) (f : Pt → ℤ) → Follows hand e f → Follows hand e' (λ p. neg_ℤ (f p)) → Within f
    → (b : Pt) (rest : List Pt) → pos 0 <ℤ off_line hand s r b → off_line hand s b s ≤ℤ pos 0 → Goes hand s r s b rest → changes f s (b ∷ rest) ≤ 24000000
either_way hand s r e e' f follows follows' within b rest off out goes =
    let ahead = follows s r in let behind = follows' s r in
    by_lt_z (f r -ℤ f s) (pos 0)
    (λ less. rw (← negated_changes f s (b ∷ rest)) (first hand s r e' (λ p. neg_ℤ (f p)) (omega (arith, ints)) follows' within' b rest off out goes))
    (λ least. first hand s r e f (omega (arith, ints)) follows within b rest off out goes)
  where
    within' : Within (λ p. neg_ℤ (f p))
    within' p = let w = within p in (omega (arith, ints, w.1), omega (arith, ints, w.0))

by_x : (hand : Hand) (s r b : Pt) (rest : List Pt) → pos 0 <ℤ off_line hand s r b → off_line hand s b s ≤ℤ pos 0 → Goes hand s r s b rest → changes (λ p. p.x) s (b ∷ rest) ≤ 24000000
by_x Left s r b rest off out goes =
    either_way Left s r (record { x = pos 0; y = negsuc 0 }) (record { x = pos 0; y = pos 1 }) (λ p. p.x)
    (λ a b. omega (arith, ints)) (λ a b. omega (arith, ints)) (λ p. (omega (arith, ints, p.x_in_plan.low), omega (arith, ints, p.x_in_plan.high))) b rest off out goes
by_x Right s r b rest off out goes =
    either_way Right s r (record { x = pos 0; y = pos 1 }) (record { x = pos 0; y = negsuc 0 }) (λ p. p.x)
    (λ a b. omega (arith, ints)) (λ a b. omega (arith, ints)) (λ p. (omega (arith, ints, p.x_in_plan.low), omega (arith, ints, p.x_in_plan.high))) b rest off out goes

by_y : (hand : Hand) (s r b : Pt) (rest : List Pt) → pos 0 <ℤ off_line hand s r b → off_line hand s b s ≤ℤ pos 0 → Goes hand s r s b rest → changes (λ p. p.y) s (b ∷ rest) ≤ 24000000
by_y Left s r b rest off out goes =
    either_way Left s r (record { x = pos 1; y = pos 0 }) (record { x = negsuc 0; y = pos 0 }) (λ p. p.y)
    (λ a b. omega (arith, ints)) (λ a b. omega (arith, ints)) (λ p. (omega (arith, ints, p.y_in_plan.low), omega (arith, ints, p.y_in_plan.high))) b rest off out goes
by_y Right s r b rest off out goes =
    either_way Right s r (record { x = negsuc 0; y = pos 0 }) (record { x = pos 1; y = pos 0 }) (λ p. p.y)
    (λ a b. omega (arith, ints)) (λ a b. omega (arith, ints)) (λ p. (omega (arith, ints, p.y_in_plan.low), omega (arith, ints, p.y_in_plan.high))) b rest off out goes

both_axes : (a : Pt) (rest : List Pt) → way_along_axes (a ∷ rest) ≡ changes (λ p. p.x) a rest + changes (λ p. p.y) a rest
both_axes a [] = refl
both_axes a (b ∷ rest) = sum (unsigned_abs (b.x -ℤ a.x)) (unsigned_abs (b.y -ℤ a.y)) _ _ _ (both_axes b rest) where
  sum : (x y w m n : ℕ) → w ≡ m + n → (x + y) + w ≡ (x + m) + (y + n)
  sum x y w m n e = omega (arith, e)

-- ---- a chain
both_true : (x y : Bool) → (x && y) ≡ true → (x ≡ true) × (y ≡ true)
both_true true y e = (refl, e)
both_true false y e = cc

below : (a : ℤ) → int_lt a (pos 0) ≡ true → a <ℤ pos 0
below a e = omega (arith, ints)

no_more : (z : ℤ) → not (int_lt (pos 0) z) ≡ true → z ≤ℤ pos 0
no_more z e = by_test (int_lt (pos 0) z) refl e where
  by_test : (t : Bool) → int_lt (pos 0) z ≡ t → not t ≡ true → z ≤ℤ pos 0
  by_test true e f = cc
  by_test false e f = omega (arith, ints)

-- s isn't outside of a way
clear : (hand : Hand) (s : Pt) (others : List Pt) (a b : Pt) → is_outermost hand (s ∷ others) (record { from = a; to = b }) ≡ true → off_line hand a b s ≤ℤ pos 0
clear hand s others a b e = no_more (off_line hand a b s) (both_true (not (int_lt (pos 0) (off_line hand a b s))) _ e).0

goes_of : (hand : Hand) (s r : Pt) (others : List Pt) (a b : Pt) (chain : List Pt) → ((p : Pt) → In p (b ∷ chain) → pos 0 <ℤ off_line hand s r p)
    → turns_away hand (a ∷ b ∷ (chain ++ r ∷ [])) ≡ true → list_all (is_outermost hand (s ∷ others)) (sides_along (b ∷ (chain ++ r ∷ []))) ≡ true
    → Goes hand s r a b (chain ++ r ∷ [])
goes_of hand s r others a b [] stand turns out = (
  stand b (inl refl),
  below (off_line hand a b r) (both_true (int_lt (off_line hand a b r) (pos 0)) true turns).0,
  clear hand s others b r (both_true (is_outermost hand (s ∷ others) (record { from = b; to = r })) true out).0,
  tt,
)
goes_of hand s r others a b (c ∷ chain) stand turns out =
    let turn = both_true (int_lt (off_line hand a b c) (pos 0)) _ turns in
    let ways = both_true (is_outermost hand (s ∷ others) (record { from = b; to = c })) _ out in (
      stand b (inl refl),
      below (off_line hand a b c) turn.0,
      clear hand s others b c ways.0,
      goes_of hand s r others b c chain (λ p m. stand p (inr m)) turn.1 ways.1,
    )

pub chains_are_short : ChainsAreShort
chains_are_short points s r hand [] is =
    let x = along s.x r.x s.x_in_plan.low s.x_in_plan.high r.x_in_plan.low r.x_in_plan.high in
    let y = along s.y r.y s.y_in_plan.low s.y_in_plan.high r.y_in_plan.low r.y_in_plan.high in
    omega (arith, x, y)
  where
    along : (p q : ℤ) → neg_ℤ (pos 4000000) ≤ℤ p → p ≤ℤ pos 4000000 → neg_ℤ (pos 4000000) ≤ℤ q → q ≤ℤ pos 4000000 → unsigned_abs (q -ℤ p) ≤ 8000000
    along p q h j k l = omega (arith, ints)
chains_are_short points s r hand (b ∷ chain) is =
    let x = by_x hand s r b (chain ++ r ∷ []) (stand b (inl refl)) out goes in
    let y = by_y hand s r b (chain ++ r ∷ []) (stand b (inl refl)) out goes in
    rw (both_axes s (b ∷ (chain ++ r ∷ []))) (omega (arith, x, y))
  where
    beside : List Pt
    beside = points_beside points s r hand

    out : off_line hand s b s ≤ℤ pos 0
    out = let e1 = turned hand s b s in let e2 = turned hand b s s in let none = level hand b s in omega (arith, ints)

    stand : (p : Pt) → In p (b ∷ chain) → pos 0 <ℤ off_line hand s r p
    stand p m =
        beside_is hand s r points p (found_in p beside (each_of (Contains beside) (b ∷ chain) is.members p m))

    parts : (turns_away hand (s ∷ b ∷ (chain ++ r ∷ [])) ≡ true) × (list_all (is_outermost hand (s ∷ r ∷ beside)) (sides_along (s ∷ b ∷ (chain ++ r ∷ []))) ≡ true)
    parts = both_true (turns_away hand (s ∷ b ∷ (chain ++ r ∷ []))) _ is.stretched

    goes : Goes hand s r s b (chain ++ r ∷ [])
    goes =
        goes_of hand s r (r ∷ beside) s b chain stand parts.0
        (both_true (is_outermost hand (s ∷ r ∷ beside) (record { from = s; to = b })) _ parts.1).1
