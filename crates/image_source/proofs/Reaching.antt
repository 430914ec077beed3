-- How far along a side points lie, from the origin: what the reaches of a side's ends and of both places tell.
use Rattle.std.proofs.Common.{◌≡◌, ℕ, zero, suc, ◌+◌, ◌*◌, ◌≤◌, ◌<◌, refl, ap, sym, ◌∙◌, inl, inr, arith}
use Rattle.std.specs.Prelude.{ℤ, pos, neg_ℤ, ◌+ℤ◌, ◌-ℤ◌, ◌*ℤ◌, ◌≤ℤ◌, ◌<ℤ◌, unsigned_abs, Bool, true, false, ◌&&◌, int_lt, int_le, ◌⊎◌}
use Rattle.std.proofs.lemmas.Int.{ints}
use Rattle.scene_geom.specs.declared.plan.Pt.{Pt}
use Rattle.scene_geom.specs.declared.plan.Side.{Side}
use Rattle.scene_geom.specs.Point.{along, from_to, orient_of}
use Rattle.scene_geom.specs.Reflection.{squared_length}
use Rattle.scene_geom.proofs.Whole.{sub_mul, abs-mul}
use Rattle.scene_geom.proofs.Walls.{dot-abs, squared_length-is}
use Rattle.image_source.specs.Mirrors.{ahead}
use Rattle.image_source.specs.inner.Facing.{reach, least_reach, reach_end, is_among, IsPlaced}
use mir.Syntax.{w32, w64}
use mir.Val.{Fits, to_z, of_z}
use lib.Dec.{T}
use lib.Signed.{non_neg}

-- ---- reaches and distances from a side's start

difference : (px py fx fy u v : ℤ) → (px -ℤ fx) *ℤ u +ℤ (py -ℤ fy) *ℤ v ≡ (px *ℤ u +ℤ py *ℤ v) -ℤ (fx *ℤ u +ℤ fy *ℤ v)
difference px py fx fy u v = omega (arith, ints, sub_mul px fx u, sub_mul py fy v)

pub ahead-reach : (side : Side) (p : Pt) → ahead side p ≡ reach side p -ℤ reach side side.from
ahead-reach side p = difference p.x p.y side.from.x side.from.y (along side).x (along side).y

pub length-reach : (side : Side) → pos (squared_length side) ≡ reach side side.to -ℤ reach side side.from
length-reach side = sym (dot-abs (along side)) ∙ ahead-reach side side.to

-- ---- bounds

pub sum-within : (a b c d : ℤ) → unsigned_abs a ≤ 4000000 → unsigned_abs b ≤ 4000000 → unsigned_abs c ≤ 8000000 → unsigned_abs d ≤ 8000000 → unsigned_abs (a *ℤ c +ℤ b *ℤ d) ≤ 64000000000000
sum-within a b c d ha hb hc hd = sums (a *ℤ c) (b *ℤ d) (abs-mul a c 4000000 8000000 ha hc) (abs-mul b d 4000000 8000000 hb hd) where
  sums : (x y : ℤ) → unsigned_abs x ≤ 32000000000000 → unsigned_abs y ≤ 32000000000000 → unsigned_abs (x +ℤ y) ≤ 64000000000000
  sums x y h k = omega (arith, ints)

pub across-within : (side : Side) → unsigned_abs (along side).x ≤ 8000000
across-within side = omega (arith, ints, side.from.x_in_plan.low, side.from.x_in_plan.high, side.to.x_in_plan.low, side.to.x_in_plan.high)

pub upward-within : (side : Side) → unsigned_abs (along side).y ≤ 8000000
upward-within side = omega (arith, ints, side.from.y_in_plan.low, side.from.y_in_plan.high, side.to.y_in_plan.low, side.to.y_in_plan.high)

pub reach-within : (side : Side) (p : Pt) → unsigned_abs (reach side p) ≤ 64000000000000
reach-within side p =
    sum-within p.x p.y (along side).x (along side).y
    (omega (arith, ints, p.x_in_plan.low, p.x_in_plan.high)) (omega (arith, ints, p.y_in_plan.low, p.y_in_plan.high))
    (across-within side) (upward-within side)

pub least-within : (start receiver first : ℤ) → unsigned_abs start ≤ 64000000000000 → first ≡ least_reach start receiver → unsigned_abs first ≤ 64000000000001
least-within start receiver first h is = by (int_le receiver start) refl where
  by : (test : Bool) → int_le receiver start ≡ test → unsigned_abs first ≤ 64000000000001
  by true e = let here : first ≡ start +ℤ pos 1 = rw e at is in omega (arith, ints)
  by false e = let here : first ≡ neg_ℤ (pos 64000000000000) = rw e at is in omega (arith, ints)

pub end-within : (finish receiver end : ℤ) → unsigned_abs finish ≤ 64000000000000 → end ≡ reach_end finish receiver → unsigned_abs end ≤ 64000000000001
end-within finish receiver end h is = by (int_le finish receiver) refl where
  by : (test : Bool) → int_le finish receiver ≡ test → unsigned_abs end ≤ 64000000000001
  by true e = let here : end ≡ finish = rw e at is in omega (arith, ints)
  by false e = let here : end ≡ pos 64000000000001 = rw e at is in omega (arith, ints)

-- what the numbers of a side keep
pub first-within : (side : Side) (at : Pt) (dx dy first : ℤ) (count : ℕ) (off : ℤ) → IsPlaced side at dx dy first count off → unsigned_abs first ≤ 64000000000001
first-within side at dx dy first count off h = least-within (reach side side.from) (reach side at) first (reach-within side side.from) h.begins

pub count-within : (side : Side) (at : Pt) (dx dy first : ℤ) (count : ℕ) (off : ℤ) → IsPlaced side at dx dy first count off → count ≤ 256000000000000
count-within side at dx dy first count off h =
    few first (first +ℤ pos count) count (first-within side at dx dy first count off h)
    (end-within (reach side side.to) (reach side at) (first +ℤ pos count) (reach-within side side.to) h.ends) refl
  where
    few : (a b : ℤ) (n : ℕ) → unsigned_abs a ≤ 64000000000001 → unsigned_abs b ≤ 64000000000001 → a +ℤ pos n ≡ b → n ≤ 256000000000000
    few a b n ha hb e = omega (arith, ints)

-- ---- a side that has a point off its line is longer than 0, so that some reaches stand between its ends

pub long-some : (side : Side) (p : Pt) → (orient_of side.from side.to p ≡ pos 0 → ⊥) → 0 < squared_length side
long-some side p off = rw (squared_length-is side) (by (unsigned_abs (along side).x) (unsigned_abs (along side).y) refl refl) where
  flat : (a b c d : ℤ) → unsigned_abs a ≡ 0 → unsigned_abs b ≡ 0 → a *ℤ d -ℤ b *ℤ c ≡ pos 0
  flat a b c d e f =
      let left : unsigned_abs (a *ℤ d) ≤ 0 = omega (arith, abs-mul a d 0 (unsigned_abs d) (omega arith) (omega arith)) in
      let right : unsigned_abs (b *ℤ c) ≤ 0 = omega (arith, abs-mul b c 0 (unsigned_abs c) (omega arith) (omega arith)) in
      omega (arith, ints, left, right)

  by : (x y : ℕ) → unsigned_abs (along side).x ≡ x → unsigned_abs (along side).y ≡ y → 0 < x * x + y * y
  by zero zero e f = absurd (off (flat (along side).x (along side).y (from_to side.from p).x (from_to side.from p).y e f))
  by zero (suc y) e f = omega arith
  by (suc x) y e f = omega arith

pub not-less : (start finish receiver : ℤ) → unsigned_abs start ≤ 64000000000000 → unsigned_abs finish ≤ 64000000000000 → start <ℤ finish → least_reach start receiver ≤ℤ reach_end finish receiver
not-less start finish receiver hs hf long = by (int_le receiver start) (int_le finish receiver) refl refl where
  by : (a b : Bool) → int_le receiver start ≡ a → int_le finish receiver ≡ b → least_reach start receiver ≤ℤ reach_end finish receiver
  by true true e f = rw (e, f) (omega (arith, ints))
  by true false e f = rw (e, f) (omega (arith, ints))
  by false true e f = rw (e, f) (omega (arith, ints))
  by false false e f = rw (e, f) (omega (arith, ints))

-- where the reaches begin and end that a side is to keep
pub record IsBounded (side : Side) (at : Pt) (first end : ℤ) : Type 0 where
  pub begins : first ≡ least_reach (reach side side.from) (reach side at)
  pub ends : end ≡ reach_end (reach side side.to) (reach side at)
  pub first_within : unsigned_abs first ≤ 64000000000001
  pub end_within : unsigned_abs end ≤ 64000000000001
  pub in_order : first ≤ℤ end

pub bounded : (side : Side) (at : Pt) (first end : ℤ) → first ≡ least_reach (reach side side.from) (reach side at) → end ≡ reach_end (reach side side.to) (reach side at)
    → 0 < squared_length side → IsBounded side at first end
bounded side at first end begins ends long =
    let start = reach-within side side.from in
    let finish = reach-within side side.to in
    record {
      begins = begins;
      ends = ends;
      first_within = least-within (reach side side.from) (reach side at) first start begins;
      end_within = end-within (reach side side.to) (reach side at) end finish ends;
      in_order =
          rw (begins, ends)
          (not-less (reach side side.from) (reach side side.to) (reach side at) start finish (longer _ _ (squared_length side) (length-reach side) long));
    }
  where
    longer : (start finish : ℤ) (n : ℕ) → pos n ≡ finish -ℤ start → 0 < n → start <ℤ finish
    longer start finish n e h = omega (arith, ints)

-- ---- what the code has of them

pub still-wide : (z : ℤ) → unsigned_abs z ≤ 256000000000000 → to_z w64 (of_z w64 z) ≡ z
still-wide z h = omega (arith, ints)

pub still-step : (z : ℤ) → unsigned_abs z ≤ 8000000 → to_z w32 (of_z w32 z) ≡ z
still-step z h = omega (arith, ints)

-- a reach by a step that was passed on in 32 bits
pub reached : (side : Side) (p : Pt) (r dx dy : ℤ) → dx ≡ (along side).x → dy ≡ (along side).y → unsigned_abs r ≤ 64000000000000
    → r ≡ p.x *ℤ to_z w32 (of_z w32 dx) +ℤ p.y *ℤ to_z w32 (of_z w32 dy) → to_z w64 (of_z w64 r) ≡ reach side p
reached side p r dx dy across upward small is =
    still-wide r (omega (arith, small))
    ∙ is
    ∙ by _ _ (ap (λ (z : ℤ). to_z w32 (of_z w32 z)) across ∙ still-step (along side).x (across-within side)) (ap (λ (z : ℤ). to_z w32 (of_z w32 z)) upward ∙ still-step (along side).y (upward-within side))
  where
    by : (u v : ℤ) → u ≡ (along side).x → v ≡ (along side).y → p.x *ℤ u +ℤ p.y *ℤ v ≡ reach side p
    by u v e f = ap (λ (z : ℤ). p.x *ℤ z +ℤ p.y *ℤ v) e ∙ ap (λ (z : ℤ). p.x *ℤ (along side).x +ℤ p.y *ℤ z) f

-- how many reaches there are
wide : (a b : ℤ) → unsigned_abs a ≤ 64000000000001 → unsigned_abs b ≤ 64000000000001 → unsigned_abs (b -ℤ a) ≤ 256000000000000
wide a b h k = omega (arith, ints)

pub count-fits : (first end : ℤ) → unsigned_abs first ≤ 64000000000001 → unsigned_abs end ≤ 64000000000001 → first ≤ℤ end
    → T (non_neg (to_z w64 (of_z w64 (to_z w64 (of_z w64 end) -ℤ to_z w64 (of_z w64 first))))) × Fits w64 (unsigned_abs (to_z w64 (of_z w64 (to_z w64 (of_z w64 end) -ℤ to_z w64 (of_z w64 first)))))
count-fits first end hf he order =
    rw (still-wide first (omega (arith, hf)), still-wide end (omega (arith, he)), still-wide (end -ℤ first) (wide first end hf he)) (omega (arith, ints), few (end -ℤ first) (wide first end hf he))
  where
    few : (z : ℤ) → unsigned_abs z ≤ 256000000000000 → Fits w64 (unsigned_abs z)
    few z h = omega (arith, ints)

pub counted : (first end : ℤ) → unsigned_abs first ≤ 64000000000001 → unsigned_abs end ≤ 64000000000001 → first ≤ℤ end
    → to_z w64 (of_z w64 first) +ℤ pos (unsigned_abs (to_z w64 (of_z w64 (to_z w64 (of_z w64 end) -ℤ to_z w64 (of_z w64 first))))) ≡ end
counted first end hf he order =
    rw (still-wide first (omega (arith, hf)), still-wide end (omega (arith, he)), still-wide (end -ℤ first) (wide first end hf he)) (omega (arith, ints))

-- ---- sources that a side passes together with the receiver

passed-before : (start receiver source first : ℤ) → unsigned_abs source ≤ 64000000000000 → first ≡ least_reach start receiver → int_le first source ≡ false → (source ≤ℤ start) × (receiver ≤ℤ start)
passed-before start receiver source first small is below = by (int_le receiver start) refl where
  by : (test : Bool) → int_le receiver start ≡ test → (source ≤ℤ start) × (receiver ≤ℤ start)
  by true e = let here : first ≡ start +ℤ pos 1 = rw e at is in (omega (arith, ints), omega (arith, ints))
  by false e = let here : first ≡ neg_ℤ (pos 64000000000000) = rw e at is in absurd (omega (arith, ints))

passed-behind : (finish receiver source end : ℤ) → unsigned_abs source ≤ 64000000000000 → end ≡ reach_end finish receiver → int_lt source end ≡ false → (finish ≤ℤ source) × (finish ≤ℤ receiver)
passed-behind finish receiver source end small is above = by (int_le finish receiver) refl where
  by : (test : Bool) → int_le finish receiver ≡ test → (finish ≤ℤ source) × (finish ≤ℤ receiver)
  by true e = let here : end ≡ finish = rw e at is in (omega (arith, ints), omega (arith, ints))
  by false e = let here : end ≡ pos 64000000000001 = rw e at is in absurd (omega (arith, ints))

passed-either : (start finish receiver source first : ℤ) (count : ℕ) → unsigned_abs source ≤ 64000000000000
    → first ≡ least_reach start receiver → first +ℤ pos count ≡ reach_end finish receiver → is_among source first count ≡ false
    → ((source ≤ℤ start) × (receiver ≤ℤ start)) ⊎ ((finish ≤ℤ source) × (finish ≤ℤ receiver))
passed-either start finish receiver source first count small begins ends h = by (int_le first source) refl h where
  by : (test : Bool) → int_le first source ≡ test → (test && int_lt source (first +ℤ pos count)) ≡ false → ((source ≤ℤ start) × (receiver ≤ℤ start)) ⊎ ((finish ≤ℤ source) × (finish ≤ℤ receiver))
  by true e k = inr (passed-behind finish receiver source (first +ℤ pos count) small ends k)
  by false e k = inl (passed-before start receiver source first small begins e)

-- from a side's start
pub passed-ahead : (side : Side) (s r : Pt) (first : ℤ) (count : ℕ)
    → first ≡ least_reach (reach side side.from) (reach side r) → first +ℤ pos count ≡ reach_end (reach side side.to) (reach side r) → is_among (reach side s) first count ≡ false
    → ((ahead side s ≤ℤ pos 0) × (ahead side r ≤ℤ pos 0)) ⊎ ((pos (squared_length side) ≤ℤ ahead side s) × (pos (squared_length side) ≤ℤ ahead side r))
passed-ahead side s r first count begins ends h =
    rw (ahead-reach side s, ahead-reach side r, length-reach side)
    (shifted (reach side side.from) (reach side side.to) (reach side r) (reach side s) (passed-either (reach side side.from) (reach side side.to) (reach side r) (reach side s) first count (reach-within side s) begins ends h))
  where
    shifted : (start finish receiver source : ℤ) → ((source ≤ℤ start) × (receiver ≤ℤ start)) ⊎ ((finish ≤ℤ source) × (finish ≤ℤ receiver))
        → (((source -ℤ start) ≤ℤ pos 0) × ((receiver -ℤ start) ≤ℤ pos 0)) ⊎ (((finish -ℤ start) ≤ℤ (source -ℤ start)) × ((finish -ℤ start) ≤ℤ (receiver -ℤ start)))
    shifted start finish receiver source (inl h) = let below = h.0 in let both = h.1 in inl (omega (arith, ints), omega (arith, ints))
    shifted start finish receiver source (inr h) = let above = h.0 in let both = h.1 in inr (omega (arith, ints), omega (arith, ints))
