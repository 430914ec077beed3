-- What changes evenly along a path keeps to the side of a bound on which both ends lie.
use Rattle.std.proofs.Common.{◌≡◌, ◌+◌, Bool, true, false, refl, arith}
use Rattle.std.specs.Prelude.{ℤ, pos, ◌+ℤ◌, ◌-ℤ◌, ◌*ℤ◌, ◌≤ℤ◌, int_lt, ◌&&◌, not, ◌==◌}
use Rattle.std.proofs.Math.IntN.{*ℤ_comm}
use Rattle.std.proofs.lemmas.Int.{ints}
use Rattle.scene_geom.specs.declared.plan.Side.{Side}
use Rattle.scene_geom.specs.declared.fractions.fraction.Frac.{Frac}
use Rattle.scene_geom.specs.Point.{orient_of}
use Rattle.scene_geom.specs.Reflection.{are_on_one_side, squared_length, specular, off_wall}
use Rattle.scene_geom.proofs.Whole.{mul_sub}
use Rattle.scene_geom.proofs.Walls.{over-n, over-d}
use Rattle.scene_parts.specs.Parts.{Obstacle}
use Rattle.scene_parts.specs.declared.screening.ends.Ends.{Ends}
use Rattle.fix_interval.proofs.Multiplying.{times-mono, times-mono_right}
use Rattle.image_source.specs.Mirrors.{at_place, ahead, strikes, stays_below, faces, has_mirror}
use Rattle.image_source.proofs.Walls.{signs-some}

-- a mean of two numbers, by the weights of both
split : (a b : ℤ) (t : Frac) → at_place a b t ≡ a *ℤ (t.d -ℤ t.n) +ℤ t.n *ℤ b
split a b t = omega (arith, ints, mul_sub t.d t.n a, mul_sub b a t.n, *ℤ_comm a t.n)

no-more : (a b h : ℤ) (t : Frac) → pos 0 ≤ℤ t.n → t.n ≤ℤ t.d → a ≤ℤ h → b ≤ℤ h → at_place a b t ≤ℤ (h *ℤ t.d)
no-more a b h t above below ha hb =
    let first = times-mono a h (t.d -ℤ t.n) (omega (arith, ints)) ha in
    let second = times-mono_right t.n b h above hb in
    omega (arith, ints, split a b t, first, second, mul_sub t.d t.n h, *ℤ_comm h t.n)

no-less : (a b h : ℤ) (t : Frac) → pos 0 ≤ℤ t.n → t.n ≤ℤ t.d → h ≤ℤ a → h ≤ℤ b → (h *ℤ t.d) ≤ℤ at_place a b t
no-less a b h t above below ha hb =
    let first = times-mono h a (t.d -ℤ t.n) (omega (arith, ints)) ha in
    let second = times-mono_right t.n h b above hb in
    omega (arith, ints, split a b t, first, second, mul_sub t.d t.n h, *ℤ_comm h t.n)

not-less : (a b : ℤ) → b ≤ℤ a → int_lt a b ≡ false
not-less a b h = by (int_lt a b) refl
  where
    by : (t : Bool) → int_lt a b ≡ t → t ≡ false
    by true e = absurd (omega (arith, ints))
    by false e = refl

first-fails : (a b : Bool) → a ≡ false → (a && b) ≡ false
first-fails a b h = rw h refl

second-fails : (a b : Bool) → b ≡ false → (a && b) ≡ false
second-fails true b h = h
second-fails false b h = refl

-- no point of a path strikes a side before the start of which both ends lie
pub before-start : (side : Side) (ends : Ends) (p : Frac) → ahead side ends.s ≤ℤ pos 0 → ahead side ends.r ≤ℤ pos 0 → pos 0 ≤ℤ p.n → p.n ≤ℤ p.d
    → strikes side ends p ≡ false
before-start side ends p hs hr above below =
    let place = at_place (ahead side ends.s) (ahead side ends.r) p in
    let least : place ≤ℤ (pos 0 *ℤ p.d) = no-more (ahead side ends.s) (ahead side ends.r) (pos 0) p above below hs hr in
    first-fails (int_lt (pos 0) place) (int_lt place (pos (squared_length side) *ℤ p.d))
    (not-less (pos 0) place (omega (arith, ints, least)))

-- nor one behind the end of which both lie
pub behind-end : (side : Side) (ends : Ends) (p : Frac) → pos (squared_length side) ≤ℤ ahead side ends.s → pos (squared_length side) ≤ℤ ahead side ends.r → pos 0 ≤ℤ p.n → p.n ≤ℤ p.d
    → strikes side ends p ≡ false
behind-end side ends p hs hr above below =
    let place = at_place (ahead side ends.s) (ahead side ends.r) p in
    let most : (pos (squared_length side) *ℤ p.d) ≤ℤ place = no-less (ahead side ends.s) (ahead side ends.r) (pos (squared_length side)) p above below hs hr in
    second-fails (int_lt (pos 0) place) (int_lt place (pos (squared_length side) *ℤ p.d))
    (not-less place (pos (squared_length side) *ℤ p.d) most)

-- where the specular point doesn't strike a side, nothing is reflected
third : (a b c d e : Bool) → c ≡ false → false ≡ (a && b && c && d && e)
third true true c d e h = rw h refl
third true false c d e h = refl
third false b c d e h = refl

-- the specular point lies on the path
pub unstruck : (side : Side) (ends : Ends) → are_on_one_side side ends.s ends.r ≡ true → ((p : Frac) → pos 0 ≤ℤ p.n → p.n ≤ℤ p.d → strikes side ends p ≡ false)
    → strikes side ends (specular side ends.s ends.r) ≡ false
unstruck side ends beside passes =
    let some = signs-some (orient_of side.from side.to ends.s) (orient_of side.from side.to ends.r) beside in
    let n = over-n (pos (off_wall side ends.s)) (off_wall side ends.s + off_wall side ends.r) in
    let d = over-d (pos (off_wall side ends.s)) (off_wall side ends.s + off_wall side ends.r) (omega (arith, some.0)) in
    passes (specular side ends.s ends.r) (rw n (omega (arith, ints))) (rw (n, d) (omega (arith, ints)))

pub none-struck : (o : Obstacle) (side : Side) (ends : Ends) → are_on_one_side side ends.s ends.r ≡ true
    → ((p : Frac) → pos 0 ≤ℤ p.n → p.n ≤ℤ p.d → strikes side ends p ≡ false) → false ≡ has_mirror o side ends
none-struck o side ends beside passes =
    third (not (o.rho == 0)) (are_on_one_side side ends.s ends.r) (strikes side ends (specular side ends.s ends.r)) (stays_below ends o.h (specular side ends.s ends.r)) (faces o.shape o.points side ends.s)
    (unstruck side ends beside passes)
