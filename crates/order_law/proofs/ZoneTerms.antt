-- That each zone of ground changes a ground factor by little: its term has a bound, whatever the path is.
use Rattle.std.proofs.Common.{◌≡◌, ℕ, ◌*◌, ◌<◌, ◌≤◌, ℤ, pos, neg_ℤ, ◌+ℤ◌, unsigned_abs, arith, refl, ◌∙◌, inl, inr, length}
use Rattle.std.specs.Prelude.{Option, Some, None, IfSome, ◌^◌, ◌⊎◌}
use Rattle.std.specs.Option.{option_map}
use Rattle.std.proofs.lemmas.Bool.{cases_lt}
use Rattle.std.proofs.lemmas.Int.{ints}
use Rattle.fix_interval.specs.Units.{unit, unit-is}
use Rattle.fix_interval.specs.Interval.{Interval}
use Rattle.fix_interval.specs.Bounds.{IsBetween}
use Rattle.fix_interval.specs.Values.{end_of, sum_of_ends, add_of, neg_of, sub_of, div_of, quotient_of_ends}
use Rattle.fix_interval.specs.Tree.{Tree, Sub, Div, enc}
use Rattle.fix_interval.proofs.Ends.{on_ends-second}
use Rattle.fix_interval.proofs.Multiplying.{end_of-large}
use Rattle.scene_parts.specs.Parts.{Zone}
use Rattle.path_shape.specs.declared.path.Path.{Path}
use Rattle.term_ground.specs.declared.legs.region.Region.{Region}
use Rattle.term_ground.specs.declared.legs.region.Region.TheVariants.{Source, Middle, Receiver}
use Rattle.term_ground.specs.Lengths.{factor, thirty}
use Rattle.term_ground.specs.Regions.{region_start, region_end, zone_term}
use Rattle.term_ground.proofs.TermBounds.{factor-within}
use Rattle.order_law.proofs.Ends.{Ends, IsPositive, AtMost, AreWithin, add-within, neg-within, mul-within, div-within, div-positive, ratio-positive}
use Rattle.order_law.proofs.Outlines.{UpToOne, IsStretch, less-positive, less-up-to-one, one-up-to-one, least-of-one, more-within, legs-within}

-- ---- the term of a zone

between-within : (m : ℕ) (end : Option ℤ) → IsBetween (pos 0) (pos m) end → IfSome end (AtMost m)
between-within m None h = absurd h
between-within m (Some z) h = omega (arith, ints, h.0, h.1)

pub factor-small : (g : ℕ) → g ≤ 100 → AreWithin (2 ^ 32) (enc (factor g))
factor-small g h =
    let between = factor-within g 1 (omega (arith, h)) (omega (arith, h)) in
    (between-within (2 ^ 32) _ between.lo, between-within (2 ^ 32) _ between.hi)

difference-within : (g0 g : ℕ) → g0 ≤ 100 → g ≤ 100 → AreWithin (2 ^ 33) (enc (Sub (factor g) (factor g0)))
difference-within g0 g h k =
    add-within (2 ^ 32) (2 ^ 32) _ _ (factor-small g k) (neg-within (2 ^ 32) _ (factor-small g0 h))

-- a quotient by what has no high end says nothing
unbounded-div : (m : ℕ) (x d : Interval) → d.hi ≡ None → AreWithin m (div_of x d)
unfolding div_of
unbounded-div m x d none = rw (on_ends-second quotient_of_ends x.lo x.hi d.lo d.hi (inr none)) (tt, tt)

module _ (g0 : ℕ) (path : Path) (u0 u1 : Tree) (zone : Zone) (start : IsPositive (enc u0)) (end : Ends UpToOne (enc u1)) (outside : g0 ≤ 100) (inside : zone.g ≤ 100) (few : length zone.points ≤ 1024) where
  on-stretch : IsStretch (enc u0) (enc u1) → AreWithin (2 ^ 108) (enc (zone_term g0 path u0 u1 zone))
  on-stretch h =
      more-within (2 ^ 33 * 2 ^ 43 * unit) (2 ^ 108) (enc (zone_term g0 path u0 u1 zone)) (omega (arith, unit-is))
      (div-within (2 ^ 33 * 2 ^ 43) _ _
      (mul-within (2 ^ 33) (2 ^ 43) _ _ (difference-within g0 zone.g outside inside) (legs-within path.legs path.s path.r zone.points u0 u1 h few)))

  pub term-within : AreWithin (2 ^ 108) (enc (zone_term g0 path u0 u1 zone))
  unfolding add_of neg_of
  term-within = by (enc u1).hi (enc u0).lo refl refl where
    unbounded : (end : Option ℤ) → sum_of_ends (enc u1).hi (option_map neg_ℤ (enc u0).lo) ≡ end → end ≡ None → AreWithin (2 ^ 108) (enc (zone_term g0 path u0 u1 zone))
    unbounded end e f = unbounded-div (2 ^ 108) _ (sub_of (enc u1) (enc u0)) (e ∙ f)

    by : (last first : Option ℤ) → (enc u1).hi ≡ last → (enc u0).lo ≡ first → AreWithin (2 ^ 108) (enc (zone_term g0 path u0 u1 zone))
    by None first e f = unbounded None (rw e) refl
    by (Some last) None e f = unbounded None (rw (e, f)) refl
    by (Some last) (Some first) e f = sized (cases_lt (unsigned_abs (last +ℤ neg_ℤ first)) (2 ^ 126)) where
      sized : (unsigned_abs (last +ℤ neg_ℤ first) < 2 ^ 126) ⊎ (2 ^ 126 ≤ unsigned_abs (last +ℤ neg_ℤ first)) → AreWithin (2 ^ 108) (enc (zone_term g0 path u0 u1 zone))
      sized (inl small) = on-stretch (record { start = start; end = end; first = first; last = last; first_there = f; last_there = e; close = small })
      sized (inr large) = unbounded (end_of (last +ℤ neg_ℤ first)) (rw (e, f)) (end_of-large (last +ℤ neg_ℤ first) large)

-- ---- the regions of a path, whose plan length isn't negative

pub start-positive : (region : Region) (path : Path) (dp : Tree) → IsPositive (enc dp) → IsPositive (enc (region_start region path dp))
start-positive Source path dp h = ratio-positive 0 1
start-positive Middle path dp h = div-positive _ (enc dp) (ratio-positive (30 * path.hs) 1000) h
start-positive Receiver path dp h = less-up-to-one _ (least-of-one (enc (Div (thirty path.hr) dp)))

pub end-up-to-one : (region : Region) (path : Path) (dp : Tree) → IsPositive (enc dp) → Ends UpToOne (enc (region_end region path dp))
end-up-to-one Source path dp h = least-of-one (enc (Div (thirty path.hs) dp))
end-up-to-one Middle path dp h = less-positive _ (div-positive _ (enc dp) (ratio-positive (30 * path.hr) 1000) h)
end-up-to-one Receiver path dp h = one-up-to-one
