-- The ground factors of the regions, and the attenuations where they are known.
use Rattle.std.proofs.Common.{◌≡◌, ℕ, ◌≤◌, ◌^◌, ℤ, pos, ◌≤ℤ◌, List, [], map, ap, refl, arith, ◌∙◌}
use Rattle.std.specs.Prelude.{Option, Some, None}
use Rattle.std.specs.Int.{int_min, int_max}
use Rattle.std.proofs.lemmas.Int.{ints, clamps}
use Rattle.fix_interval.specs.Units.{unit}
use Rattle.fix_interval.specs.Bounds.{IsBetween, AreBetween}
use Rattle.fix_interval.specs.Values.{ratio_of, max_of, min_of, hull_of, pick_of, less_of}
use Rattle.fix_interval.specs.declared.truth.Truth.{Truth}
use Rattle.fix_interval.specs.declared.truth.Truth.TheVariants.{Sure, Never, Unsure}
use Rattle.term_ground.specs.declared.legs.region.Region.{Region}
use Rattle.path_shape.specs.Forms.{zero_form, one_form}
use Rattle.term_ground.specs.Regions.{region_from, known_share}
use Rattle.term_ground.proofs.TermBounds.{factor-within}
use Rattle.fix_interval.specs.Interval.{Interval}
use Rattle.fix_interval.specs.Tree.{Known, enc}
use Rattle.scene_parts.specs.Parts.{Zone}
use Rattle.path_shape.specs.declared.path.Path.{Path}
use Rattle.term_ground.specs.declared.legs.region.Region.TheVariants.{Source, Middle, Receiver}
use Rattle.term_ground.specs.Regions.{share_of}
use Rattle.term_ground.specs.Ground.{attenuations, ground}

pub by-shares : (zones : List Zone) (g0 : ℕ) (path : Path) (source middle receiver : Interval)
    → source ≡ enc (share_of Source zones g0 path (Known path.dp)) → middle ≡ enc (share_of Middle zones g0 path (Known path.dp)) → receiver ≡ enc (share_of Receiver zones g0 path (Known path.dp))
    → map enc (attenuations (Known source) (Known middle) (Known receiver) path (Known path.dp)) ≡ map enc (ground zones g0 path (Known path.dp))
unfolding ground
by-shares zones g0 path source middle receiver s m r =
    ap (λ (i : Interval). map enc (attenuations (Known i) (Known middle) (Known receiver) path (Known path.dp))) s
    ∙ ap (λ (i : Interval). map enc (attenuations (share_of Source zones g0 path (Known path.dp)) (Known i) (Known receiver) path (Known path.dp))) m
    ∙ ap (λ (i : Interval). map enc (attenuations (share_of Source zones g0 path (Known path.dp)) (share_of Middle zones g0 path (Known path.dp)) (Known i) path (Known path.dp))) r

-- ---- without zones

-- a quantity from 0 to 1 is kept within them
within-one : (i : Interval) → AreBetween (pos 0) (pos (2 ^ 32)) i → max_of (enc zero_form) (min_of (enc one_form) i) ≡ i
unfolding unit ratio_of max_of min_of
within-one i h = both i.lo i.hi h.lo h.hi where
  kept : (z : ℤ) → pos 0 ≤ℤ z → z ≤ℤ pos (2 ^ 32) → int_max (pos 0) (int_min (pos (2 ^ 32)) z) ≡ z
  kept z low high = omega (arith, ints, clamps)

  both : (lo hi : Option ℤ) → IsBetween (pos 0) (pos (2 ^ 32)) lo → IsBetween (pos 0) (pos (2 ^ 32)) hi
      → max_of (enc zero_form) (min_of (enc one_form) (record { lo = lo; hi = hi })) ≡ record { lo = lo; hi = hi }
  both None hi l h = absurd l
  both (Some l) None low high = absurd high
  both (Some l) (Some h) low high = rw (kept l low.0 low.1, kept h high.0 high.1) refl

-- both cases of a choice alike
picked-alike : (t : Truth) (i : Interval) → pick_of t i i ≡ i
unfolding pick_of hull_of
picked-alike Sure i = refl
picked-alike Never i = refl
picked-alike Unsure i = both i.lo i.hi where
  least : (z : ℤ) → int_min z z ≡ z
  least z = omega (arith, ints, clamps)

  greatest : (z : ℤ) → int_max z z ≡ z
  greatest z = omega (arith, ints, clamps)

  both : (lo hi : Option ℤ) → hull_of (record { lo = lo; hi = hi }) (record { lo = lo; hi = hi }) ≡ record { lo = lo; hi = hi }
  both None None = refl
  both None (Some h) = rw (greatest h) refl
  both (Some l) None = rw (least l) refl
  both (Some l) (Some h) = rw (least l, greatest h) refl

pub share-alone : (region : Region) (g0 : ℕ) (path : Path) → g0 ≤ 100 → known_share region [] g0 path ≡ ratio_of (pos g0) 100
unfolding share_of
share-alone region g0 path h =
    let outside = ratio_of (pos g0) 100 in
    ap (λ (i : Interval). pick_of (less_of (enc (region_from region path)) path.dp) i outside) (within-one outside (factor-within g0 1 (omega arith) (omega arith)))
    ∙ picked-alike (less_of (enc (region_from region path)) path.dp) outside
