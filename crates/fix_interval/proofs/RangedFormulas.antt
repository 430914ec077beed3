-- A formula keeps to the range that the ranges of its parts give for it.
use Rattle.std.proofs.Common.{◌≡◌, ℤ, ◌≤ℤ◌, Option, arith}
use Rattle.std.specs.Prelude.{true, Some, None, int_le}
use Rattle.std.proofs.lemmas.Int.{ints}
use Rattle.std.proofs.lemmas.Bool.{false≢true}
use Rattle.fix_interval.specs.Interval.{Interval}
use Rattle.fix_interval.specs.Bounds.{IsBetween, AreBetween}
use Rattle.fix_interval.specs.Tree.{Tree, Known, Const, enc}
use Rattle.fix_interval.specs.Ranges.{from_to, is_inside, LiesIn, HasRanges, range_of, part, constant, sum, negation, product, quotient, greater, lesser, square_root, logarithm, ten_power, decay, choice}
use Rattle.fix_interval.proofs.Tables.{both-true}
use Rattle.fix_interval.proofs.Ranging.{are_between, lies_in, ratio-lies, sum-lies, negation-lies, greater-lies, lesser-lies}
use Rattle.fix_interval.proofs.RangedChoices.{choice-lies}
use Rattle.fix_interval.proofs.RangedProducts.{product-lies, quotient-lies}
use Rattle.fix_interval.proofs.RangedRoots.{root-lies}

pub ranged : {t r : Tree} → HasRanges t r → LiesIn (range_of r) (enc t)
ranged (part h) = h
ranged {t = Const p q} (constant positive) = ratio-lies p q positive
ranged (sum h k) = sum-lies _ _ _ _ (ranged h) (ranged k)
ranged (negation h) = negation-lies _ _ (ranged h)
ranged (product h k) = product-lies _ _ _ _ (ranged h) (ranged k)
ranged (quotient h k) = quotient-lies _ _ _ _ (ranged h) (ranged k)
ranged (greater h k) = greater-lies _ _ _ _ (ranged h) (ranged k)
ranged (lesser h k) = lesser-lies _ _ _ _ (ranged h) (ranged k)
ranged (square_root h) = root-lies _ _ (ranged h)
ranged (logarithm known h) = known _ _ (ranged h)
ranged (ten_power known h) = known _ _ (ranged h)
ranged (decay known h) = known _ _ (ranged h)
ranged (choice h k) = choice-lies _ _ _ _ _ (ranged h) (ranged k)

-- and so lies between two numbers, where that range does
widened : (low high : ℤ) (l h : Option ℤ) (i : Interval) → is_inside low high l h ≡ true → LiesIn (record { lo = l; hi = h }) i → AreBetween low high i
widened low high None h i e k = absurd (false≢true e)
widened low high (Some l) None i e k = absurd (false≢true e)
widened low high (Some l) (Some h) i e k =
    let tests = both-true (int_le low l) (int_le h high) e in
    let least : low ≤ℤ l = (let test = tests.0 in grind (arith, ints)) in
    let most : h ≤ℤ high = (let test = tests.1 in grind (arith, ints)) in
    let ends = are_between l h i k in
    record { lo = wider i.lo ends.lo least most; hi = wider i.hi ends.hi least most }
  where
    wider : (end : Option ℤ) → IsBetween l h end → low ≤ℤ l → h ≤ℤ high → IsBetween low high end
    wider None k least most = absurd k
    wider (Some z) k least most = (omega (arith, ints, k.0, least), omega (arith, ints, k.1, most))

pub between : (low high : ℤ) {t r : Tree} → HasRanges t r → is_inside low high (range_of r).lo (range_of r).hi ≡ true → AreBetween low high (enc t)
between low high {t} {r} h e = widened low high (range_of r).lo (range_of r).hi (enc t) e (ranged h)

-- a part that lies between two numbers
pub part-between : (low high : ℤ) {t : Tree} → AreBetween low high (enc t) → HasRanges t (Known (from_to low high))
part-between low high {t} h = part (lies_in low high (enc t) h)
