-- Attenuations of 0 dB don't raise what isn't below 0 dB, and in what order the greatest is found doesn't matter.
use Rattle.std.proofs.Common.{◌≡◌, ap, sym, refl, ◌∙◌, arith, Bool, true, false, ℤ, List, [], ◌∷◌, ◌++◌, map, append-nil}
use Rattle.std.specs.Prelude.{filter, Option, Some, None}
use Rattle.std.proofs.lemmas.Int.{ints, clamps}
use Rattle.std.proofs.lemmas.List.{map-append}
use Rattle.std.proofs.lemmas.List.Elements.{filter-append}
use Rattle.fix_interval.specs.Interval.{Interval}
use Rattle.fix_interval.specs.Values.{max_of, greater_low, greater_high}
use Rattle.fix_interval.specs.Tree.{enc}
use Rattle.term_barrier.specs.Diffraction.{whole}
use Rattle.term_barrier.specs.inner.Prepared.{greatest_from, Numbered, are_marked, marked_values, IsRaised, StandFor}
use Rattle.term_barrier.proofs.Greatest.{greatest-append}

-- ---- the order

late-low : (a x y : Option ℤ) → greater_low (greater_low a x) y ≡ greater_low (greater_low a y) x
late-low None None None = refl
late-low None None (Some y) = refl
late-low None (Some x) None = refl
late-low None (Some x) (Some y) = ap Some (omega (arith, ints, clamps))
late-low (Some a) None None = refl
late-low (Some a) None (Some y) = refl
late-low (Some a) (Some x) None = refl
late-low (Some a) (Some x) (Some y) = ap Some (omega (arith, ints, clamps))

late-high : (a x y : Option ℤ) → greater_high (greater_high a x) y ≡ greater_high (greater_high a y) x
late-high None x y = refl
late-high (Some a) None None = refl
late-high (Some a) None (Some y) = refl
late-high (Some a) (Some x) None = refl
late-high (Some a) (Some x) (Some y) = ap Some (omega (arith, ints, clamps))

pub max-late : (a x y : Interval) → max_of (max_of a x) y ≡ max_of (max_of a y) x
unfolding max_of
max-late a x y = rw (late-low a.lo x.lo y.lo, late-high a.hi x.hi y.hi) refl

-- ---- 0 dB

raised-max : (best x : Interval) → IsRaised best → IsRaised (max_of best x)
raised-max best x h = max-late best x (enc (whole 0)) ∙ ap (λ (i : Interval). max_of i x) h

pub greatest-raised : (best : Interval) (xs : List Interval) → IsRaised best
    → greatest_from (Some best) (xs ++ enc (whole 0) ∷ []) ≡ greatest_from (Some best) xs
greatest-raised best [] h = ap Some h
greatest-raised best (x ∷ xs) h = greatest-raised (max_of best x) xs (raised-max best x h)

-- ---- values that stand for others

pub values-append : (marks : List Bool) (xs ys : List Numbered) → marked_values marks (xs ++ ys) ≡ marked_values marks xs ++ marked_values marks ys
values-append marks xs ys =
    ap (map (λ (pair : Numbered). pair.2)) (filter-append (are_marked marks) xs ys)
    ∙ map-append (λ (pair : Numbered). pair.2) (filter (are_marked marks) xs) (filter (are_marked marks) ys)

-- the same ones
pub stand-same : (xs ys : List Numbered) → xs ≡ ys → StandFor xs ys
stand-same xs ys e = λ marks best h. ap (λ (values : List Numbered). greatest_from (Some best) (marked_values marks values)) e

-- with more behind
pub stand-append : (xs ys zs : List Numbered) → StandFor xs ys → StandFor (xs ++ zs) (ys ++ zs)
stand-append xs ys zs s = λ marks best h.
    ap (greatest_from (Some best)) (values-append marks xs zs)
    ∙ greatest-append (Some best) (marked_values marks xs) (marked_values marks zs)
    ∙ ap (λ (from : Option Interval). greatest_from from (marked_values marks zs)) (s marks best h)
    ∙ sym (greatest-append (Some best) (marked_values marks ys) (marked_values marks zs))
    ∙ ap (greatest_from (Some best)) (sym (values-append marks ys zs))

value-one : (marks : List Bool) (x : Numbered) (value : Interval) → are_marked marks x ≡ true → x.2 ≡ value → marked_values marks (x ∷ []) ≡ value ∷ []
value-one marks x value m e = rw (m, e) refl

value-none : (marks : List Bool) (x : Numbered) → are_marked marks x ≡ false → marked_values marks (x ∷ []) ≡ []
value-none marks x m = rw m refl

-- without a last one at 0 dB
pub stand-without : (xs : List Numbered) (x : Numbered) → x.2 ≡ enc (whole 0) → StandFor xs (xs ++ x ∷ [])
stand-without xs x e = λ marks best h. by_mark marks best h (are_marked marks x) refl where
  by_mark : (marks : List Bool) (best : Interval) → IsRaised best → (mark : Bool) → are_marked marks x ≡ mark
      → greatest_from (Some best) (marked_values marks xs) ≡ greatest_from (Some best) (marked_values marks (xs ++ x ∷ []))
  by_mark marks best h true m =
      sym (greatest-raised best (marked_values marks xs) h)
      ∙ ap (greatest_from (Some best))
      (sym (values-append marks xs (x ∷ []) ∙ ap (λ (values : List Interval). marked_values marks xs ++ values) (value-one marks x (enc (whole 0)) m e)))
  by_mark marks best h false m =
      ap (greatest_from (Some best))
      (sym (values-append marks xs (x ∷ []) ∙ ap (λ (values : List Interval). marked_values marks xs ++ values) (value-none marks x m) ∙ append-nil (marked_values marks xs)))
