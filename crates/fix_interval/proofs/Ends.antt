-- Lemmas on an operation of four bounded ends, and that products and quotients are intervals.
use Rattle.std.proofs.Common.{◌≡◌, ℤ, refl, inl, inr, ◌<◌, ◌≤◌, ◌^◌, ◌*ℤ◌, ◌≤ℤ◌}
use Rattle.std.proofs.lemmas.Bool.{cases_lt}
use Rattle.std.specs.Prelude.{Option, Some, None, ◌⊎◌, unsigned_abs}
use Rattle.fix_interval.specs.Interval.{Interval, All, IsInterval, IsOrdered}
use Rattle.fix_interval.proofs.Intervals.{IsInterval-All}
use Rattle.fix_interval.proofs.Multiplying.{end_of-small, end_of-large, IsInterval-outward, least_of-le-greatest_of}
use Rattle.fix_interval.proofs.Dividing.{quotient_of_ends-large, IsInterval-quotient}
use Rattle.fix_interval.specs.Values.{on_ends, end_of, least_product, greatest_product, product_of_ends, rounded_outward, mul_of, quotient_of_ends, div_of}

pub on_ends-first : (f : ℤ → ℤ → ℤ → ℤ → Interval) (al ah bl bh : Option ℤ) → (al ≡ None) ⊎ (ah ≡ None) → on_ends f al ah bl bh ≡ All
on_ends-first f None ah bl bh h = refl
on_ends-first f (Some al) None bl bh h = refl
on_ends-first f (Some al) (Some ah) bl bh (inl e) = cc
on_ends-first f (Some al) (Some ah) bl bh (inr e) = cc

pub on_ends-second : (f : ℤ → ℤ → ℤ → ℤ → Interval) (al ah bl bh : Option ℤ) → (bl ≡ None) ⊎ (bh ≡ None) → on_ends f al ah bl bh ≡ All
on_ends-second f None ah bl bh h = refl
on_ends-second f (Some al) None bl bh h = refl
on_ends-second f (Some al) (Some ah) None bh h = refl
on_ends-second f (Some al) (Some ah) (Some bl) None h = refl
on_ends-second f (Some al) (Some ah) (Some bl) (Some bh) (inl e) = cc
on_ends-second f (Some al) (Some ah) (Some bl) (Some bh) (inr e) = cc

pub on_ends-bounded : (f : ℤ → ℤ → ℤ → ℤ → Interval) (a b : Interval) (al ah bl bh : ℤ) → (a.lo ≡ Some al) × (a.hi ≡ Some ah) → (b.lo ≡ Some bl) × (b.hi ≡ Some bh) → on_ends f a.lo a.hi b.lo b.hi ≡ f al ah bl bh
on_ends-bounded f a b al ah bl bh h k = rw (h.0, h.1, k.0, k.1)

-- ---- products

rounded_outward-None : (x : Option ℤ) → rounded_outward x None ≡ All
rounded_outward-None None = refl
rounded_outward-None (Some x) = refl

IsInterval-product_of_ends : (al ah bl bh : ℤ) → IsInterval (product_of_ends al ah bl bh)
IsInterval-product_of_ends al ah bl bh = product_by (cases_lt (unsigned_abs least) (2 ^ 126)) (cases_lt (unsigned_abs greatest) (2 ^ 126)) where
  least : ℤ
  least = least_product al ah bl bh

  greatest : ℤ
  greatest = greatest_product al ah bl bh

  product_by : (unsigned_abs least < 2 ^ 126) ⊎ (2 ^ 126 ≤ unsigned_abs least) → (unsigned_abs greatest < 2 ^ 126) ⊎ (2 ^ 126 ≤ unsigned_abs greatest) → IsInterval (rounded_outward (end_of least) (end_of greatest))
  product_by (inr h) k = rw (end_of-large least h) IsInterval-All
  product_by (inl h) (inr k) = rw (end_of-large greatest k, rounded_outward-None (end_of least)) IsInterval-All
  product_by (inl h) (inl k) =
      rw (end_of-small least h, end_of-small greatest k)
      (IsInterval-outward least greatest h k (least_of-le-greatest_of (al *ℤ bl) (al *ℤ bh) (ah *ℤ bl) (ah *ℤ bh)))

IsInterval-on_ends : (f : ℤ → ℤ → ℤ → ℤ → Interval) (al ah bl bh : Option ℤ) → ((p q r s : ℤ) → p ≤ℤ q → r ≤ℤ s → IsInterval (f p q r s)) → IsOrdered al ah → IsOrdered bl bh → IsInterval (on_ends f al ah bl bh)
IsInterval-on_ends f None ah bl bh g h k = IsInterval-All
IsInterval-on_ends f (Some al) None bl bh g h k = IsInterval-All
IsInterval-on_ends f (Some al) (Some ah) None bh g h k = IsInterval-All
IsInterval-on_ends f (Some al) (Some ah) (Some bl) None g h k = IsInterval-All
IsInterval-on_ends f (Some al) (Some ah) (Some bl) (Some bh) g h k = g al ah bl bh h k

pub IsInterval-mul_of : (a b : Interval) → IsInterval a → IsInterval b → IsInterval (mul_of a b)
unfolding mul_of
IsInterval-mul_of a b h k =
    IsInterval-on_ends product_of_ends a.lo a.hi b.lo b.hi (λ p q r s _ _. IsInterval-product_of_ends p q r s) h.ordered k.ordered

-- ---- quotients

IsInterval-quotient_of_ends : (al ah bl bh : ℤ) → al ≤ℤ ah → bl ≤ℤ bh → IsInterval (quotient_of_ends al ah bl bh)
IsInterval-quotient_of_ends al ah bl bh a b = large_by (cases_lt (unsigned_abs al) (2 ^ 94)) (cases_lt (unsigned_abs ah) (2 ^ 94)) where
  large_by : (unsigned_abs al < 2 ^ 94) ⊎ (2 ^ 94 ≤ unsigned_abs al) → (unsigned_abs ah < 2 ^ 94) ⊎ (2 ^ 94 ≤ unsigned_abs ah) → IsInterval (quotient_of_ends al ah bl bh)
  large_by (inr h) k = rw (quotient_of_ends-large al ah bl bh (inl h)) IsInterval-All
  large_by (inl h) (inr k) = rw (quotient_of_ends-large al ah bl bh (inr k)) IsInterval-All
  large_by (inl h) (inl k) = IsInterval-quotient al ah bl bh a b h k

pub IsInterval-div_of : (a b : Interval) → IsInterval a → IsInterval b → IsInterval (div_of a b)
unfolding div_of
IsInterval-div_of a b h k =
    IsInterval-on_ends quotient_of_ends a.lo a.hi b.lo b.hi IsInterval-quotient_of_ends h.ordered k.ordered
