use Rattle.std.proofs.Common.{◌≡◌, ◌∙◌, ℤ, ◌*ℤ◌, refl, ◌<◌, ◌^◌, to_z, of_z}
use Rattle.std.specs.Prelude.{Option, unsigned_abs}
use Rattle.std.specs.Int.{w128}
use Rattle.fix_interval.specs.Interval.{IsEnd, IsOrdered}
use Rattle.fix_interval.specs.Values.{end_of, lesser_low, greater_high, rounded_outward}
use Rattle.fix_interval.proofs.Multiplying.{product_passed, four_ends, IsEnd-end_of, IsEnd-lesser, IsEnd-greater, IsOrdered-four}
use Rattle.fix_interval.proofs.products.product_of_mixed.Goals as goal

IsEnd-product : (x : Option ℤ) (u v : ℤ) → unsigned_abs u < 2 ^ 126 → unsigned_abs v < 2 ^ 126 → x ≡ end_of (to_z w128 (of_z w128 u) *ℤ to_z w128 (of_z w128 v)) → IsEnd x
IsEnd-product x u v h k e = rw (e, product_passed u v (u *ℤ v) h k refl) (IsEnd-end_of (u *ℤ v))

IsEnd-least : (x y z w m n l : Option ℤ) → m ≡ lesser_low x y → n ≡ lesser_low z w → l ≡ lesser_low m n → IsEnd x → IsEnd y → IsEnd z → IsEnd w → IsEnd l
IsEnd-least x y z w m n l first second both a b c d =
    rw (both, first, second) (IsEnd-lesser (lesser_low x y) (lesser_low z w) (IsEnd-lesser x y a b) (IsEnd-lesser z w c d))

IsEnd-greatest : (x y z w m n l : Option ℤ) → m ≡ greater_high x y → n ≡ greater_high z w → l ≡ greater_high m n → IsEnd x → IsEnd y → IsEnd z → IsEnd w → IsEnd l
IsEnd-greatest x y z w m n l first second both a b c d =
    rw (both, first, second) (IsEnd-greater (greater_high x y) (greater_high z w) (IsEnd-greater x y a b) (IsEnd-greater z w c d))

IsOrdered-found : (x y z w m n l m' n' l' : Option ℤ) → m ≡ lesser_low x y → n ≡ lesser_low z w → l ≡ lesser_low m n → m' ≡ greater_high x y → n' ≡ greater_high z w → l' ≡ greater_high m' n' → IsOrdered l l'
IsOrdered-found x y z w m n l m' n' l' first second both first' second' both' =
    rw (both, first, second, both', first', second') (IsOrdered-four x y z w)

found : (p q r s : ℤ) (x y z w m n l m' n' l' : Option ℤ) → x ≡ end_of p → y ≡ end_of q → z ≡ end_of r → w ≡ end_of s → m ≡ lesser_low x y → n ≡ lesser_low z w → l ≡ lesser_low m n → m' ≡ greater_high x y → n' ≡ greater_high z w → l' ≡ greater_high m' n' → rounded_outward l l' ≡ rounded_outward (lesser_low (lesser_low (end_of p) (end_of q)) (lesser_low (end_of r) (end_of s))) (greater_high (greater_high (end_of p) (end_of q)) (greater_high (end_of r) (end_of s)))
found p q r s x y z w m n l m' n' l' a b c d first second both first' second' both' =
    rw (both, first, second, both', first', second', a, b, c, d)

pub from_products-requires-clause-low_end : goal.from_products-requires-clause-low_end
from_products-requires-clause-low_end c =
    IsEnd-least _ _ _ _ _ _ _ c.lesser_of_lows.ensures c.lesser_of_lows-2.ensures c.lesser_of_lows-3.ensures
    (IsEnd-product c.product-p.result c.args.a.lo c.args.b.lo c.args.a.low_end c.args.b.low_end c.product-p.ensures)
    (IsEnd-product c.product-q.result c.args.a.lo c.args.b.hi c.args.a.low_end c.args.b.high_end c.product-q.ensures)
    (IsEnd-product c.product-r.result c.args.a.hi c.args.b.lo c.args.a.high_end c.args.b.low_end c.product-r.ensures)
    (IsEnd-product c.product-s.result c.args.a.hi c.args.b.hi c.args.a.high_end c.args.b.high_end c.product-s.ensures)

pub from_products-requires-clause-high_end : goal.from_products-requires-clause-high_end
from_products-requires-clause-high_end c =
    IsEnd-greatest _ _ _ _ _ _ _ c.greater_of_highs.ensures c.greater_of_highs-2.ensures c.greater_of_highs-3.ensures
    (IsEnd-product c.product-p.result c.args.a.lo c.args.b.lo c.args.a.low_end c.args.b.low_end c.product-p.ensures)
    (IsEnd-product c.product-q.result c.args.a.lo c.args.b.hi c.args.a.low_end c.args.b.high_end c.product-q.ensures)
    (IsEnd-product c.product-r.result c.args.a.hi c.args.b.lo c.args.a.high_end c.args.b.low_end c.product-r.ensures)
    (IsEnd-product c.product-s.result c.args.a.hi c.args.b.hi c.args.a.high_end c.args.b.high_end c.product-s.ensures)

pub from_products-requires-clause-ordered : goal.from_products-requires-clause-ordered
from_products-requires-clause-ordered c =
    IsOrdered-found _ _ _ _ _ _ _ _ _ _ c.lesser_of_lows.ensures c.lesser_of_lows-2.ensures c.lesser_of_lows-3.ensures
    c.greater_of_highs.ensures c.greater_of_highs-2.ensures c.greater_of_highs-3.ensures

pub returns : goal.returns
returns c =
    let p : c.product-p.result ≡ end_of (c.args.a.lo *ℤ c.args.b.lo) =
    c.product-p.ensures ∙ product_passed c.args.a.lo c.args.b.lo _ c.args.a.low_end c.args.b.low_end refl in
    let q : c.product-q.result ≡ end_of (c.args.a.lo *ℤ c.args.b.hi) =
    c.product-q.ensures ∙ product_passed c.args.a.lo c.args.b.hi _ c.args.a.low_end c.args.b.high_end refl in
    let r : c.product-r.result ≡ end_of (c.args.a.hi *ℤ c.args.b.lo) =
    c.product-r.ensures ∙ product_passed c.args.a.hi c.args.b.lo _ c.args.a.high_end c.args.b.low_end refl in
    let s : c.product-s.result ≡ end_of (c.args.a.hi *ℤ c.args.b.hi) =
    c.product-s.ensures ∙ product_passed c.args.a.hi c.args.b.hi _ c.args.a.high_end c.args.b.high_end refl in
    c.from_products.ensures
    ∙ found (c.args.a.lo *ℤ c.args.b.lo) (c.args.a.lo *ℤ c.args.b.hi) (c.args.a.hi *ℤ c.args.b.lo) (c.args.a.hi *ℤ c.args.b.hi) _ _ _ _ _ _ _ _ _ _ p q r s
    c.lesser_of_lows.ensures c.lesser_of_lows-2.ensures c.lesser_of_lows-3.ensures
    c.greater_of_highs.ensures c.greater_of_highs-2.ensures c.greater_of_highs-3.ensures
    ∙ four_ends (c.args.a.lo *ℤ c.args.b.lo) (c.args.a.lo *ℤ c.args.b.hi) (c.args.a.hi *ℤ c.args.b.lo) (c.args.a.hi *ℤ c.args.b.hi)
