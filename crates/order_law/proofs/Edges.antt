-- That the attenuation by screening doesn't depend on the order of the edges.
use Rattle.std.proofs.Common.{◌≡◌, Bool, true, false, refl, sym, ap, ◌∙◌, List, [], ◌∷◌, map, arith}
use Rattle.std.specs.Prelude.{ℤ, Option, Some, None, fold, flat_map, if◌then◌else◌}
use Rattle.std.specs.List.{list_any}
use Rattle.std.proofs.lemmas.Int.{ints, clamps}
use Rattle.fix_interval.specs.Interval.{Interval}
use Rattle.fix_interval.specs.Values.{greater_low, greater_high, max_of}
use Rattle.fix_interval.specs.Tree.{Tree, Max, enc}
use Rattle.scene_geom.specs.declared.band.Band.{Band}
use Rattle.scene_parts.specs.declared.screening.edge.Edge.{Edge}
use Rattle.path_shape.specs.declared.path.Path.{Path}
use Rattle.scene_book.specs.Orders.{Shuffled, same, under, exchange, after}
use Rattle.term_barrier.specs.Diffraction.{whole, ten_lg, attenuation}
use Rattle.term_barrier.specs.Edges.{single_argument, single_attenuation, pair_attenuation}
use Rattle.term_barrier.specs.Screening.{is_above, both_ways, pairs_of, greatest, top_attenuations, top_attenuation, single_arguments, less_ground, grazing, screening}
use Rattle.order_law.proofs.Shuffles.{Each, length-shuffled, any-shuffled, map-shuffled, filter-shuffled, append-shuffled, flat_map-shuffled, swapped}
use Rattle.order_law.proofs.Folds.{fold-shuffled}

-- ---- the greatest

low-turned : (a x y : Option ℤ) → greater_low (greater_low a x) y ≡ greater_low (greater_low a y) x
low-turned None None None = refl
low-turned None None (Some y) = refl
low-turned None (Some x) None = refl
low-turned None (Some x) (Some y) = ap Some (omega (arith, ints, clamps))
low-turned (Some a) None None = refl
low-turned (Some a) None (Some y) = refl
low-turned (Some a) (Some x) None = refl
low-turned (Some a) (Some x) (Some y) = ap Some (omega (arith, ints, clamps))

high-turned : (a x y : Option ℤ) → greater_high (greater_high a x) y ≡ greater_high (greater_high a y) x
high-turned None x y = refl
high-turned (Some a) None None = refl
high-turned (Some a) None (Some y) = refl
high-turned (Some a) (Some x) None = refl
high-turned (Some a) (Some x) (Some y) = ap Some (omega (arith, ints, clamps))

low-either : (x y : Option ℤ) → greater_low x y ≡ greater_low y x
low-either None None = refl
low-either None (Some y) = refl
low-either (Some x) None = refl
low-either (Some x) (Some y) = ap Some (omega (arith, ints, clamps))

high-either : (x y : Option ℤ) → greater_high x y ≡ greater_high y x
high-either None None = refl
high-either None (Some y) = refl
high-either (Some x) None = refl
high-either (Some x) (Some y) = ap Some (omega (arith, ints, clamps))

both-ends : (l m h k : Option ℤ) → l ≡ m → h ≡ k → ◌≡◌ {A = Interval} (record { lo = l; hi = h }) (record { lo = m; hi = k })
both-ends l m h k e f = rw (e, f)

max-turned : (a x y : Interval) → max_of (max_of a x) y ≡ max_of (max_of a y) x
unfolding max_of
max-turned a x y = both-ends _ _ _ _ (low-turned a.lo x.lo y.lo) (high-turned a.hi x.hi y.hi)

max-either : (x y : Interval) → max_of x y ≡ max_of y x
unfolding max_of
max-either x y = both-ends _ _ _ _ (low-either x.lo y.lo) (high-either x.hi y.hi)

-- the greatest of some intervals, and of none that of 0
abbrev greatest_of : List Interval → Interval
greatest_of [] = enc (whole 0)
greatest_of (best ∷ others) = fold max_of best others

enc-fold : (best : Tree) (others : List Tree) → enc (fold Max best others) ≡ fold max_of (enc best) (map enc others)
enc-fold best [] = refl
enc-fold best (next ∷ others) = enc-fold (Max best next) others

enc-greatest : (ts : List Tree) → enc (greatest ts) ≡ greatest_of (map enc ts)
enc-greatest [] = refl
enc-greatest (t ∷ ts) = enc-fold t ts

each-any : (xs : List Interval) → Each (λ i. Unit {0}) xs
each-any [] = tt
each-any (x ∷ xs) = (tt, each-any xs)

greatest-shuffled : {xs ys : List Interval} → Shuffled xs ys → greatest_of xs ≡ greatest_of ys
greatest-shuffled (same xs) = refl
greatest-shuffled (under x {xs = xs} h) =
    fold-shuffled max_of (λ n i. Unit {0}) (λ i. Unit {0}) (λ n a x room fit. tt) (λ n a x y room fit fits. max-turned a x y) x h tt (each-any xs)
greatest-shuffled (exchange x y xs) = ap (λ i. fold max_of i xs) (max-either x y)
greatest-shuffled (after h k) = greatest-shuffled h ∙ greatest-shuffled k

greatest-alike : (ts us : List Tree) → Shuffled (map enc ts) (map enc us) → enc (greatest ts) ≡ enc (greatest us)
greatest-alike ts us h = enc-greatest ts ∙ greatest-shuffled h ∙ sym (enc-greatest us)

-- ---- pairs

pairs-shuffled : {A : Type 0} {xs ys : List A} → Shuffled xs ys → Shuffled (pairs_of xs) (pairs_of ys)
pairs-shuffled (same xs) = same (pairs_of xs)
pairs-shuffled (under x h) = append-shuffled (flat_map-shuffled (both_ways x) h) (pairs-shuffled h)
pairs-shuffled (exchange x y xs) =
    after (exchange (x, y) (y, x) _)
    (under (y, x) (under (x, y) (swapped (flat_map (both_ways x) xs) (flat_map (both_ways y) xs) (pairs_of xs))))
pairs-shuffled (after h k) = after (pairs-shuffled h) (pairs-shuffled k)

-- ---- screening

top-alike : (path : Path) (dp : Tree) {xs ys : List Edge} (d : Tree) (band : Band) → Shuffled xs ys → enc (top_attenuation path dp xs d band) ≡ enc (top_attenuation path dp ys d band)
top-alike path dp {xs = xs} {ys = ys} d band h =
    let above = filter-shuffled is_above h in
    greatest-alike (top_attenuations path dp xs d band) (top_attenuations path dp ys d band)
    (map-shuffled enc
    (append-shuffled (map-shuffled (λ (edge : Edge). single_attenuation path edge d band) above)
    (map-shuffled (λ (pair : Edge × Edge). pair_attenuation path dp pair.0 pair.1 d band) (pairs-shuffled above))))

arguments-alike : (path : Path) {xs ys : List Edge} (d : Tree) (band : Band) → Shuffled xs ys → enc (greatest (single_arguments path xs d band)) ≡ enc (greatest (single_arguments path ys d band))
arguments-alike path {xs = xs} {ys = ys} d band h =
    greatest-alike (single_arguments path xs d band) (single_arguments path ys d band)
    (map-shuffled enc (map-shuffled (λ (edge : Edge). single_argument path edge d band) h))

over-alike : (above over : Bool) (d_z d_z' b b' gr : Tree) → above ≡ over → enc d_z ≡ enc d_z' → enc b ≡ enc b'
    → enc (if above then less_ground d_z gr else grazing b gr) ≡ enc (if over then less_ground d_z' gr else grazing b' gr)
unfolding attenuation ten_lg
over-alike true true d_z d_z' b b' gr g e f = rw e
over-alike false false d_z d_z' b b' gr g e f = rw f
over-alike true false d_z d_z' b b' gr g e f = absurd (cc)
over-alike false true d_z d_z' b b' gr g e f = absurd (cc)

pub screening-alike : (path : Path) (dp : Tree) (xs ys : List Edge) (d gr : Tree) (band : Band) → Shuffled xs ys → enc (screening path dp xs d gr band) ≡ enc (screening path dp ys d gr band)
screening-alike path dp [] [] d gr band h = refl
screening-alike path dp [] (y ∷ ys) d gr band h = absurd (let e = length-shuffled h in omega (arith, e))
screening-alike path dp (x ∷ xs) [] d gr band h = absurd (let e = length-shuffled h in omega (arith, e))
screening-alike path dp (x ∷ xs) (y ∷ ys) d gr band h =
    over-alike (list_any is_above (x ∷ xs)) (list_any is_above (y ∷ ys)) _ _ _ _ gr (any-shuffled is_above h) (top-alike path dp d band h) (arguments-alike path d band h)
