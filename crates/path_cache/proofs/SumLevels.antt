-- Levels of sums that fit some bundles.
use Rattle.std.proofs.Common.{◌≡◌, ℕ, ◌+◌, ◌<◌, ◌≤◌, ◌^◌, pos, List, [], ◌∷◌, length, map, get_or, sym, ap, ◌∙◌, lit<, arith}
use Rattle.std.specs.Prelude.{Some, fold, All}
use Rattle.std.proofs.lemmas.List.Sums.{sum_by-cons}
use Rattle.std.proofs.lemmas.List.{get_or_default}
use Rattle.std.proofs.lemmas.List.Elements.{All-cons, All-nil}
use Rattle.fix_interval.specs.Interval.{Interval}
use Rattle.fix_interval.specs.Tree.{Tree, Known, Const, Add, enc}
use Rattle.energy_sum.specs.Energies.{level_form}
use Rattle.energy_sum.specs.Sums.{units_of}
use Rattle.path_calc.specs.Bundles.{Bundle, few_bundles}
use Rattle.path_calc.specs.Energies.{sum_form}
use Rattle.path_calc.specs.Levels.{level_of}
use Rattle.path_calc.proofs.Sums.{sum-of-map}
use Rattle.path_cache.specs.declared.sums.RowSums.{RowSums}
use Rattle.scene_geom.specs.declared.band.Band.{Band}
use Rattle.scene_geom.specs.declared.band.Band.TheVariants.{Hz63, Hz125, Hz250, Hz500, Hz1000, Hz2000, Hz4000, Hz8000}
use Rattle.scene_geom.specs.Bands.{place_of}
use Rattle.path_cache.specs.Sums.{IsSumOver, CanBeSummed, Fits, energy_at, sum_at, level_of_sum, band_level_of_sums}
use Rattle.path_cache.proofs.Summing.{All-tail, added-ends, nothing-is, ends, lows, highs, lows-le-highs, highs-bounded, longs, bands}

-- energies are added to a quantity, one after another
summed : (f : Bundle → Interval) (t : Tree) (a b : ℕ) (bs : List Bundle) → enc t ≡ ends (Some (pos a)) (Some (pos b)) → All (λ x. CanBeSummed (f x)) bs
    → a + lows f bs < 2 ^ 126 → b + highs f bs < 2 ^ 126
    → enc (fold Add t (map (λ x. Known (f x)) bs)) ≡ ends (Some (pos (a + lows f bs))) (Some (pos (b + highs f bs)))
summed f t a b [] is each low high =
    let a_is : a ≡ a + 0 = omega arith in
    let b_is : b ≡ b + 0 = omega arith in
    is ∙ ap (λ n. ends (Some (pos n)) (Some (pos b))) a_is ∙ ap (λ n. ends (Some (pos (a + 0))) (Some (pos n))) b_is
summed f t a b (x ∷ xs) is each low high =
    let first : CanBeSummed (f x) = each 0 x (omega arith) in
    let m = units_of (f x).lo in
    let n = units_of (f x).hi in
    let lows_are : lows f (x ∷ xs) ≡ m + lows f xs = sum_by-cons (λ bundle. units_of (f bundle).lo) x xs in
    let highs_are : highs f (x ∷ xs) ≡ n + highs f xs = sum_by-cons (λ bundle. units_of (f bundle).hi) x xs in
    let made : enc (Add t (Known (f x))) ≡ ends (Some (pos (a + m))) (Some (pos (b + n))) =
    added-ends (enc t) (f x) a b m n (ap (λ (i : Interval). i.lo) is) (ap (λ (i : Interval). i.hi) is) first.low first.high (omega (arith, low, lows_are)) (omega (arith, high, highs_are)) in
    let rest = summed f (Add t (Known (f x))) (a + m) (b + n) xs made (All-tail (λ x. CanBeSummed (f x)) x xs each) (omega (arith, low, lows_are)) (omega (arith, high, highs_are)) in
    let low_again : a + m + lows f xs ≡ a + lows f (x ∷ xs) = omega (arith, lows_are) in
    let high_again : b + n + highs f xs ≡ b + highs f (x ∷ xs) = omega (arith, highs_are) in
    rest ∙ ap (λ k. ends (Some (pos k)) (Some (pos (b + n + highs f xs)))) low_again ∙ ap (λ k. ends (Some (pos (a + lows f (x ∷ xs)))) (Some (pos k))) high_again

-- the level of the sum of one energy of each bundle
pub level-of-sum : (f : Bundle → Interval) (bs : List Bundle) (sum : Interval) → IsSumOver f bs sum → All (λ x. CanBeSummed (f x)) bs → length bs ≤ few_bundles
    → enc (level_form (Known sum)) ≡ level_of (map f bs)
unfolding level_of
level-of-sum f bs sum is each few =
    let high : 0 + highs f bs < 2 ^ 126 = omega (arith, highs-bounded f bs each, few) in
    let low : 0 + lows f bs < 2 ^ 126 = omega (arith, high, lows-le-highs f bs each) in
    let low_is : 0 + lows f bs ≡ lows f bs = omega arith in
    let high_is : 0 + highs f bs ≡ highs f bs = omega arith in
    let whole : enc (sum_form (map Known (map f bs))) ≡ ends (Some (pos (lows f bs))) (Some (pos (highs f bs))) =
    sum-of-map f bs ∙ summed f (Const (pos 0) 1) 0 0 bs nothing-is each low high
    ∙ ap (λ n. ends (Some (pos n)) (Some (pos (0 + highs f bs)))) low_is ∙ ap (λ n. ends (Some (pos (lows f bs))) (Some (pos n))) high_is in
    let here : sum ≡ ends (Some (pos (lows f bs))) (Some (pos (highs f bs))) = ap (λ l. ends l sum.hi) is.low ∙ ap (ends (Some (pos (lows f bs)))) is.high in
    ap (λ (i : Interval). enc (level_form (Known i))) (here ∙ sym whole)

pub total-level : (bundles : List Bundle) (sums : RowSums) → Fits sums bundles → length bundles ≤ few_bundles
    → enc (level_form (Known sums.total)) ≡ level_of (map (λ bundle. bundle.long) bundles)
total-level bundles sums fit few = level-of-sum (λ bundle. bundle.long) bundles sums.total fit.total (longs bundles fit.each) few

-- that in the band at a place
pub band-level : (bundles : List Bundle) (sums : RowSums) → Fits sums bundles → length bundles ≤ few_bundles → length sums.bands ≡ 8 → (place : ℕ) → place < 8
    → (d : Interval) → enc (level_form (Known (get_or sums.bands place d))) ≡ level_of (map (energy_at place) bundles)
band-level bundles sums fit few eight place below d =
    ap (λ (i : Interval). enc (level_form (Known i))) (get_or_default sums.bands place d sums.total (omega (arith, below, eight)))
    ∙ level-of-sum (energy_at place) bundles (sum_at place sums) (fit.bands place below) (bands place below bundles fit.each) few

-- the level of the sum at a place
at-place : (sums : RowSums) → length sums.bands ≡ 8 → (place : ℕ) → place < 8 → (d level : Interval) → level ≡ level_of_sum (get_or sums.bands place d)
    → level ≡ level_of_sum (sum_at place sums)
at-place sums eight place below d level is = is ∙ ap level_of_sum (get_or_default sums.bands place d sums.total (omega (arith, below, eight)))

-- so in each band
pub in-each-band : (sums : RowSums) → length sums.bands ≡ 8 → (t a b c d e f g h a' b' c' d' e' f' g' h' : Interval)
    → a ≡ level_of_sum (get_or sums.bands 0 a') → b ≡ level_of_sum (get_or sums.bands 1 b') → c ≡ level_of_sum (get_or sums.bands 2 c')
    → d ≡ level_of_sum (get_or sums.bands 3 d') → e ≡ level_of_sum (get_or sums.bands 4 e') → f ≡ level_of_sum (get_or sums.bands 5 f')
    → g ≡ level_of_sum (get_or sums.bands 6 g') → h ≡ level_of_sum (get_or sums.bands 7 h')
    → (band : Band) → get_or (a ∷ b ∷ c ∷ d ∷ e ∷ f ∷ g ∷ h ∷ []) (place_of band) t ≡ band_level_of_sums sums band
in-each-band sums eight t a b c d e f g h a' b' c' d' e' f' g' h' p q r s u v w x Hz63 = at-place sums eight 0 (lit< tt) a' a p
in-each-band sums eight t a b c d e f g h a' b' c' d' e' f' g' h' p q r s u v w x Hz125 = at-place sums eight 1 (lit< tt) b' b q
in-each-band sums eight t a b c d e f g h a' b' c' d' e' f' g' h' p q r s u v w x Hz250 = at-place sums eight 2 (lit< tt) c' c r
in-each-band sums eight t a b c d e f g h a' b' c' d' e' f' g' h' p q r s u v w x Hz500 = at-place sums eight 3 (lit< tt) d' d s
in-each-band sums eight t a b c d e f g h a' b' c' d' e' f' g' h' p q r s u v w x Hz1000 = at-place sums eight 4 (lit< tt) e' e u
in-each-band sums eight t a b c d e f g h a' b' c' d' e' f' g' h' p q r s u v w x Hz2000 = at-place sums eight 5 (lit< tt) f' f v
in-each-band sums eight t a b c d e f g h a' b' c' d' e' f' g' h' p q r s u v w x Hz4000 = at-place sums eight 6 (lit< tt) g' g w
in-each-band sums eight t a b c d e f g h a' b' c' d' e' f' g' h' p q r s u v w x Hz8000 = at-place sums eight 7 (lit< tt) h' h x

-- lists of eight
pub eight-alike : (a b c d e f g h a' b' c' d' e' f' g' h' : Interval) → a ≡ a' → b ≡ b' → c ≡ c' → d ≡ d' → e ≡ e' → f ≡ f' → g ≡ g' → h ≡ h'
    → a ∷ b ∷ c ∷ d ∷ e ∷ f ∷ g ∷ h ∷ [] ≡ a' ∷ b' ∷ c' ∷ d' ∷ e' ∷ f' ∷ g' ∷ h' ∷ []
eight-alike a b c d e f g h a' b' c' d' e' f' g' h' p q r s t u v w = λ i. p i ∷ q i ∷ r i ∷ s i ∷ t i ∷ u i ∷ v i ∷ w i ∷ []

pub all-eight : (P : Interval → Type 0) (a b c d e f g h : Interval) → P a → P b → P c → P d → P e → P f → P g → P h → All P (a ∷ b ∷ c ∷ d ∷ e ∷ f ∷ g ∷ h ∷ [])
all-eight P a b c d e f g h p q r s t u v w =
    All-cons P a (b ∷ c ∷ d ∷ e ∷ f ∷ g ∷ h ∷ []) p
    (All-cons P b (c ∷ d ∷ e ∷ f ∷ g ∷ h ∷ []) q
    (All-cons P c (d ∷ e ∷ f ∷ g ∷ h ∷ []) r
    (All-cons P d (e ∷ f ∷ g ∷ h ∷ []) s
    (All-cons P e (f ∷ g ∷ h ∷ []) t (All-cons P f (g ∷ h ∷ []) u (All-cons P g (h ∷ []) v (All-cons P h [] w (All-nil P))))))))
