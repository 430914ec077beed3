-- Loops that push what they make of each element, and lists of eight that are written out.
use Rattle.std.proofs.Common.{◌≡◌, ℕ, ◌+◌, ◌<◌, ◌≤◌, Bool, true, false, List, [], ◌∷◌, ◌++◌, length, take, map, refl, sym, ap, ◌∙◌, get_or}
use Rattle.std.specs.Prelude.{All, ◌&&◌, ◌||◌}
use Rattle.std.specs.List.{list_any}
use Rattle.std.proofs.lemmas.List.{map_more, take_all}
use Rattle.std.proofs.lemmas.List.Elements.{All-nil, All-cons}
use Rattle.std.proofs.lemmas.List.Folds.{list_any-append, list_any_more}
use Rattle.scene_geom.specs.declared.plan.Pt.{Pt}
use Rattle.scene_geom.specs.declared.band.Band.{Band}
use Rattle.scene_geom.specs.declared.band.Band.TheVariants.{Hz63, Hz125, Hz250, Hz500, Hz1000, Hz2000, Hz4000, Hz8000}
use Rattle.scene_geom.specs.Bands.{all_bands}
use Rattle.fix_interval.specs.Interval.{Interval}
use Rattle.scene_parts.specs.declared.screening.size_test.Breadth.{Breadth}
use Rattle.scene_parts.specs.Parts.{Obstacle, sides_of}
use Rattle.scene_parts.specs.declared.screening.ends.Ends.{Ends}
use Rattle.scene_parts.specs.Crossings.{counts_in}
use Rattle.edge_chain.specs.Chain.{blocks_chain}
use Rattle.path_calc.specs.LateralPaths.{is_in_the_way}
use Rattle.path_calc.specs.declared.lateral.LateralScreening.{LateralScreening}
use Rattle.path_calc.specs.inner.Strings.{is_within, both_of, lateral_of}
use Rattle.path_calc.proofs.Barred.{or-false, and-false}

-- ---- what is mapped
-- the element that is pushed is what the next one is mapped to
pub mapped-more : {X Y : Type 0} (f : X → Y) (xs : List X) (i : ℕ) (x : X) (before after : List Y) → i < length xs → x ≡ get_or xs i x
    → after ≡ before ++ f x ∷ [] → before ≡ map f (take i xs) → after ≡ map f (take (i + 1) xs)
mapped-more {X = X} {Y = Y} f xs i x before after below is pushed so_far =
    pushed ∙ ap (λ (ys : List Y). ys ++ f x ∷ []) so_far
    ∙ ap (λ (y : X). map f (take i xs) ++ f y ∷ []) is ∙ sym (map_more f xs i x below)

-- behind the last one all are mapped
pub mapped-all : {X Y : Type 0} (f : X → Y) (xs : List X) (i : ℕ) (ys : List Y) → length xs ≤ i → ys ≡ map f (take i xs) → ys ≡ map f xs
mapped-all {X = X} f xs i ys all so_far = so_far ∙ ap (λ (zs : List X). map f zs) (take_all i xs all)

-- ---- what is in the way
and-true : (b : Bool) → (b && true) ≡ b
and-true true = refl
and-true false = refl

-- an obstacle is in the way, and how broad it is is pushed
pub way-found : (band : Band) (ends : Ends) (corners : List Pt) (obstacles : List Obstacle) (i : ℕ) (o : Obstacle) (before after : List Breadth) (breadth : Breadth) (stops : Bool)
    → i < length obstacles → o ≡ get_or obstacles i o
    → stops ≡ list_any (blocks_chain corners ends.s ends.r) (sides_of o) → stops ≡ true
    → after ≡ before ++ breadth ∷ [] → is_within band breadth ≡ counts_in band ends o
    → list_any (is_within band) before ≡ list_any (is_in_the_way band ends corners) (take i obstacles)
    → list_any (is_within band) after ≡ list_any (is_in_the_way band ends corners) (take (i + 1) obstacles)
way-found band ends corners obstacles i o before after breadth stops below is stops-is stopped pushed broad so_far =
    ap (list_any (is_within band)) pushed ∙ list_any-append (is_within band) before (breadth ∷ [])
    ∙ ap (λ b. list_any (is_within band) before || b) (
    or-false (is_within band breadth) ∙ broad ∙ sym (and-true (counts_in band ends o))
    ∙ ap (λ b. counts_in band ends o && b) (sym stopped ∙ stops-is) ∙ ap (is_in_the_way band ends corners) is)
    ∙ ap (λ b. b || is_in_the_way band ends corners (get_or obstacles i o)) so_far
    ∙ sym (list_any_more (is_in_the_way band ends corners) obstacles i o below)

-- an obstacle isn't in the way
pub way-clear : (band : Band) (ends : Ends) (corners : List Pt) (obstacles : List Obstacle) (i : ℕ) (o : Obstacle) (before : List Breadth) (stops : Bool)
    → i < length obstacles → o ≡ get_or obstacles i o
    → stops ≡ list_any (blocks_chain corners ends.s ends.r) (sides_of o) → stops ≡ false
    → list_any (is_within band) before ≡ list_any (is_in_the_way band ends corners) (take i obstacles)
    → list_any (is_within band) before ≡ list_any (is_in_the_way band ends corners) (take (i + 1) obstacles)
way-clear band ends corners obstacles i o before stops below is stops-is passed so_far =
    so_far ∙ sym (or-false (list_any (is_in_the_way band ends corners) (take i obstacles)))
    ∙ ap (λ b. list_any (is_in_the_way band ends corners) (take i obstacles) || b) (
    sym (and-false (counts_in band ends o))
    ∙ ap (λ b. counts_in band ends o && b) (sym passed ∙ stops-is) ∙ ap (is_in_the_way band ends corners) is)
    ∙ sym (list_any_more (is_in_the_way band ends corners) obstacles i o below)

-- ---- eight
pub all-eight : {A : Type 0} (P : A → Type 0) (a b c d e f g h : A) → P a → P b → P c → P d → P e → P f → P g → P h
    → All P (a ∷ b ∷ c ∷ d ∷ e ∷ f ∷ g ∷ h ∷ [])
all-eight P a b c d e f g h p q r s t u v w =
    All-cons P a (b ∷ c ∷ d ∷ e ∷ f ∷ g ∷ h ∷ []) p (
    All-cons P b (c ∷ d ∷ e ∷ f ∷ g ∷ h ∷ []) q (
    All-cons P c (d ∷ e ∷ f ∷ g ∷ h ∷ []) r (
    All-cons P d (e ∷ f ∷ g ∷ h ∷ []) s (
    All-cons P e (f ∷ g ∷ h ∷ []) t (
    All-cons P f (g ∷ h ∷ []) u (
    All-cons P g (h ∷ []) v (
    All-cons P h [] w (All-nil P))))))))

-- the results of all bands, in their order
pub mapped-eight : {A : Type 0} (known : Band → A) {a b c d e f g h : A}
    → a ≡ known Hz63 → b ≡ known Hz125 → c ≡ known Hz250 → d ≡ known Hz500
    → e ≡ known Hz1000 → f ≡ known Hz2000 → g ≡ known Hz4000 → h ≡ known Hz8000
    → (a ∷ b ∷ c ∷ d ∷ e ∷ f ∷ g ∷ h ∷ []) ≡ map known all_bands
mapped-eight known p q r s t u v w = cc

-- D_z of each band, in the order of the bands
pub eight-both : {lateral : List LateralScreening} {a b c d e f g h : LateralScreening} (known : Band → List Interval)
    → lateral ≡ a ∷ b ∷ c ∷ d ∷ e ∷ f ∷ g ∷ h ∷ []
    → both_of a ≡ known Hz63 → both_of b ≡ known Hz125 → both_of c ≡ known Hz250 → both_of d ≡ known Hz500
    → both_of e ≡ known Hz1000 → both_of f ≡ known Hz2000 → both_of g ≡ known Hz4000 → both_of h ≡ known Hz8000
    → (band : Band) → both_of (lateral_of lateral band) ≡ known band
eight-both known are p q r s t u v w Hz63 = ap (λ (l : List LateralScreening). both_of (lateral_of l Hz63)) are ∙ p
eight-both known are p q r s t u v w Hz125 = ap (λ (l : List LateralScreening). both_of (lateral_of l Hz125)) are ∙ q
eight-both known are p q r s t u v w Hz250 = ap (λ (l : List LateralScreening). both_of (lateral_of l Hz250)) are ∙ r
eight-both known are p q r s t u v w Hz500 = ap (λ (l : List LateralScreening). both_of (lateral_of l Hz500)) are ∙ s
eight-both known are p q r s t u v w Hz1000 = ap (λ (l : List LateralScreening). both_of (lateral_of l Hz1000)) are ∙ t
eight-both known are p q r s t u v w Hz2000 = ap (λ (l : List LateralScreening). both_of (lateral_of l Hz2000)) are ∙ u
eight-both known are p q r s t u v w Hz4000 = ap (λ (l : List LateralScreening). both_of (lateral_of l Hz4000)) are ∙ v
eight-both known are p q r s t u v w Hz8000 = ap (λ (l : List LateralScreening). both_of (lateral_of l Hz8000)) are ∙ w
