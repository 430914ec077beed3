-- Formulas that have the same intervals, and sums of them.
use Rattle.std.proofs.Common.{◌≡◌, ℕ, pos, List, [], ◌∷◌, ◌++◌, map, refl, ap, ◌∙◌}
use Rattle.std.specs.Prelude.{fold}
use Rattle.fix_interval.specs.Interval.{Interval}
use Rattle.fix_interval.specs.Values.{add_of}
use Rattle.fix_interval.specs.Tree.{Tree, Known, Const, Add, enc}
use Rattle.scene_geom.specs.declared.plan.Side.{Side}
use Rattle.scene_geom.specs.declared.fractions.fraction.Frac.{Frac}
use Rattle.scene_geom.specs.declared.band.Band.{Band}
use Rattle.image_source.specs.Dimensions.{incidence, dimension_squared, legs_product, needed_squared}
use Rattle.energy_sum.specs.Weather.{correction}
use Rattle.scene_parts.specs.Parts.{Source, Receiver, Globals}
use Rattle.path_calc.specs.Energies.{sum_form, where_counting, correction_of}
use Rattle.path_calc.specs.Contributions.{Contribution}

-- ---- condition (19)

pub same-needed : (p : Frac) (d : Tree) (band : Band) → enc (needed_squared p (Known (enc d)) band) ≡ enc (needed_squared p d band)
unfolding needed_squared legs_product
same-needed p d band = refl

pub same-dimension : (side : Side) (h : ℕ) (p : Frac) (d : Tree) → enc (dimension_squared side h p (Known (enc d))) ≡ enc (dimension_squared side h p d)
unfolding dimension_squared incidence
same-dimension side h p d = refl

-- ---- energies

-- the energy of a sound, by what makes an energy of C_met and a level
abbrev pub energy_by : Globals → Source → Receiver → (Tree → Tree → Tree) → Contribution → Tree
energy_by globals s r energy sound = where_counting sound.counts (energy (correction_of globals s r sound) sound.level)

-- C_met is that of a length with the same interval
pub same-correction : (dp : Tree) (hs hr c0 : ℕ) → enc (correction (Known (enc dp)) hs hr c0) ≡ enc (correction dp hs hr c0)
unfolding correction
same-correction dp hs hr c0 = refl

-- ---- lists

-- what two rules make of the intervals of some formulas, and of the formulas themselves
pub same-each : (f : Interval → Tree) (g : Tree → Tree) → ((t : Tree) → enc (f (enc t)) ≡ enc (g t)) → (ts : List Tree) → map enc (map f (map enc ts)) ≡ map enc (map g ts)
same-each f g same [] = refl
same-each f g same (t ∷ ts) = ap (λ i. i ∷ map enc (map f (map enc ts))) (same t) ∙ ap (λ is. enc (g t) ∷ is) (same-each f g same ts)

-- what they make of things, one of them of what a third rule makes of these
pub same-through : {X Y : Type 0} (f : Y → Tree) (made : X → Y) (g : X → Tree) → ((x : X) → enc (f (made x)) ≡ enc (g x)) → (xs : List X) → map enc (map f (map made xs)) ≡ map enc (map g xs)
same-through f made g same [] = refl
same-through f made g same (x ∷ xs) = ap (λ i. i ∷ map enc (map f (map made xs))) (same x) ∙ ap (λ is. enc (g x) ∷ is) (same-through f made g same xs)

-- sums of formulas with the same intervals
same-sum : (x y : Tree) (ts us : List Tree) → enc x ≡ enc y → map enc ts ≡ map enc us → enc (fold Add x ts) ≡ enc (fold Add y us)
same-sum x y [] [] e f = e
same-sum x y [] (u ∷ us) e f = absurd (cc)
same-sum x y (t ∷ ts) [] e f = absurd (cc)
same-sum x y (t ∷ ts) (u ∷ us) e f =
    let first : enc t ≡ enc u = cc in
    let others : map enc ts ≡ map enc us = cc in
    same-sum (Add x t) (Add y u) ts us (ap (λ (i : Interval). add_of i (enc t)) e ∙ ap (add_of (enc y)) first) others

pub same-lists : (ts us : List Tree) → map enc ts ≡ map enc us → enc (sum_form ts) ≡ enc (sum_form us)
same-lists ts us e = same-sum (Const (pos 0) 1) (Const (pos 0) 1) ts us refl e

-- a sum of two lists goes on from the sum of the first
pub sum-on : (x y : Tree) (ts us : List Tree) → enc y ≡ enc (fold Add x ts) → enc (fold Add y us) ≡ enc (fold Add x (ts ++ us))
sum-on x y [] us e = same-sum y x us us e refl
sum-on x y (t ∷ ts) us e = sum-on (Add x t) y ts us e
