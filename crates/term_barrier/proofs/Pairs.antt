-- Two edges, and whether sound bends over both.
use Rattle.std.proofs.Common.{◌≡◌, ℤ, ap, sym, subst, refl, ◌∙◌, arith}
use Rattle.std.specs.Prelude.{Option, Some, None}
use Rattle.std.proofs.lemmas.Int.{ints, clamps}
use Rattle.fix_interval.specs.Units.{unit}
use Rattle.fix_interval.specs.Interval.{Interval}
use Rattle.fix_interval.specs.Values.{ratio_of, hull_of, pick_of, lesser_low, greater_high}
use Rattle.fix_interval.specs.declared.truth.Truth.{Truth}
use Rattle.fix_interval.specs.declared.truth.Truth.TheVariants.{Sure, Never, Unsure}
use Rattle.fix_interval.specs.Tree.{Tree, Known, Mul, enc}
use Rattle.scene_geom.specs.declared.band.Band.{Band}
use Rattle.scene_parts.specs.declared.screening.edge.Edge.{Edge}
use Rattle.path_shape.specs.declared.path.Path.{Path}
use Rattle.term_barrier.specs.declared.single.passage.EdgePassage.{EdgePassage}
use Rattle.term_barrier.specs.declared.pair.spacing.EdgeSpacing.{EdgeSpacing}
use Rattle.term_barrier.specs.Diffraction.{whole, three_and, attenuation, ten_lg, at_two_edges, c_3, double_limit}
use Rattle.term_barrier.specs.Edges.{across, edge_to_edge, pair_difference, pair_k, pair_argument, pair_attenuation, where_convex}
use Rattle.term_barrier.specs.inner.Reaching.{spacing_of, two_edges}
use Rattle.term_barrier.specs.inner.Prepared.{passage_of, both_of, convexity_of, IsConvexity, IsNoPair}

-- ---- choices

lesser-twice : (x y : Option ℤ) → lesser_low (lesser_low x y) y ≡ lesser_low x y
lesser-twice None y = refl
lesser-twice (Some x) None = refl
lesser-twice (Some x) (Some y) = ap Some (omega (arith, ints, clamps))

greater-twice : (x y : Option ℤ) → greater_high (greater_high x y) y ≡ greater_high x y
greater-twice None y = refl
greater-twice (Some x) None = refl
greater-twice (Some x) (Some y) = ap Some (omega (arith, ints, clamps))

hull-twice : (i k : Interval) → hull_of (hull_of i k) k ≡ hull_of i k
unfolding hull_of
hull-twice i k = rw (lesser-twice i.lo k.lo, greater-twice i.hi k.hi) refl

hull-zero : hull_of (enc (whole 0)) (enc (whole 0)) ≡ enc (whole 0)
unfolding hull_of ratio_of unit
hull-zero = refl

-- what two statements pick, one after another
pub pick-both : (a b : Truth) (i : Interval) → pick_of (both_of a b) i (enc (whole 0)) ≡ pick_of a (pick_of b i (enc (whole 0))) (enc (whole 0))
unfolding pick_of
pick-both Sure b i = refl
pick-both Never b i = refl
pick-both Unsure Sure i = refl
pick-both Unsure Never i = sym hull-zero
pick-both Unsure Unsure i = sym (hull-twice i (enc (whole 0)))

never-picked : (convex : Truth) (i k : Interval) → convex ≡ Never → pick_of convex i k ≡ k
unfolding pick_of
never-picked convex i k e = rw e refl

-- what never holds beside what may
pub both-never : (a : Truth) → both_of a Never ≡ Never
both-never Sure = refl
both-never Never = refl
both-never Unsure = refl

-- ---- pairs

known-quantity : (path : Path) (first second : Edge) (t : Tree)
    → enc (where_convex path (Known path.dp) first second (Known (enc t))) ≡ enc (where_convex path (Known path.dp) first second t)
unfolding where_convex
known-quantity path first second t = refl

-- whether sound bends over both, as it was found
convexity-is : (path : Path) (first second : Edge) → IsConvexity path first second (convexity_of (passage_of path first) (passage_of path second))
unfolding where_convex
convexity-is path first second = λ quantity. rw (pick-both, pick-both) refl

abbrev its_attenuation : Path → Edge → Edge → Interval → Band → Tree
its_attenuation path first second d band = attenuation double_limit (pair_argument path first second (Known d) band)

its-known : (path : Path) (d : Interval) (first second : Edge) (spacing : EdgeSpacing) (z k : Interval) (band : Band)
    → spacing ≡ spacing_of (enc (edge_to_edge (across first) first second))
    → z ≡ enc (pair_difference path first second (Known d)) → k ≡ enc (pair_k path first second (Known d))
    → enc (attenuation double_limit (three_and (Mul (Known (two_edges band spacing z)) (Known k)))) ≡ enc (its_attenuation path first second d band)
unfolding attenuation ten_lg at_two_edges c_3 pair_argument
its-known path d first second spacing z k band e f g = rw (e, f, g) refl

pub convexity-from : (path : Path) (first second : EdgePassage) (convex : Truth) → first ≡ passage_of path first.edge → second ≡ passage_of path second.edge
    → convex ≡ convexity_of first second → IsConvexity path first.edge second.edge convex
convexity-from path first second convex e f is =
    subst (IsConvexity path first.edge second.edge)
    (ap (λ (passage : EdgePassage). convexity_of passage (passage_of path second.edge)) (sym e) ∙ ap (convexity_of first) (sym f) ∙ sym is)
    (convexity-is path first.edge second.edge)

pub pair-is : (path : Path) (d : Interval) (first second : Edge) (convex : Truth) (spacing : EdgeSpacing) (z k : Interval) → IsConvexity path first second convex
    → spacing ≡ spacing_of (enc (edge_to_edge (across first) first second))
    → z ≡ enc (pair_difference path first second (Known d)) → k ≡ enc (pair_k path first second (Known d)) → (band : Band)
    → pick_of convex (enc (attenuation double_limit (three_and (Mul (Known (two_edges band spacing z)) (Known k))))) (enc (whole 0))
    ≡ enc (pair_attenuation path (Known path.dp) first second (Known d) band)
pair-is path d first second convex spacing z k is e f g = λ band.
    is (enc (attenuation double_limit (three_and (Mul (Known (two_edges band spacing z)) (Known k)))))
    ∙ ap (λ (i : Interval). enc (where_convex path (Known path.dp) first second (Known i))) (its-known path d first second spacing z k band e f g)
    ∙ known-quantity path first second (its_attenuation path first second d band)

pub pair-never : (path : Path) (d : Interval) (first second : Edge) (convex : Truth) → IsConvexity path first second convex → convex ≡ Never
    → IsNoPair path d first second
pair-never path d first second convex is never = λ band.
    let quantity = its_attenuation path first second d band in
    sym (known-quantity path first second quantity) ∙ sym (is (enc quantity)) ∙ never-picked convex (enc quantity) (enc (whole 0)) never
