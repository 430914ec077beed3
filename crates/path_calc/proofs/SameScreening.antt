-- The formula of the attenuation by screening has the same interval with formulas in it that have the same intervals.
use Rattle.std.proofs.Common.{◌≡◌, ℕ, Bool, true, false, List, [], ◌∷◌, ◌++◌, map, refl, sym, ap, ◌∙◌}
use Rattle.std.specs.Prelude.{fold, if◌then◌else◌}
use Rattle.std.specs.List.{list_any}
use Rattle.std.proofs.lemmas.List.{map-append}
use Rattle.fix_interval.specs.Interval.{Interval}
use Rattle.fix_interval.specs.Values.{max_of}
use Rattle.fix_interval.specs.Tree.{Tree, Max, enc}
use Rattle.scene_geom.specs.declared.band.Band.{Band}
use Rattle.path_shape.specs.declared.path.Path.{Path}
use Rattle.scene_parts.specs.declared.screening.edge.Edge.{Edge}
use Rattle.term_barrier.specs.Diffraction.{path_difference, k_met, at_one_edge, at_two_edges, ten_lg, attenuation, single_limit, double_limit}
use Rattle.term_barrier.specs.Edges.{negated_below, single_difference, single_k, single_argument, single_attenuation, pair_difference, pair_k, pair_argument, where_convex, pair_attenuation}
use Rattle.term_barrier.specs.Screening.{is_above, edges_above, pairs_of, greatest, top_attenuations, top_attenuation, single_arguments, less_ground, grazing, screening}

-- ---- a single edge

same-negated : (above : Bool) (z z' : Tree) → enc z ≡ enc z' → enc (negated_below above z) ≡ enc (negated_below above z')
same-negated true z z' e = e
same-negated false z z' e = rw e

same-path_difference : (length square d d' : Tree) → enc d ≡ enc d' → enc (path_difference length square d) ≡ enc (path_difference length square d')
unfolding path_difference
same-path_difference length square d d' e = rw e

same-k_met : (d_ss d_sr d d' z z' : Tree) → enc d ≡ enc d' → enc z ≡ enc z' → enc (k_met d_ss d_sr d z) ≡ enc (k_met d_ss d_sr d' z')
unfolding k_met
same-k_met d_ss d_sr d d' z z' e f = rw (e, f)

same-single_difference : (path : Path) (edge : Edge) (d d' : Tree) → enc d ≡ enc d' → enc (single_difference path edge d) ≡ enc (single_difference path edge d')
unfolding single_difference
same-single_difference path edge d d' e = same-negated edge.above _ _ (same-path_difference _ _ d d' e)

same-single_k : (path : Path) (edge : Edge) (d d' : Tree) → enc d ≡ enc d' → enc (single_k path edge d) ≡ enc (single_k path edge d')
unfolding single_k
same-single_k path edge d d' e = same-k_met _ _ d d' _ _ e (same-single_difference path edge d d' e)

same-single_argument : (path : Path) (edge : Edge) (band : Band) (d d' : Tree) → enc d ≡ enc d' → enc (single_argument path edge d band) ≡ enc (single_argument path edge d' band)
unfolding single_argument at_one_edge
same-single_argument path edge band d d' e = rw (same-single_difference path edge d d' e, same-single_k path edge d d' e)

same-attenuation : (limit : ℕ) (b b' : Tree) → enc b ≡ enc b' → enc (attenuation limit b) ≡ enc (attenuation limit b')
unfolding attenuation ten_lg
same-attenuation limit b b' e = rw e

-- ---- two edges

same-pair_difference : (path : Path) (first second : Edge) (d d' : Tree) → enc d ≡ enc d' → enc (pair_difference path first second d) ≡ enc (pair_difference path first second d')
unfolding pair_difference
same-pair_difference path first second d d' e = same-path_difference _ _ d d' e

same-pair_k : (path : Path) (first second : Edge) (d d' : Tree) → enc d ≡ enc d' → enc (pair_k path first second d) ≡ enc (pair_k path first second d')
unfolding pair_k
same-pair_k path first second d d' e = same-k_met _ _ d d' _ _ e (same-pair_difference path first second d d' e)

same-pair_argument : (path : Path) (first second : Edge) (band : Band) (d d' : Tree) → enc d ≡ enc d' → enc (pair_argument path first second d band) ≡ enc (pair_argument path first second d' band)
unfolding pair_argument at_two_edges
same-pair_argument path first second band d d' e = rw (same-pair_difference path first second d d' e, same-pair_k path first second d d' e)

same-where_convex : (path : Path) (dp dp' : Tree) (first second : Edge) (q q' : Tree) → enc dp ≡ enc dp' → enc q ≡ enc q' → enc (where_convex path dp first second q) ≡ enc (where_convex path dp' first second q')
unfolding where_convex
same-where_convex path dp dp' first second q q' e f = rw (e, f)

same-pair_attenuation : (path : Path) (dp dp' : Tree) (first second : Edge) (band : Band) (d d' : Tree) → enc dp ≡ enc dp' → enc d ≡ enc d'
    → enc (pair_attenuation path dp first second d band) ≡ enc (pair_attenuation path dp' first second d' band)
same-pair_attenuation path dp dp' first second band d d' e f =
    same-where_convex path dp dp' first second _ _ e (same-attenuation double_limit _ _ (same-pair_argument path first second band d d' f))

-- ---- the greatest

greatest_of : Interval → List Interval → Interval
greatest_of best [] = best
greatest_of best (next ∷ others) = greatest_of (max_of best next) others

enc-fold : (best : Tree) (others : List Tree) → enc (fold Max best others) ≡ greatest_of (enc best) (map enc others)
unfolding greatest_of
enc-fold best [] = refl
enc-fold best (next ∷ others) = enc-fold (Max best next) others

same-greatest : (ts us : List Tree) → map enc ts ≡ map enc us → enc (greatest ts) ≡ enc (greatest us)
same-greatest [] [] e = refl
same-greatest [] (u ∷ us) e = absurd (cc)
same-greatest (t ∷ ts) [] e = absurd (cc)
same-greatest (t ∷ ts) (u ∷ us) e =
    let first : enc t ≡ enc u = cc in
    let others : map enc ts ≡ map enc us = cc in
    enc-fold t ts ∙ ap (λ (i : Interval). greatest_of i (map enc ts)) first ∙ ap (greatest_of (enc u)) others ∙ sym (enc-fold u us)

same-map : {X : Type 0} (f g : X → Tree) → ((x : X) → enc (f x) ≡ enc (g x)) → (xs : List X) → map enc (map f xs) ≡ map enc (map g xs)
same-map f g same [] = refl
same-map f g same (x ∷ xs) = rw (same x, same-map f g same xs)

-- ---- screening

same-top_attenuations : (path : Path) (dp dp' : Tree) (edges : List Edge) (band : Band) (d d' : Tree) → enc dp ≡ enc dp' → enc d ≡ enc d'
    → map enc (top_attenuations path dp edges d band) ≡ map enc (top_attenuations path dp' edges d' band)
same-top_attenuations path dp dp' edges band d d' e f =
    let single = λ (d : Tree) (edge : Edge). single_attenuation path edge d band in
    let pair = λ (dp d : Tree) (pair : Edge × Edge). pair_attenuation path dp pair.0 pair.1 d band in
    let above = edges_above edges in
    map-append enc (map (single d) above) (map (pair dp d) (pairs_of above))
    ∙ ap (λ is. is ++ map enc (map (pair dp d) (pairs_of above))) (same-map (single d) (single d') (λ edge. same-attenuation single_limit _ _ (same-single_argument path edge band d d' f)) above)
    ∙ ap (λ is. map enc (map (single d') above) ++ is) (same-map (pair dp d) (pair dp' d') (λ both. same-pair_attenuation path dp dp' both.0 both.1 band d d' e f) (pairs_of above))
    ∙ sym (map-append enc (map (single d') above) (map (pair dp' d') (pairs_of above)))

same-over : (above : Bool) (d_z d_z' b b' gr gr' : Tree) → enc d_z ≡ enc d_z' → enc b ≡ enc b' → enc gr ≡ enc gr'
    → enc (if above then less_ground d_z gr else grazing b gr) ≡ enc (if above then less_ground d_z' gr' else grazing b' gr')
same-over true d_z d_z' b b' gr gr' e f g = rw (e, g)
same-over false d_z d_z' b b' gr gr' e f g = rw (same-attenuation single_limit b b' f, f, g)

pub same-screening : (path : Path) (edges : List Edge) (band : Band) (dp dp' d d' gr gr' : Tree) → enc dp ≡ enc dp' → enc d ≡ enc d' → enc gr ≡ enc gr'
    → enc (screening path dp edges d gr band) ≡ enc (screening path dp' edges d' gr' band)
same-screening path [] band dp dp' d d' gr gr' e f g = refl
same-screening path (edge ∷ others) band dp dp' d d' gr gr' e f g =
    let edges = edge ∷ others in
    same-over (list_any is_above edges) (top_attenuation path dp edges d band) (top_attenuation path dp' edges d' band) (greatest (single_arguments path edges d band)) (greatest (single_arguments path edges d' band)) gr gr'
    (same-greatest (top_attenuations path dp edges d band) (top_attenuations path dp' edges d' band) (same-top_attenuations path dp dp' edges band d d' e f))
    (same-greatest (single_arguments path edges d band) (single_arguments path edges d' band) (same-map (λ edge. single_argument path edge d band) (λ edge. single_argument path edge d' band) (λ edge. same-single_argument path edge band d d' f) edges)) g
