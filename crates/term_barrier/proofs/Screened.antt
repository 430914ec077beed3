-- A_bar by the greatest attenuation over the top and the greatest that stands under a logarithm.
use Rattle.std.proofs.Common.{◌≡◌, ap, sym, refl, ◌∙◌, Bool, true, false, List, [], ◌∷◌, ◌++◌, map}
use Rattle.std.specs.Prelude.{Option, Some, None, unwrap_or}
use Rattle.std.specs.Option.{option_map}
use Rattle.std.specs.List.{reduce, list_any}
use Rattle.std.proofs.lemmas.List.{map-append}
use Rattle.std.proofs.lemmas.Bool.{false≢true}
use Rattle.fix_interval.specs.Interval.{Interval}
use Rattle.fix_interval.specs.Tree.{Tree, Known, Max, enc}
use Rattle.scene_geom.specs.declared.band.Band.{Band}
use Rattle.scene_parts.specs.declared.screening.edge.Edge.{Edge}
use Rattle.path_shape.specs.declared.path.Path.{Path}
use Rattle.term_barrier.specs.Diffraction.{whole, attenuation, ten_lg}
use Rattle.term_barrier.specs.Edges.{single_argument, single_attenuation, pair_attenuation}
use Rattle.term_barrier.specs.Screening.{is_above, edges_above, pairs_of, greatest, top_attenuations, top_attenuation, single_arguments, less_ground, grazing, screening}
use Rattle.term_barrier.specs.inner.Prepared.{greatest_from, single_value, both_value, best_over, best_argument, screened_by}
use Rattle.term_barrier.proofs.Lists.{map-map}
use Rattle.term_barrier.proofs.Greatest.{greatest-append, greatest-reduce}

values-are : (path : Path) (d : Interval) (band : Band) (edges : List Edge)
    → map enc (top_attenuations path (Known path.dp) edges (Known d) band)
    ≡ map (single_value path d band) (edges_above edges) ++ map (both_value path d band) (pairs_of (edges_above edges))
values-are path d band edges =
    map-append enc (map (λ edge. single_attenuation path edge (Known d) band) (edges_above edges))
    (map (λ pair. pair_attenuation path (Known path.dp) pair.0 pair.1 (Known d) band) (pairs_of (edges_above edges)))
    ∙ rw (
      map-map enc (λ (edge : Edge). single_attenuation path edge (Known d) band) (edges_above edges),
      map-map enc (λ (pair : Edge × Edge). pair_attenuation path (Known path.dp) pair.0 pair.1 (Known d) band) (pairs_of (edges_above edges)),
    ) refl

pub over-is : (path : Path) (d : Interval) (band : Band) (edges : List Edge)
    → best_over path d band edges ≡ option_map enc (reduce Max (top_attenuations path (Known path.dp) edges (Known d) band))
over-is path d band edges =
    sym (greatest-append None (map (single_value path d band) (edges_above edges)) (map (both_value path d band) (pairs_of (edges_above edges))))
    ∙ ap (greatest_from None) (sym (values-are path d band edges))
    ∙ greatest-reduce (top_attenuations path (Known path.dp) edges (Known d) band)

pub argument-is : (path : Path) (d : Interval) (band : Band) (edges : List Edge)
    → best_argument path d band edges ≡ option_map enc (reduce Max (single_arguments path edges (Known d) band))
argument-is path d band edges =
    ap (greatest_from None) (sym (map-map enc (λ (edge : Edge). single_argument path edge (Known d) band) edges))
    ∙ greatest-reduce (single_arguments path edges (Known d) band)

-- the greatest of formulas, where there are some
unwrapped : (best : Option Tree) → unwrap_or (option_map enc best) (enc (whole 0)) ≡ enc (unwrap_or best (whole 0))
unwrapped None = refl
unwrapped (Some t) = refl

pub top-is : (path : Path) (d : Interval) (band : Band) (edges : List Edge)
    → unwrap_or (best_over path d band edges) (enc (whole 0)) ≡ enc (top_attenuation path (Known path.dp) edges (Known d) band)
top-is path d band edges =
    ap (λ (best : Option Interval). unwrap_or best (enc (whole 0))) (over-is path d band edges)
    ∙ unwrapped (reduce Max (top_attenuations path (Known path.dp) edges (Known d) band))

none-above : (edges : List Edge) → list_any is_above edges ≡ false → edges_above edges ≡ []
none-above [] e = refl
none-above (edge ∷ edges) e = by_test edge.above refl e (none-above edges) where
  by_test : (test : Bool) → edge.above ≡ test → list_any is_above (edge ∷ edges) ≡ false
      → (list_any is_above edges ≡ false → edges_above edges ≡ []) → edges_above (edge ∷ edges) ≡ []
  by_test true f h others = absurd (false≢true (sym (rw f at h)))
  by_test false f h others = rw f (others (rw f at h))

record SomeAbove (edges : List Edge) : Type 0 where
  first : Edge
  others : List Edge
  are : edges_above edges ≡ first ∷ others

some-above : (edges : List Edge) → list_any is_above edges ≡ true → SomeAbove edges
some-above [] e = absurd (false≢true e)
some-above (edge ∷ edges) e = by_test edge.above refl e (some-above edges) where
  by_test : (test : Bool) → edge.above ≡ test → list_any is_above (edge ∷ edges) ≡ true
      → (list_any is_above edges ≡ true → SomeAbove edges) → SomeAbove (edge ∷ edges)
  by_test true f h others = record { first = edge; others = edges_above edges; are = rw f refl }
  by_test false f h others =
      let some = others (rw f at h) in
      record { first = some.first; others = some.others; are = rw f some.are }

known-grazing : (b gr : Tree) → enc (grazing b gr) ≡ enc (grazing (Known (enc b)) (Known (enc gr)))
unfolding attenuation ten_lg
known-grazing b gr = refl

-- where an edge rises above the line of sight
over-top : (path : Path) (d gr : Interval) (band : Band) (edges : List Edge) (argument : Option Interval) → SomeAbove edges
    → enc (less_ground (top_attenuation path (Known path.dp) edges (Known d) band) (Known gr)) ≡ screened_by (best_over path d band edges) argument gr
over-top path d gr band edges argument some = rw (over-is path d band edges, some.are) refl

-- where none does
below : (path : Path) (d gr : Interval) (band : Band) (edge : Edge) (edges : List Edge) → edges_above (edge ∷ edges) ≡ []
    → enc (grazing (greatest (single_arguments path (edge ∷ edges) (Known d) band)) (Known gr))
    ≡ screened_by (best_over path d band (edge ∷ edges)) (best_argument path d band (edge ∷ edges)) gr
below path d gr band edge edges none =
    known-grazing (greatest (single_arguments path (edge ∷ edges) (Known d) band)) (Known gr)
    ∙ rw (none, argument-is path d band (edge ∷ edges)) refl

pub screening-is : (path : Path) (d gr : Interval) (band : Band) (edges : List Edge)
    → enc (screening path (Known path.dp) edges (Known d) (Known gr) band)
    ≡ screened_by (best_over path d band edges) (best_argument path d band edges) gr
screening-is path d gr band [] = refl
screening-is path d gr band (edge ∷ edges) = by_test (list_any is_above (edge ∷ edges)) refl where
  by_test : (test : Bool) → list_any is_above (edge ∷ edges) ≡ test
      → enc (screening path (Known path.dp) (edge ∷ edges) (Known d) (Known gr) band)
      ≡ screened_by (best_over path d band (edge ∷ edges)) (best_argument path d band (edge ∷ edges)) gr
  by_test true e = rw e (over-top path d gr band (edge ∷ edges) (best_argument path d band (edge ∷ edges)) (some-above (edge ∷ edges) e))
  by_test false e = rw e (below path d gr band edge edges (none-above (edge ∷ edges) e))
