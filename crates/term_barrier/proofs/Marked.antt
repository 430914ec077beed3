-- What a band makes of marked edges that were prepared is what it makes of these edges alone.
use Rattle.std.proofs.Common.{◌≡◌, ℕ, suc, ap, sym, refl, ◌∙◌, Bool, true, false, List, [], ◌∷◌, map, drop}
use Rattle.std.specs.Prelude.{filter, if◌then◌else◌, Option, Some, None, IsSomeAnd}
use Rattle.std.specs.List.{All, AllByRecursion}
use Rattle.std.proofs.lemmas.List.Elements.{recursion_from_All}
use Rattle.fix_interval.specs.Interval.{Interval}
use Rattle.fix_interval.specs.Tree.{Known, enc}
use Rattle.scene_geom.specs.declared.band.Band.{Band}
use Rattle.scene_parts.specs.declared.screening.edge.Edge.{Edge}
use Rattle.path_shape.specs.declared.path.Path.{Path}
use Rattle.term_barrier.specs.declared.single.SingleDiffraction.{SingleDiffraction}
use Rattle.term_barrier.specs.declared.pair.edge_pair.EdgePair.{EdgePair}
use Rattle.term_barrier.specs.Diffraction.{at_one_edge, attenuation, ten_lg, double_limit}
use Rattle.term_barrier.specs.Edges.{single_argument}
use Rattle.term_barrier.specs.Screening.{Passing, is_above, edges_above, marked, pairs_of, screening, edges_in}
use Rattle.term_barrier.specs.inner.Prepared.{single_of, known_argument, known_single, single_is_above, single_value, argument_value, both_value, joint_value, risen, rising_from, is_marked, edge_pair_value, numbered_value, are_marked, marked_values, Numbered, IsSingle, IsRaised, IsDecided, ArePrepared, greatest_from, best_alone, best_marked, best_over, best_argument, screened_by}
use Rattle.term_barrier.proofs.Screened.{screening-is}
use Rattle.term_barrier.proofs.Lists.{map-map, map-same, filter-map, both, each, filter-pairs, map-pairs, marked-map, marked-none, marked-step}

-- ---- edges alone

pub argument-known : (path : Path) (d : Interval) (band : Band) (edge : Edge) → known_argument band (single_of path d edge) ≡ argument_value path d band edge
unfolding single_argument at_one_edge
argument-known path d band edge = refl

pub single-known : (path : Path) (d : Interval) (band : Band) (edge : Edge) → known_single band (single_of path d edge) ≡ single_value path d band edge
unfolding single_argument at_one_edge attenuation ten_lg
single-known path d band edge = refl

pub arguments-known : (path : Path) (d : Interval) (band : Band) (marks : List Bool) (edges : List Edge)
    → map (known_argument band) (marked marks (map (single_of path d) edges)) ≡ map (argument_value path d band) (marked marks edges)
arguments-known path d band marks edges =
    ap (map (known_argument band)) (marked-map (single_of path d) marks edges)
    ∙ map-map (known_argument band) (single_of path d) (marked marks edges)
    ∙ map-same _ _ (argument-known path d band) (marked marks edges)

pub singles-known : (path : Path) (d : Interval) (band : Band) (marks : List Bool) (edges : List Edge)
    → map (known_single band) (filter single_is_above (marked marks (map (single_of path d) edges)))
    ≡ map (single_value path d band) (edges_above (marked marks edges))
singles-known path d band marks edges =
    ap (λ singles. map (known_single band) (filter single_is_above singles)) (marked-map (single_of path d) marks edges)
    ∙ ap (map (known_single band)) (filter-map single_is_above (single_of path d) (marked marks edges))
    ∙ map-map (known_single band) (single_of path d) (edges_above (marked marks edges))
    ∙ map-same _ _ (single-known path d band) (edges_above (marked marks edges))

-- ---- pairs

abbrev is_numbered : List Bool → ℕ × Edge → Bool
is_numbered marks edge = is_marked marks edge.0

abbrev edge_in : ℕ × Edge → Edge
edge_in edge = edge.1

-- the marked edges that rise, found by their numbers
risen-marked : (marks : List Bool) (n : ℕ) (edges : List Edge)
    → map edge_in (filter (is_numbered marks) (risen n edges)) ≡ edges_above (marked (drop n marks) edges)
risen-marked marks n [] = sym (ap edges_above (marked-none (drop n marks)))
risen-marked marks n (edge ∷ edges) =
    by_tests edge.above (is_marked marks n) refl refl (risen-marked marks (suc n) edges)
    ∙ sym (ap edges_above (marked-step marks n edge edges))
  where
    by_tests : (above mark : Bool) → edge.above ≡ above → is_marked marks n ≡ mark
        → map edge_in (filter (is_numbered marks) (risen (suc n) edges)) ≡ edges_above (marked (drop (suc n) marks) edges)
        → map edge_in (filter (is_numbered marks) (risen n (edge ∷ edges)))
        ≡ edges_above (if is_marked marks n then edge ∷ marked (drop (suc n) marks) edges else marked (drop (suc n) marks) edges)
    by_tests true true e f h = rw (e, f, h) refl
    by_tests true false e f h = rw (e, f, h) refl
    by_tests false true e f h = rw (e, f, h) refl
    by_tests false false e f h = rw (e, f, h) refl

pairs-marked : (path : Path) (d : Interval) (band : Band) (marks : List Bool) (edges : List Edge)
    → marked_values marks (map (numbered_value path d band) (pairs_of (risen 0 edges)))
    ≡ map (both_value path d band) (pairs_of (edges_above (marked marks edges)))
pairs-marked path d band marks edges =
    ap (map (λ (pair : Numbered). pair.2)) (filter-map (are_marked marks) (numbered_value path d band) (pairs_of (risen 0 edges)))
    ∙ map-map (λ (pair : Numbered). pair.2) (numbered_value path d band) (filter (both (is_numbered marks)) (pairs_of (risen 0 edges)))
    ∙ ap (map (λ (pair : (ℕ × Edge) × (ℕ × Edge)). both_value path d band (pair.0.1, pair.1.1))) (filter-pairs (is_numbered marks) (risen 0 edges))
    ∙ sym (map-map (both_value path d band) (each edge_in) (pairs_of (filter (is_numbered marks) (risen 0 edges))))
    ∙ ap (map (both_value path d band)) (map-pairs edge_in (filter (is_numbered marks) (risen 0 edges)))
    ∙ ap (λ edges. map (both_value path d band) (pairs_of edges)) (risen-marked marks 0 edges)

abbrev edge_of : SingleDiffraction → Edge
edge_of single = single.passage.edge

-- the pairs of what was prepared are those of the edges
rising-known : (path : Path) (d : Interval) (band : Band) (marks : List Bool) (singles : List SingleDiffraction)
    → map (joint_value path d band) (pairs_of (rising_from 0 marks singles))
    ≡ map (both_value path d band) (pairs_of (edges_above (marked marks (edges_in singles))))
rising-known path d band marks singles =
    let rising = filter single_is_above (marked marks singles) in
    sym (map-map (both_value path d band) (each edge_of) (pairs_of rising))
    ∙ ap (map (both_value path d band)) (map-pairs edge_of rising)
    ∙ ap (λ edges. map (both_value path d band) (pairs_of edges))
    (sym (filter-map is_above edge_of (marked marks singles)) ∙ ap edges_above (sym (marked-map edge_of marks singles)))

-- what was prepared of edges alone is that of its own edges
pub singles-are : (path : Path) (d : Interval) (singles : List SingleDiffraction) → All (IsSingle path d) singles → singles ≡ map (single_of path d) (edges_in singles)
singles-are path d singles h = along singles (recursion_from_All (IsSingle path d) singles h) where
  along : (singles : List SingleDiffraction) → AllByRecursion (IsSingle path d) singles → singles ≡ map (single_of path d) (edges_in singles)
  along [] h = refl
  along (single ∷ singles) h = next single singles h.0 (along singles h.1) where
    next : (single : SingleDiffraction) (singles : List SingleDiffraction) → IsSingle path d single → singles ≡ map (single_of path d) (edges_in singles)
        → single ∷ singles ≡ map (single_of path d) (edges_in (single ∷ singles))
    next single singles h k = ap (λ s. s ∷ singles) h.is ∙ ap (λ others. single_of path d single.passage.edge ∷ others) k

-- ---- what is greatest

pub over-known : (path : Path) (d : Interval) (singles : List SingleDiffraction) (band : Band) (marks : List Bool)
    → All (IsSingle path d) singles → best_marked path d band marks singles ≡ best_over path d band (marked marks (edges_in singles))
over-known path d singles band marks h =
    let edges = edges_in singles in
    let first = ap (λ (singles : List SingleDiffraction). map (known_single band) (filter single_is_above (marked marks singles))) (singles-are path d singles h) ∙ singles-known path d band marks edges in
    ap (λ (from : Option Interval). greatest_from from (map (joint_value path d band) (pairs_of (rising_from 0 marks singles)))) (ap (greatest_from None) first)
    ∙ ap (greatest_from (greatest_from None (map (single_value path d band) (edges_above (marked marks edges))))) (rising-known path d band marks singles)

-- where the pairs that were kept decide, so do all pairs
pub decided-all : (path : Path) (d : Interval) (singles : List SingleDiffraction) (pairs : List EdgePair) (band : Band) (marks : List Bool) (number : Interval)
    → ArePrepared path d singles pairs → IsDecided band marks singles pairs number
    → Some (enc (attenuation double_limit (Known number))) ≡ best_marked path d band marks singles
decided-all path d singles pairs band marks number h k = by_best (best_alone band marks singles) refl k where
  by_best : (best : Option Interval) → best_alone band marks singles ≡ best
      → IsSomeAnd best (λ best. IsRaised best
      × (greatest_from (Some best) (marked_values marks (map (edge_pair_value band) pairs)) ≡ Some (enc (attenuation double_limit (Known number)))))
      → Some (enc (attenuation double_limit (Known number))) ≡ best_marked path d band marks singles
  by_best None e k = absurd k
  by_best (Some best) e k =
      sym k.1 ∙ h.pairs_are band marks best k.0
      ∙ ap (greatest_from (Some best)) (pairs-marked path d band marks (edges_in singles) ∙ sym (rising-known path d band marks singles))
      ∙ ap (λ (from : Option Interval). greatest_from from (map (joint_value path d band) (pairs_of (rising_from 0 marks singles)))) (sym e)

pub argument-over : (path : Path) (d : Interval) (singles : List SingleDiffraction) (band : Band) (marks : List Bool) → All (IsSingle path d) singles
    → greatest_from None (map (known_argument band) (marked marks singles)) ≡ best_argument path d band (marked marks (edges_in singles))
argument-over path d singles band marks h =
    ap (λ (singles : List SingleDiffraction). greatest_from None (map (known_argument band) (marked marks singles))) (singles-are path d singles h)
    ∙ ap (greatest_from None) (arguments-known path d band marks (edges_in singles))

-- A_bar, from what was prepared
pub screened-known : (now : Passing) (path : Path) (d gr : Interval) (singles : List SingleDiffraction) (pairs : List EdgePair) (band : Band) (marks : List Bool)
    (best argument : Option Interval) → ArePrepared path d singles pairs
    → record { path = path; edges = edges_in singles; d = d } ≡ now
    → best ≡ best_marked path d band marks singles
    → argument ≡ greatest_from None (map (known_argument band) (marked marks singles))
    → screened_by best argument gr ≡ enc (screening now.path (Known now.path.dp) (marked marks now.edges) (Known now.d) (Known gr) band)
screened-known now path d gr singles pairs band marks best argument h view b g =
    let edges = marked marks (edges_in singles) in
    ap (λ (best : Option Interval). screened_by best argument gr) (b ∙ over-known path d singles band marks h.singles_are)
    ∙ ap (λ (argument : Option Interval). screened_by (best_over path d band edges) argument gr) (g ∙ argument-over path d singles band marks h.singles_are)
    ∙ sym (screening-is path d gr band edges)
    ∙ ap (λ (v : Passing). enc (screening v.path (Known v.path.dp) (marked marks v.edges) (Known v.d) (Known gr) band)) view
