-- Pairs that are prepared one after another.
use Rattle.std.proofs.Common.{◌≡◌, ℕ, ◌+◌, add-one, true, false, List, [], ◌∷◌, ◌++◌, map, ap, sym, refl, ◌∙◌, append_assoc, append-nil}
use Rattle.std.proofs.lemmas.List.{map-append}
use Rattle.fix_interval.specs.Interval.{Interval}
use Rattle.scene_geom.specs.declared.band.Band.{Band}
use Rattle.scene_parts.specs.declared.screening.edge.Edge.{Edge}
use Rattle.path_shape.specs.declared.path.Path.{Path}
use Rattle.term_barrier.specs.declared.single.SingleDiffraction.{SingleDiffraction}
use Rattle.term_barrier.specs.declared.pair.DoubleDiffraction.{DoubleDiffraction}
use Rattle.term_barrier.specs.declared.pair.edge_pair.EdgePair.{EdgePair}
use Rattle.term_barrier.specs.Screening.{edges_in}
use Rattle.term_barrier.specs.inner.Prepared.{Adds, IsPair, IsNoPair, StandFor, risen, edge_pair_value, numbered_value}
use Rattle.term_barrier.proofs.Raising.{stand-same, stand-append, stand-without}

abbrev pub Edges : Type 0
Edges = List ((ℕ × Edge) × (ℕ × Edge))

-- what there is and what remains stand for what there was before and all that comes
abbrev pub Remains : Path → Interval → List EdgePair → Edges → List EdgePair → Edges → Type 0
Remains path d now rest before all =
    (band : Band)
    → StandFor
    (map (edge_pair_value band) now ++ map (numbered_value path d band) rest)
    (map (edge_pair_value band) before ++ map (numbered_value path d band) all)

pub remains-all : (path : Path) (d : Interval) (before : List EdgePair) (all : Edges) → Remains path d before all before all
remains-all path d before all = λ band marks best h. refl

pub remains-none : (path : Path) (d : Interval) (now : List EdgePair) (rest : Edges) (before : List EdgePair) (all : Edges) → rest ≡ []
    → Remains path d now rest before all → Adds path d before now all
remains-none path d now rest before all e h = λ band marks best k.
    stand-same (map (edge_pair_value band) now) (map (edge_pair_value band) now ++ map (numbered_value path d band) rest)
    (sym (append-nil (map (edge_pair_value band) now)) ∙ ap (λ pairs. map (edge_pair_value band) now ++ map (numbered_value path d band) pairs) (sym e))
    marks best k
    ∙ h band marks best k

-- some more of what remains
pub remains-step : (path : Path) (d : Interval) (now new : List EdgePair) (here next rest : Edges) (before : List EdgePair) (all : Edges)
    → Adds path d now new next → here ≡ next ++ rest → Remains path d now here before all → Remains path d new rest before all
remains-step path d now new here next rest before all added e h = λ band marks best k.
    stand-append (map (edge_pair_value band) new) (map (edge_pair_value band) now ++ map (numbered_value path d band) next) (map (numbered_value path d band) rest)
    (added band) marks best k
    ∙ stand-same ((map (edge_pair_value band) now ++ map (numbered_value path d band) next) ++ map (numbered_value path d band) rest)
    (map (edge_pair_value band) now ++ map (numbered_value path d band) here)
    (append_assoc (map (edge_pair_value band) now) (map (numbered_value path d band) next) (map (numbered_value path d band) rest)
    ∙ ap (λ values. map (edge_pair_value band) now ++ values) (sym (map-append (numbered_value path d band) next rest))
    ∙ ap (λ pairs. map (edge_pair_value band) now ++ map (numbered_value path d band) pairs) (sym e))
    marks best k
    ∙ h band marks best k

pub remains-same : (path : Path) (d : Interval) (now : List EdgePair) (here rest : Edges) (before : List EdgePair) (all : Edges)
    → here ≡ rest → Remains path d now here before all → Remains path d now rest before all
remains-same path d now here rest before all e h = rw e at h

-- two edges that are kept
pub pair-kept : (path : Path) (d : Interval) (i j : ℕ) (first second : Edge) (diffraction : DoubleDiffraction) (before after : List EdgePair)
    → IsPair path d first second diffraction → after ≡ before ++ record { first = i; second = j; diffraction = diffraction } ∷ []
    → Adds path d before after (((i, first), (j, second)) ∷ [])
pair-kept path d i j first second diffraction before after h e = λ band.
    stand-same _ _
    (ap (map (edge_pair_value band)) e
    ∙ map-append (edge_pair_value band) before (record { first = i; second = j; diffraction = diffraction } ∷ [])
    ∙ ap (λ values. map (edge_pair_value band) before ++ values) (rw (h band) refl))

-- and two that aren't
pub pair-left : (path : Path) (d : Interval) (i j : ℕ) (first second : Edge) (before after : List EdgePair)
    → IsNoPair path d first second → after ≡ before → Adds path d before after (((i, first), (j, second)) ∷ [])
pair-left path d i j first second before after h e = λ band.
    rw e (stand-without (map (edge_pair_value band) before) (numbered_value path d band ((i, first), (j, second))) (h band))

-- the risen edges from one on
pub risen-kept : (n : ℕ) (single : SingleDiffraction) (here next : List SingleDiffraction) → here ≡ single ∷ next → single.passage.edge.above ≡ true
    → risen n (edges_in here) ≡ (n, single.passage.edge) ∷ risen (n + 1) (edges_in next)
risen-kept n single here next e t = rw e (rw (t, add-one) refl)

pub risen-left : (n : ℕ) (single : SingleDiffraction) (here next : List SingleDiffraction) → here ≡ single ∷ next → single.passage.edge.above ≡ false
    → risen n (edges_in here) ≡ risen (n + 1) (edges_in next)
risen-left n single here next e t = rw e (rw (t, add-one) refl)
