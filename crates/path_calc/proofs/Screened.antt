-- Edges on the direct path, and by how much it is screened.
use Rattle.std.proofs.Common.{◌≡◌, ℕ, ◌<◌, Bool, true, false, List, [], ◌∷◌, length, get_or, map, filter, refl, sym, ap, ◌∙◌}
use Rattle.std.specs.Prelude.{◌||◌}
use Rattle.std.specs.List.{list_any}
use Rattle.std.proofs.lemmas.List.{get_or_default}
use Rattle.std.proofs.lemmas.List.Folds.{list_any-append}
use Rattle.fix_interval.specs.Interval.{Interval}
use Rattle.fix_interval.specs.Tree.{Known, enc}
use Rattle.scene_geom.specs.declared.band.Band.{Band}
use Rattle.scene_geom.specs.Bands.{all_bands, place_of}
use Rattle.scene_parts.specs.Parts.{Source, Receiver, Obstacle}
use Rattle.scene_book.specs.Book.{Book}
use Rattle.path_shape.specs.declared.path.Path.{Path}
use Rattle.scene_parts.specs.declared.screening.edge.Edge.{Edge}
use Rattle.scene_parts.specs.declared.screening.ends.Ends.{Ends}
use Rattle.scene_parts.specs.declared.screening.crossing.Crossing.{Crossing}
use Rattle.scene_parts.specs.Crossings.{counts_in, is_crossing_in}
use Rattle.sight_cut.specs.Cuts.{edges_of, edges_in, screens_in, crossings_of}
use Rattle.sight_cut.proofs.Edges.{crossings-are-edges}
use Rattle.term_barrier.specs.Screening.{marked, screening}
use Rattle.path_calc.specs.Surroundings.{ends_of, edges_at, surroundings_of}
use Rattle.path_calc.specs.inner.Hearing.{edges_among, where_asked, bar_over, bars_over}
use Rattle.path_calc.specs.Laws.{EdgesAreCuts}
use Rattle.path_calc.proofs.Eight.{at-place, map-same}

-- the edges marked in a band are those whose crossings count there
pub marked-is : (band : Band) (crossings : List Crossing) → marked (map (is_crossing_in band) crossings) (map (λ (c : Crossing). c.edge) crossings) ≡ edges_among band crossings
marked-is band [] = refl
marked-is band (c ∷ crossings) = by (is_crossing_in band c) refl (marked-is band crossings) where
  by : (test : Bool) → is_crossing_in band c ≡ test → marked (map (is_crossing_in band) crossings) (map (λ (c : Crossing). c.edge) crossings) ≡ edges_among band crossings
      → marked (is_crossing_in band c ∷ map (is_crossing_in band) crossings) (c.edge ∷ map (λ (c : Crossing). c.edge) crossings) ≡ edges_among band (c ∷ crossings)
  by true is rest = rw is (ap (λ edges. c.edge ∷ edges) rest)
  by false is rest = rw is rest

-- ---- A_bar in the bands

-- A_bar of the marked edges is that of the edges in the band
pub bar-is : (bar : Interval) (path : Path) (marks : List Bool) (edges : List Edge) (d gr default : Interval) (ground : List Interval) (i : ℕ) (band : Band) (crossings : List Crossing)
    → marks ≡ map (is_crossing_in band) crossings → edges ≡ map (λ (c : Crossing). c.edge) crossings → i ≡ place_of band → i < length ground → gr ≡ get_or ground i default
    → bar ≡ enc (screening path (Known path.dp) (marked marks edges) (Known d) (Known gr) band) → bar ≡ bar_over path (edges_among band crossings) d ground band
bar-is bar path marks edges d gr default ground i band crossings marks-are edges-are place below item is =
    let among : marked marks edges ≡ edges_among band crossings = ap (λ (ms : List Bool). marked ms edges) marks-are ∙ ap (marked (map (is_crossing_in band) crossings)) edges-are ∙ marked-is band crossings in
    let known : gr ≡ get_or ground (place_of band) d = item ∙ get_or_default ground i default d below ∙ ap (λ (k : ℕ). get_or ground k d) place in
    is
    ∙ ap (λ (es : List Edge). enc (screening path (Known path.dp) es (Known d) (Known gr) band)) among
    ∙ ap (λ (g : Interval). enc (screening path (Known path.dp) (edges_among band crossings) (Known d) (Known g) band)) known

-- those of all crossings are those of the edges in the bands
pub bars-are : (path : Path) (d : Interval) (ground : List Interval) (crossings : List Crossing) (ends : Ends) (obstacles : List Obstacle) (asked : Band → Bool) → crossings ≡ crossings_of ends obstacles
    → bars_over path (λ band. edges_among band crossings) d ground asked ≡ bars_over path (λ band. edges_in band ends obstacles) d ground asked
bars-are path d ground crossings ends obstacles asked crossings-are =
    map-same (λ band. where_asked (asked band) (bar_over path (edges_among band crossings) d ground band)) (λ band. where_asked (asked band) (bar_over path (edges_in band ends obstacles) d ground band))
    (λ band.
    ap (λ (cs : List Crossing). where_asked (asked band) (bar_over path (edges_among band cs) d ground band)) crossings-are
    ∙ ap (λ (es : List Edge). where_asked (asked band) (bar_over path es d ground band)) (crossings-are-edges band ends obstacles))
    all_bands

-- ---- the edges that are read

pub edges-there : (book : Book) (s : Source) (r : Receiver) (band : Band) → edges_at band (surroundings_of book s r) ≡ edges_in band (ends_of s r) book.obstacles
edges-there book s r band = at-place (λ band. edges_in band (ends_of s r) book.obstacles) [] band

-- an obstacle screens where an edge of those that are large enough rises above the line of sight
pub above-in : (band : Band) (ends : Ends) (obstacles : List Obstacle) → list_any (screens_in band ends) obstacles ≡ list_any (λ (edge : Edge). edge.above) (edges_in band ends obstacles)
above-in band ends [] = refl
above-in band ends (o ∷ obstacles) = by (counts_in band ends o) refl (above-in band ends obstacles) where
  by : (test : Bool) → counts_in band ends o ≡ test → list_any (screens_in band ends) obstacles ≡ list_any (λ (edge : Edge). edge.above) (edges_in band ends obstacles)
      → (screens_in band ends o || list_any (screens_in band ends) obstacles) ≡ list_any (λ (edge : Edge). edge.above) (edges_in band ends (o ∷ obstacles))
  by true is rest =
      rw (is, rest) (sym (list_any-append (λ (edge : Edge). edge.above) (edges_of ends o) (edges_in band ends obstacles)))
  by false is rest = rw is rest

pub edges-are-cuts : (book : Book) (s : Source) (r : Receiver) (band : Band) → EdgesAreCuts book s r band
edges-are-cuts book s r band =
    let ends = ends_of s r in
    record {
      crossings = filter (is_crossing_in band) (crossings_of ends book.obstacles);
      edges = edges-there book s r band ∙ sym (crossings-are-edges band ends book.obstacles);
      cuts = refl;
      screens = above-in band ends book.obstacles ∙ ap (list_any (λ (edge : Edge). edge.above)) (sym (edges-there book s r band));
    }
