-- Crossings without their numbers are edges, and cuts tell which obstacles screen.
use Rattle.std.proofs.Common.{◌≡◌, ℕ, suc, ◌+◌, ◌<◌, ◌≤◌, List, [], ◌∷◌, ◌++◌, length, map, filter, ap, sym, ◌∙◌, refl, arith, add-zero, zero-add, append_assoc}
use Rattle.std.specs.Prelude.{Option, Some, None, Bool, true, false, ◌&&◌, ◌||◌, ◌==◌}
use Rattle.std.specs.List.{filter_map, list_any}
use Rattle.std.proofs.lemmas.List.{map-append}
use Rattle.std.proofs.lemmas.List.Elements.{filter-append}
use Rattle.std.proofs.lemmas.List.Folds.{list_any-append}
use Rattle.scene_geom.specs.declared.plan.Side.{Side}
use Rattle.scene_geom.specs.declared.band.Band.{Band}
use Rattle.scene_geom.specs.Bands.{all_bands}
use Rattle.scene_geom.proofs.BandLemmas.{at-place}
use Rattle.scene_parts.specs.Parts.{Obstacle, sides_of}
use Rattle.scene_parts.specs.declared.screening.edge.Edge.{Edge}
use Rattle.scene_parts.specs.declared.screening.cuts.Cut.{Cut}
use Rattle.scene_parts.specs.declared.screening.ends.Ends.{Ends}
use Rattle.scene_parts.specs.declared.screening.crossing.Crossing.{Crossing}
use Rattle.scene_parts.specs.Crossings.{counts_in, is_crossing_in, cut_of}
use Rattle.sight_cut.specs.Cuts.{edge_of, edges_of, edges_in, screens_in, crossing_of, before_all, crossings_along, crossings_from}
use Rattle.scene_parts.proofs.Counted.{where_true, none-counted, more-counted}
use Rattle.sight_cut.specs.Laws.{CrossingsAreEdges, CutsTellScreens}

-- of the crossings of one obstacle all count in a band, or none
abbrev in_band_of : Band → List Crossing → List Crossing
in_band_of band crossings = filter (is_crossing_in band) crossings

edges-along : (band : Band) (ends : Ends) (i k : ℕ) (o : Obstacle) (sides : List Side)
    → map (λ c. c.edge) (in_band_of band (crossings_along ends i k o sides)) ≡ where_true (counts_in band ends o) (filter_map (edge_of ends o.h) sides)
edges-along band ends i k o [] = none-counted (counts_in band ends o) [] refl
edges-along band ends i k o (side ∷ sides) = by_edge (edge_of ends o.h side) refl (edges-along band ends i (suc k) o sides) where
  by_edge : (edge : Option Edge) → edge_of ends o.h side ≡ edge
      → map (λ c. c.edge) (in_band_of band (crossings_along ends i (suc k) o sides)) ≡ where_true (counts_in band ends o) (filter_map (edge_of ends o.h) sides)
      → map (λ c. c.edge) (in_band_of band (crossings_along ends i k o (side ∷ sides))) ≡ where_true (counts_in band ends o) (filter_map (edge_of ends o.h) (side ∷ sides))
  by_edge None e h = rw e h
  by_edge (Some edge) e h =
      rw e (more-counted (is_crossing_in band) (λ (c : Crossing). c.edge) (counts_in band ends o) (record { obstacle = i; side = k; edge = edge; bands = map (λ band. counts_in band ends o) all_bands })
      (crossings_along ends i (suc k) o sides) (filter_map (edge_of ends o.h) sides)
      (at-place (λ band. counts_in band ends o) false band) h)

edges-from : (band : Band) (ends : Ends) (i : ℕ) (obstacles : List Obstacle)
    → map (λ c. c.edge) (in_band_of band (crossings_from ends i obstacles)) ≡ edges_in band ends obstacles
edges-from band ends i [] = refl
edges-from band ends i (o ∷ obstacles) =
    ap (map (λ (c : Crossing). c.edge)) (filter-append (is_crossing_in band) (crossings_along ends i 0 o (sides_of o)) (crossings_from ends (suc i) obstacles))
    ∙ map-append (λ (c : Crossing). c.edge) (in_band_of band (crossings_along ends i 0 o (sides_of o))) (in_band_of band (crossings_from ends (suc i) obstacles))
    ∙ ap (λ edges. edges ++ map (λ (c : Crossing). c.edge) (in_band_of band (crossings_from ends (suc i) obstacles))) (edges-along band ends i 0 o (sides_of o))
    ∙ ap (λ edges. where_true (counts_in band ends o) (edges_of ends o) ++ edges) (edges-from band ends (suc i) obstacles)
    ∙ first-edges (counts_in band ends o) refl
  where
    first-edges : (test : Bool) → counts_in band ends o ≡ test → where_true (counts_in band ends o) (edges_of ends o) ++ edges_in band ends obstacles ≡ edges_in band ends (o ∷ obstacles)
    first-edges true e = rw e refl
    first-edges false e = rw e refl

pub crossings-are-edges : CrossingsAreEdges
crossings-are-edges band ends obstacles = edges-from band ends 0 obstacles

-- ---- which obstacles screen

-- a cut of the obstacle with this number rises above the line of sight
abbrev shows : ℕ → Cut → Bool
shows n cut = cut.obstacle == n && cut.above

abbrev any_cut : Band → ℕ → List Crossing → Bool
any_cut band n crossings = list_any (shows n) (map cut_of (in_band_of band crossings))

cuts-append : (band : Band) (n : ℕ) (xs ys : List Crossing) → any_cut band n (xs ++ ys) ≡ (any_cut band n xs || any_cut band n ys)
cuts-append band n xs ys =
    ap (λ cs. list_any (shows n) (map cut_of cs)) (filter-append (is_crossing_in band) xs ys)
    ∙ ap (list_any (shows n)) (map-append cut_of (in_band_of band xs) (in_band_of band ys))
    ∙ list_any-append (shows n) (map cut_of (in_band_of band xs)) (map cut_of (in_band_of band ys))

-- a crossing before others, in the band or not
more-cuts : (test : Bool) (band : Band) (n : ℕ) (c : Crossing) (others : List Crossing) → is_crossing_in band c ≡ test
    → any_cut band n (c ∷ others) ≡ ((test && shows n (cut_of c)) || any_cut band n others)
more-cuts true band n c others e = rw e refl
more-cuts false band n c others e = rw e refl

none-shown : (test : Bool) → ((test && false) || false) ≡ false
none-shown true = refl
none-shown false = refl

-- crossings of another obstacle don't show this one
other-along : (band : Band) (n : ℕ) (ends : Ends) (i k : ℕ) (o : Obstacle) (sides : List Side) → (i == n) ≡ false → any_cut band n (crossings_along ends i k o sides) ≡ false
other-along band n ends i k o [] other = refl
other-along band n ends i k o (side ∷ sides) other = by_edge (edge_of ends o.h side) refl (other-along band n ends i (suc k) o sides other) where
  by_edge : (edge : Option Edge) → edge_of ends o.h side ≡ edge → any_cut band n (crossings_along ends i (suc k) o sides) ≡ false
      → any_cut band n (before_all (crossing_of ends i k o side) (crossings_along ends i (suc k) o sides)) ≡ false
  by_edge None e h = rw e h
  by_edge (Some edge) e h =
      let c : Crossing = record { obstacle = i; side = k; edge = edge; bands = map (λ band. counts_in band ends o) all_bands } in
      rw e (more-cuts (counts_in band ends o) band n c (crossings_along ends i (suc k) o sides) (at-place (λ band. counts_in band ends o) false band) ∙ rw (h, other) (none-shown (counts_in band ends o)))

later : (n i : ℕ) → n < i → (i == n) ≡ false
later n i h = grind arith

earlier : (n i : ℕ) → i < n → (i == n) ≡ false
earlier n i h = grind arith

after-none : (band : Band) (n : ℕ) (ends : Ends) (i : ℕ) (obstacles : List Obstacle) → n < i → any_cut band n (crossings_from ends i obstacles) ≡ false
after-none band n ends i [] h = refl
after-none band n ends i (o ∷ obstacles) h =
    cuts-append band n (crossings_along ends i 0 o (sides_of o)) (crossings_from ends (suc i) obstacles)
    ∙ rw (other-along band n ends i 0 o (sides_of o) (later n i h), after-none band n ends (suc i) obstacles (omega (arith, h))) refl

before-none : (band : Band) (n : ℕ) (ends : Ends) (i : ℕ) (obstacles : List Obstacle) (rest : List Crossing) → i + length obstacles ≤ n
    → any_cut band n (crossings_from ends i obstacles ++ rest) ≡ any_cut band n rest
before-none band n ends i [] rest h = refl
before-none band n ends i (o ∷ obstacles) rest h =
    ap (any_cut band n) (append_assoc (crossings_along ends i 0 o (sides_of o)) (crossings_from ends (suc i) obstacles) rest)
    ∙ cuts-append band n (crossings_along ends i 0 o (sides_of o)) (crossings_from ends (suc i) obstacles ++ rest)
    ∙ rw (other-along band n ends i 0 o (sides_of o) (earlier n i (omega (arith, h)))) (before-none band n ends (suc i) obstacles rest (omega (arith, h)))

from-append : (ends : Ends) (i : ℕ) (xs ys : List Obstacle) → crossings_from ends i (xs ++ ys) ≡ crossings_from ends i xs ++ crossings_from ends (i + length xs) ys
from-append ends i [] ys = rw add-zero refl
from-append ends i (x ∷ xs) ys =
    ap (λ cs. crossings_along ends i 0 x (sides_of x) ++ cs) (from-append ends (suc i) xs ys ∙ ap (λ j. crossings_from ends (suc i) xs ++ crossings_from ends j ys) (omega arith))
    ∙ sym (append_assoc (crossings_along ends i 0 x (sides_of x)) (crossings_from ends (suc i) xs) (crossings_from ends (i + length (x ∷ xs)) ys))

-- those of the obstacle itself show it where it is large enough and an edge rises
own-along : (band : Band) (ends : Ends) (i k : ℕ) (o : Obstacle) (sides : List Side)
    → any_cut band i (crossings_along ends i k o sides) ≡ (counts_in band ends o && list_any (λ edge. edge.above) (filter_map (edge_of ends o.h) sides))
own-along band ends i k o [] = nothing (counts_in band ends o) where
  nothing : (test : Bool) → false ≡ (test && false)
  nothing true = refl
  nothing false = refl
own-along band ends i k o (side ∷ sides) = by_edge (edge_of ends o.h side) refl (own-along band ends i (suc k) o sides) where
  same : (i : ℕ) → (i == i) ≡ true
  same i = grind arith

  parts : (test above rest : Bool) → ((test && (true && above)) || (test && rest)) ≡ (test && (above || rest))
  parts true above rest = refl
  parts false above rest = refl

  by_edge : (edge : Option Edge) → edge_of ends o.h side ≡ edge
      → any_cut band i (crossings_along ends i (suc k) o sides) ≡ (counts_in band ends o && list_any (λ edge. edge.above) (filter_map (edge_of ends o.h) sides))
      → any_cut band i (before_all (crossing_of ends i k o side) (crossings_along ends i (suc k) o sides))
      ≡ (counts_in band ends o && list_any (λ edge. edge.above) (filter_map (edge_of ends o.h) (side ∷ sides)))
  by_edge None e h = rw e h
  by_edge (Some edge) e h =
      let c : Crossing = record { obstacle = i; side = k; edge = edge; bands = map (λ band. counts_in band ends o) all_bands } in
      rw e (more-cuts (counts_in band ends o) band i c (crossings_along ends i (suc k) o sides) (at-place (λ band. counts_in band ends o) false band)
      ∙ rw (h, same i) (parts (counts_in band ends o) edge.above (list_any (λ (edge : Edge). edge.above) (filter_map (edge_of ends o.h) sides))))

pub cuts-tell-screens : CutsTellScreens
cuts-tell-screens band ends before after o =
    let n = length before in
    ap (any_cut band n) (from-append ends 0 before (o ∷ after))
    ∙ before-none band n ends 0 before (crossings_from ends (0 + n) (o ∷ after)) (omega arith)
    ∙ ap (λ j. any_cut band n (crossings_from ends j (o ∷ after))) (zero-add n)
    ∙ cuts-append band n (crossings_along ends n 0 o (sides_of o)) (crossings_from ends (suc n) after)
    ∙ rw (own-along band ends n 0 o (sides_of o), after-none band n ends (suc n) after (omega arith)) (or-false (screens_in band ends o))
  where
    or-false : (test : Bool) → (test || false) ≡ test
    or-false true = refl
    or-false false = refl
