-- The segments that are added to a trace, one after another, are those of the definition.
use Rattle.std.proofs.Common.{◌≡◌, ℕ, suc, ◌+◌, ◌<◌, ◌≤◌, Bool, true, false, List, [], ◌∷◌, ◌++◌, length, get_or, drop, map, refl, sym, ap, ◌∙◌, arith, append_assoc, append-nil}
use Rattle.std.specs.Prelude.{None, not, ◌||◌, ◌==◌, flat_map, if◌then◌else◌}
use Rattle.std.specs.List.{list_any}
use Rattle.std.proofs.lemmas.Bool.Decides.{nat_tests}
use Rattle.std.proofs.lemmas.List.{drop_more, drop_all}
use Rattle.scene_geom.specs.declared.plan.Pt.{Pt}
use Rattle.scene_geom.specs.declared.band.Band.{Band}
use Rattle.scene_geom.specs.declared.band.Band.TheVariants.{Hz63, Hz125, Hz250, Hz500, Hz1000, Hz2000, Hz4000, Hz8000}
use Rattle.scene_geom.specs.Bands.{all_bands}
use Rattle.scene_geom.specs.Crossing.{differ}
use Rattle.scene_geom.specs.Outline.{sides_along}
use Rattle.scene_parts.specs.Parts.{Obstacle, Globals}
use Rattle.scene_parts.specs.declared.screening.ends.Ends.{Ends}
use Rattle.sight_cut.specs.Cuts.{screens_in, crossings_of}
use Rattle.edge_chain.specs.declared.hand.Hand.{Hand}
use Rattle.edge_chain.specs.declared.hand.Hand.TheVariants.{Left, Right}
use Rattle.edge_chain.specs.Chain.{chain_of, segments_of}
use Rattle.path_calc.specs.declared.bundles.segments.Seg.{Seg}
use Rattle.path_calc.specs.declared.bundles.segments.Seg.TheVariants.{Straight}
use Rattle.path_calc.specs.declared.lateral.strings.Strings.{Strings}
use Rattle.path_calc.specs.LateralPaths.{lateral_paths, screening_corners}
use Rattle.path_calc.specs.ReflectedPaths.{ReflectedPath}
use Rattle.path_calc.specs.ScreeningSets.{screens_before, is_renewed}
use Rattle.path_calc.specs.inner.Strings.{numbers_in, corners_at, AreStretched}
use Rattle.path_calc.specs.Trace.{straight, string_segments, lateral_segments, legs_of}
use Rattle.path_calc.specs.inner.Tracing.{same_numbers, segments_between, segments_after, segments_in_band}
use Rattle.path_calc.specs.Prepared.{PreparedSource}
use Rattle.path_calc.specs.inner.Hearing.{reflected_of}
use Rattle.path_calc.proofs.Numbered.{screening_from, numbers-from, corners-there}
use Rattle.path_calc.proofs.Stretching.{no-chain, none-passes}

-- ---- the segments of a string

pub segment-added : (trace new all : List Seg) (from corner r : Pt) (corners : List Pt) (i : ℕ) → i < length corners
    → corner ≡ get_or corners i corner → new ≡ trace ++ Straight from corner ∷ []
    → trace ++ map straight (sides_along (from ∷ (drop i corners ++ r ∷ []))) ≡ all
    → new ++ map straight (sides_along (corner ∷ (drop (i + 1) corners ++ r ∷ []))) ≡ all
segment-added trace new all from corner r corners i within is added h =
    let rest = map straight (sides_along (corner ∷ (drop (i + 1) corners ++ r ∷ []))) in
    let next : drop i corners ≡ corner ∷ drop (i + 1) corners =
    drop_more corners i corner within ∙ ap (λ (p : Pt). p ∷ drop (i + 1) corners) (sym is) in
    ap (λ (segments : List Seg). segments ++ rest) added
    ∙ append_assoc trace (Straight from corner ∷ []) rest
    ∙ ap (λ (points : List Pt). trace ++ map straight (sides_along (from ∷ (points ++ r ∷ [])))) (sym next)
    ∙ h

pub segments-ended : (trace new all : List Seg) (from r : Pt) (corners : List Pt) (i : ℕ) → length corners ≤ i
    → new ≡ trace ++ Straight from r ∷ []
    → trace ++ map straight (sides_along (from ∷ (drop i corners ++ r ∷ []))) ≡ all → new ≡ all
segments-ended trace new all from r corners i end added h =
    added
    ∙ ap (λ (points : List Pt). trace ++ map straight (sides_along (from ∷ (points ++ r ∷ [])))) (sym (drop_all i corners end))
    ∙ h

-- a string with corners has the segments of the chain
pub string-turns : (ends : Ends) (corners : List Pt) → 0 < length corners
    → map straight (segments_of corners ends.s ends.r) ≡ string_segments ends corners
string-turns ends [] h = absurd (omega arith)
string-turns ends (corner ∷ corners) h = refl

pub some-there : (empty : Bool) (n m : ℕ) → empty ≡ (n == 0) → empty ≡ false → m ≡ n → 0 < m
some-there empty n m e h is = grind (arith, nat_tests)

-- ---- both strings of a band

no-corners : (band : Band) (ends : Ends) (obstacles : List Obstacle) (hand : Hand) → list_any (screens_in band ends) obstacles ≡ false
    → chain_of (screening_corners band ends obstacles) ends.s ends.r hand ≡ []
no-corners band ends obstacles hand none =
    ap (λ (os : List Obstacle). chain_of (flat_map (λ (o : Obstacle). o.points) os) ends.s ends.r hand)
    (none-passes (screens_in band ends) obstacles none)
    ∙ no-chain ends.s ends.r hand

both-strings : (band : Band) (ends : Ends) (obstacles : List Obstacle)
    → string_segments ends (chain_of (screening_corners band ends obstacles) ends.s ends.r Left)
    ++ string_segments ends (chain_of (screening_corners band ends obstacles) ends.s ends.r Right)
    ≡ flat_map (lateral_segments ends) (lateral_paths band ends obstacles)
both-strings band ends obstacles = by (list_any (screens_in band ends) obstacles) refl
  where
    string_on : Hand → List Seg
    string_on hand = string_segments ends (chain_of (screening_corners band ends obstacles) ends.s ends.r hand)

    by : (t : Bool) → list_any (screens_in band ends) obstacles ≡ t
        → string_segments ends (chain_of (screening_corners band ends obstacles) ends.s ends.r Left)
        ++ string_segments ends (chain_of (screening_corners band ends obstacles) ends.s ends.r Right)
        ≡ flat_map (lateral_segments ends) (lateral_paths band ends obstacles)
    by true e = rw e (ap (λ (l : List Seg). string_on Left ++ l) (sym (append-nil (string_on Right))))
    by false e = rw (e, no-corners band ends obstacles Left e, no-corners band ends obstacles Right e) refl

pub strings-added : (strings : Strings) (ends : Ends) (obstacles : List Obstacle) (band : Band) (before : List ℕ)
    → AreStretched strings ends obstacles → strings.numbers.items ≡ numbers_in band (crossings_of ends obstacles)
    → segments_between ends before strings ≡ segments_after before ends obstacles band
strings-added strings ends obstacles band before are numbers =
    let corners : corners_at obstacles strings.numbers.items ≡ screening_corners band ends obstacles =
    ap (corners_at obstacles) numbers ∙ corners-there band ends obstacles in
    let left : strings.left.corners.items ≡ chain_of (screening_corners band ends obstacles) ends.s ends.r Left =
    are.left.corners ∙ ap (λ (points : List Pt). chain_of points ends.s ends.r Left) corners in
    let right : strings.right.corners.items ≡ chain_of (screening_corners band ends obstacles) ends.s ends.r Right =
    are.right.corners ∙ ap (λ (points : List Pt). chain_of points ends.s ends.r Right) corners in
    let added : string_segments ends strings.left.corners.items ++ string_segments ends strings.right.corners.items
    ≡ flat_map (lateral_segments ends) (lateral_paths band ends obstacles) =
    ap (λ (points : List Pt). string_segments ends points ++ string_segments ends strings.right.corners.items) left
    ∙ ap (λ (points : List Pt). string_segments ends (chain_of (screening_corners band ends obstacles) ends.s ends.r Left) ++ string_segments ends points) right
    ∙ both-strings band ends obstacles in
    ap (λ (ns : List ℕ). if same_numbers ns before then [] else (string_segments ends strings.left.corners.items ++ string_segments ends strings.right.corners.items)) numbers
    ∙ ap (λ (segments : List Seg). if same_numbers (numbers_in band (crossings_of ends obstacles)) before then [] else segments) added

-- nothing is added where the numbers stay
pub nothing-added : (ends : Ends) (trace : List Seg) (strings : Strings) → trace ≡ trace ++ segments_between ends strings.numbers.items strings
nothing-added ends trace strings = rw (same-numbers strings.numbers.items) (sym (append-nil trace))
  where
    same-number : (n : ℕ) → (n == n) ≡ true
    same-number n = grind (arith, nat_tests)

    same-numbers : (ns : List ℕ) → same_numbers ns ns ≡ true
    same-numbers [] = refl
    same-numbers (n ∷ ns) = rw (same-number n) (same-numbers ns)

-- ---- where the screening obstacles are others

-- the numbers of those obstacles that pass a test, the first of them numbered i
abbrev placed : (Obstacle → Bool) → ℕ → List Obstacle → List ℕ
placed test i [] = []
placed test i (o ∷ obstacles) = if test o then i ∷ placed test (suc i) obstacles else placed test (suc i) obstacles

screening-placed : (band : Band) (ends : Ends) (i : ℕ) (obstacles : List Obstacle)
    → screening_from band ends i obstacles ≡ placed (screens_in band ends) i obstacles
screening-placed band ends i [] = refl
screening-placed band ends i (o ∷ obstacles) =
    ap (λ (ns : List ℕ). if screens_in band ends o then i ∷ ns else ns) (screening-placed band ends (suc i) obstacles)

none-placed : (i : ℕ) (obstacles : List Obstacle) → placed (λ o. false) i obstacles ≡ []
none-placed i [] = refl
none-placed i (o ∷ obstacles) = none-placed (suc i) obstacles

less-differs : (k i : ℕ) → k < i → (k == i) ≡ false
less-differs k i h = grind (arith, nat_tests)

more-differs : (k i : ℕ) → k < i → (i == k) ≡ false
more-differs k i h = grind (arith, nat_tests)

same-itself : (i : ℕ) → (i == i) ≡ true
same-itself i = grind (arith, nat_tests)

-- a number below all of a list isn't its first
below-all : (test : Obstacle → Bool) (k i : ℕ) (rest : List ℕ) (obstacles : List Obstacle) → k < i
    → same_numbers (k ∷ rest) (placed test i obstacles) ≡ false
below-all test k i rest [] h = refl
below-all test k i rest (o ∷ obstacles) h = by (test o) (below-all test k (suc i) rest obstacles (omega arith))
  where
    by : (t : Bool) → same_numbers (k ∷ rest) (placed test (suc i) obstacles) ≡ false
        → same_numbers (k ∷ rest) (if t then i ∷ placed test (suc i) obstacles else placed test (suc i) obstacles) ≡ false
    by true later = rw (less-differs k i h) refl
    by false later = later

all-above : (test : Obstacle → Bool) (k i : ℕ) (rest : List ℕ) (obstacles : List Obstacle) → k < i
    → same_numbers (placed test i obstacles) (k ∷ rest) ≡ false
all-above test k i rest [] h = refl
all-above test k i rest (o ∷ obstacles) h = by (test o) (all-above test k (suc i) rest obstacles (omega arith))
  where
    by : (t : Bool) → same_numbers (placed test (suc i) obstacles) (k ∷ rest) ≡ false
        → same_numbers (if t then i ∷ placed test (suc i) obstacles else placed test (suc i) obstacles) (k ∷ rest) ≡ false
    by true later = rw (more-differs k i h) refl
    by false later = later

-- the numbers are the same where no obstacle passes one test alone
same-placed : (now before : Obstacle → Bool) (i : ℕ) (obstacles : List Obstacle)
    → same_numbers (placed now i obstacles) (placed before i obstacles) ≡ not (list_any (λ o. differ (before o) (now o)) obstacles)
same-placed now before i [] = refl
same-placed now before i (o ∷ obstacles) = by (now o) (before o) (same-placed now before (suc i) obstacles)
  where
    by : (n b : Bool)
        → same_numbers (placed now (suc i) obstacles) (placed before (suc i) obstacles) ≡ not (list_any (λ o. differ (before o) (now o)) obstacles)
        → same_numbers (if n then i ∷ placed now (suc i) obstacles else placed now (suc i) obstacles)
        (if b then i ∷ placed before (suc i) obstacles else placed before (suc i) obstacles)
        ≡ not (differ b n || list_any (λ o. differ (before o) (now o)) obstacles)
    by true true rest = rw (same-itself i) rest
    by true false rest = below-all before i (suc i) (placed now (suc i) obstacles) obstacles (omega arith)
    by false true rest = all-above now i (suc i) (placed before (suc i) obstacles) obstacles (omega arith)
    by false false rest = rest

pub numbers-placed : (band : Band) (ends : Ends) (obstacles : List Obstacle)
    → numbers_in band (crossings_of ends obstacles) ≡ placed (screens_in band ends) 0 obstacles
numbers-placed band ends obstacles = numbers-from band ends 0 None obstacles tt ∙ screening-placed band ends 0 obstacles

-- the segments that are added in a band, where the numbers before are those of the band before
abbrev AreBefore : Band → Ends → List Obstacle → List ℕ → Type 0
AreBefore band ends obstacles before = before ≡ placed (screens_before band ends) 0 obstacles

pub none-before : (ends : Ends) (obstacles : List Obstacle) (before : List ℕ) → before ≡ [] → AreBefore Hz63 ends obstacles before
none-before ends obstacles before none = none ∙ sym (none-placed 0 obstacles)

pub after-is : (band : Band) (ends : Ends) (obstacles : List Obstacle) (before : List ℕ) → AreBefore band ends obstacles before
    → segments_after before ends obstacles band ≡ segments_in_band ends obstacles band
after-is band ends obstacles before are =
    ap (λ (same : Bool). if same then [] else segments)
    (ap (λ (ns : List ℕ). same_numbers ns before) (numbers-placed band ends obstacles)
    ∙ ap (same_numbers (placed (screens_in band ends) 0 obstacles)) are
    ∙ same-placed (screens_in band ends) (screens_before band ends) 0 obstacles)
    ∙ turned (is_renewed ends obstacles band)
  where
    segments : List Seg
    segments = flat_map (lateral_segments ends) (lateral_paths band ends obstacles)

    turned : (renewed : Bool) → (if not renewed then [] else segments) ≡ (if renewed then segments else [])
    turned true = refl
    turned false = refl

-- ---- all bands

pub eight-added : (f : Band → List Seg) (t t63 t125 t250 t500 t1000 t2000 t4000 t8000 : List Seg)
    → t63 ≡ t ++ f Hz63 → t125 ≡ t63 ++ f Hz125 → t250 ≡ t125 ++ f Hz250 → t500 ≡ t250 ++ f Hz500
    → t1000 ≡ t500 ++ f Hz1000 → t2000 ≡ t1000 ++ f Hz2000 → t4000 ≡ t2000 ++ f Hz4000 → t8000 ≡ t4000 ++ f Hz8000
    → t8000 ≡ t ++ flat_map f all_bands
eight-added f t t63 t125 t250 t500 t1000 t2000 t4000 t8000 a b c d e g h i =
    i ∙ more Hz8000 (h ∙ more Hz4000 (g ∙ more Hz2000 (e ∙ more Hz1000 (d ∙ more Hz500 (c ∙ more Hz250 (b ∙ more Hz125 a))))))
    ∙ simp (append_assoc, append-nil)
  where
    more : (band : Band) {x y : List Seg} → x ≡ y → x ++ f band ≡ y ++ f band
    more band is = ap (λ (l : List Seg). l ++ f band) is

-- ---- reflected paths

pub walls-are : (globals : Globals) (source : PreparedSource) (ends : Ends) (paths : List ReflectedPath)
    → map (λ path. path.wall) (map (reflected_of globals source ends) paths) ≡ map (legs_of ends) paths
walls-are globals source ends [] = refl
walls-are globals source ends (path ∷ paths) = ap (λ (l : List Seg). legs_of ends path ∷ l) (walls-are globals source ends paths)
