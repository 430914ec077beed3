-- What is in the way of a string, segment by segment, among the sides near each.
use Rattle.std.proofs.Common.{◌≡◌, ℕ, ◌+◌, ◌<◌, ◌≤◌, Bool, true, false, List, [], ◌∷◌, ◌++◌, length, take, drop, map, filter, refl, sym, ap, ◌∙◌, get_or}
use Rattle.std.specs.Prelude.{Option, Some, None, ◌&&◌, ◌||◌, slice_get, unsigned_abs}
use Rattle.std.specs.List.{list_any}
use Rattle.std.proofs.lemmas.List.{drop_more, drop_all}
use Rattle.std.proofs.lemmas.List.Folds.{list_any-append}
use Rattle.scene_geom.specs.declared.plan.Pt.{Pt}
use Rattle.scene_geom.specs.declared.plan.Side.{Side}
use Rattle.scene_geom.specs.declared.band.Band.{Band}
use Rattle.scene_geom.specs.Crossing.{blocks_of}
use Rattle.scene_parts.specs.declared.screening.size_test.Breadth.{Breadth}
use Rattle.scene_parts.specs.Parts.{Obstacle, sides_of}
use Rattle.scene_parts.specs.Sides.{squared_length}
use Rattle.scene_parts.specs.InBand.{exceeds_wavelength}
use Rattle.scene_geom.specs.Outline.{extent_of}
use Rattle.scene_parts.specs.declared.screening.ends.Ends.{Ends}
use Rattle.scene_parts.specs.Crossings.{counts_in}
use Rattle.edge_chain.specs.Chain.{segments_of}
use Rattle.part_grid.specs.declared.owned.Owned.{Owned}
use Rattle.part_grid.specs.Cells.{cells_meet_of}
use Rattle.part_grid.specs.Numbered.{numbered}
use Rattle.part_grid.proofs.Crossed.{unmet-are-apart}
use Rattle.part_grid.proofs.Numbered.{IsFoundAt, found-at, or_none, looked_any, any-near, any-by-obstacles, any-more}
use Rattle.path_calc.specs.LateralPaths.{is_in_the_way}
use Rattle.path_calc.specs.inner.Strings.{is_within}

-- ---- one segment
-- a side of an obstacle that counts in a band blocks the segment
abbrev pub bars : Band → Ends → Side → Obstacle → Side → Bool
bars band ends segment o side = counts_in band ends o && blocks_of side segment.from segment.to

-- an obstacle is in the way of the segment
abbrev pub bars_segment : Band → Ends → Side → Obstacle → Bool
bars_segment band ends segment o = counts_in band ends o && list_any (λ side. blocks_of side segment.from segment.to) (sides_of o)

-- the sides near the segment
abbrev pub near_sides : Side → List Obstacle → List Owned
near_sides segment obstacles = filter (λ owned. cells_meet_of owned.side segment.from segment.to) (numbered (map sides_of obstacles))

pub or-false : (b : Bool) → (b || false) ≡ b
or-false true = refl
or-false false = refl

or-assoc : (a b c : Bool) → ((a || b) || c) ≡ (a || (b || c))
or-assoc true b c = refl
or-assoc false b c = refl

pub and-false : (b : Bool) → (b && false) ≡ false
and-false true = refl
and-false false = refl

-- what holds whatever the element needs no look at each
any-and : {A : Type 0} (b : Bool) (f : A → Bool) (xs : List A) → list_any (λ x. b && f x) xs ≡ (b && list_any f xs)
any-and b f [] = sym (and-false b)
any-and true f (x ∷ xs) = ap (λ c. f x || c) (any-and true f xs)
any-and false f (x ∷ xs) = any-and false f xs

any-same : {A : Type 0} (f g : A → Bool) (xs : List A) → ((x : A) → f x ≡ g x) → list_any f xs ≡ list_any g xs
any-same f g [] h = refl
any-same f g (x ∷ xs) h = ap (λ b. b || list_any f xs) (h x) ∙ ap (λ b. g x || b) (any-same f g xs h)

unmet-bars : (band : Band) (ends : Ends) (segment : Side) (obstacles : List Obstacle) (owned : Owned) → cells_meet_of owned.side segment.from segment.to ≡ false
    → looked_any (bars band ends segment) obstacles owned ≡ false
unmet-bars band ends segment obstacles owned unmet = by_obstacle (slice_get obstacles owned.obstacle) where
  by_obstacle : (found : Option Obstacle) → or_none (λ o. bars band ends segment o owned.side) found ≡ false
  by_obstacle None = refl
  by_obstacle (Some o) = ap (λ b. counts_in band ends o && b) (unmet-are-apart owned.side segment.from segment.to unmet).unblocked ∙ and-false (counts_in band ends o)

-- the sides that are near tell which obstacles are in the way
pub near-are-all : (band : Band) (ends : Ends) (segment : Side) (obstacles : List Obstacle)
    → list_any (looked_any (bars band ends segment) obstacles) (near_sides segment obstacles) ≡ list_any (bars_segment band ends segment) obstacles
near-are-all band ends segment obstacles =
    any-near (λ owned. cells_meet_of owned.side segment.from segment.to) (looked_any (bars band ends segment) obstacles) (numbered (map sides_of obstacles)) (unmet-bars band ends segment obstacles)
    ∙ any-by-obstacles sides_of (bars band ends segment) obstacles
    ∙ any-same (λ o. list_any (bars band ends segment o) (sides_of o)) (bars_segment band ends segment) obstacles
    (λ o. any-and (counts_in band ends o) (λ side. blocks_of side segment.from segment.to) (sides_of o))

pub near-at : (segment : Side) (obstacles : List Obstacle) (sides : List Owned) (i : ℕ) (owned : Owned) → sides ≡ near_sides segment obstacles → i < length sides → owned ≡ get_or sides i owned
    → IsFoundAt sides_of obstacles (near_sides segment obstacles) i owned
near-at segment obstacles sides i owned are below is = found-at sides_of obstacles (λ owned. cells_meet_of owned.side segment.from segment.to) sides i owned are below is

-- a side that blocks the segment, and one that doesn't
pub side-bars : (band : Band) (ends : Ends) (segment : Side) (obstacles : List Obstacle) (sides : List Owned) (i : ℕ) (owned : Owned) (o : Obstacle) (found new : List Breadth) (breadth : Breadth) (start blocked : Bool)
    → sides ≡ near_sides segment obstacles → i < length sides → owned ≡ get_or sides i owned → o ≡ get_or obstacles owned.obstacle o
    → blocked ≡ blocks_of owned.side segment.from segment.to → blocked ≡ true
    → new ≡ found ++ breadth ∷ [] → is_within band breadth ≡ counts_in band ends o
    → list_any (is_within band) found ≡ (start || list_any (looked_any (bars band ends segment) obstacles) (take i (near_sides segment obstacles)))
    → list_any (is_within band) new ≡ (start || list_any (looked_any (bars band ends segment) obstacles) (take (i + 1) (near_sides segment obstacles)))
side-bars band ends segment obstacles sides i owned o found new breadth start blocked are below is o-is tested yes_ added counts so-far =
    let before = list_any (looked_any (bars band ends segment) obstacles) (take i (near_sides segment obstacles)) in
    ap (list_any (is_within band)) added ∙ list_any-append (is_within band) found (breadth ∷ [])
    ∙ ap (λ b. b || list_any (is_within band) (breadth ∷ [])) so-far
    ∙ ap (λ b. (start || before) || b) (or-false (is_within band breadth) ∙ counts ∙ sym (whole (counts_in band ends o)) ∙ ap (λ b. counts_in band ends o && b) (sym yes_ ∙ tested))
    ∙ or-assoc start before (bars band ends segment o owned.side)
    ∙ ap (λ b. start || b) (sym (any-more sides_of (bars band ends segment) obstacles (near_sides segment obstacles) i owned o (near-at segment obstacles sides i owned are below is) o-is))
  where
    whole : (b : Bool) → (b && true) ≡ b
    whole true = refl
    whole false = refl

pub side-passed-by : (band : Band) (ends : Ends) (segment : Side) (obstacles : List Obstacle) (sides : List Owned) (i : ℕ) (owned : Owned) (o : Obstacle) (found : List Breadth) (start blocked : Bool)
    → sides ≡ near_sides segment obstacles → i < length sides → owned ≡ get_or sides i owned → o ≡ get_or obstacles owned.obstacle o
    → blocked ≡ blocks_of owned.side segment.from segment.to → blocked ≡ false
    → list_any (is_within band) found ≡ (start || list_any (looked_any (bars band ends segment) obstacles) (take i (near_sides segment obstacles)))
    → list_any (is_within band) found ≡ (start || list_any (looked_any (bars band ends segment) obstacles) (take (i + 1) (near_sides segment obstacles)))
side-passed-by band ends segment obstacles sides i owned o found start blocked are below is o-is tested no_ so-far =
    let before = list_any (looked_any (bars band ends segment) obstacles) (take i (near_sides segment obstacles)) in
    let none : bars band ends segment o owned.side ≡ false = ap (λ b. counts_in band ends o && b) (sym tested ∙ no_) ∙ and-false (counts_in band ends o) in
    so-far
    ∙ ap (λ b. start || b)
    (sym (or-false before) ∙ ap (λ b. before || b) (sym none)
    ∙ sym (any-more sides_of (bars band ends segment) obstacles (near_sides segment obstacles) i owned o (near-at segment obstacles sides i owned are below is) o-is))

-- ---- all segments
-- an order of two looks that doesn't matter
any-or : {A : Type 0} (f g : A → Bool) (xs : List A) → list_any (λ x. f x || g x) xs ≡ (list_any f xs || list_any g xs)
any-or f g [] = refl
any-or f g (x ∷ xs) = ap (λ b. (f x || g x) || b) (any-or f g xs) ∙ four (f x) (g x) (list_any f xs) (list_any g xs) where
  four : (a b c d : Bool) → ((a || b) || (c || d)) ≡ ((a || c) || (b || d))
  four true b c d = refl
  four false true true d = refl
  four false true false d = refl
  four false false c d = refl

any-none : {A : Type 0} (xs : List A) → list_any (λ x. false) xs ≡ false
any-none [] = refl
any-none (x ∷ xs) = any-none xs

exchanged : {A B : Type 0} (p : A → B → Bool) (xs : List A) (ys : List B) → list_any (λ x. list_any (p x) ys) xs ≡ list_any (λ y. list_any (λ x. p x y) xs) ys
exchanged p [] ys = sym (any-none ys)
exchanged p (x ∷ xs) ys = ap (λ b. list_any (p x) ys || b) (exchanged p xs ys) ∙ sym (any-or (p x) (λ y. list_any (λ x. p x y) xs) ys)

-- an obstacle is in the way of the string where it is in the way of a segment
pub way-is : (band : Band) (ends : Ends) (corners : List Pt) (obstacles : List Obstacle)
    → list_any (λ segment. list_any (bars_segment band ends segment) obstacles) (segments_of corners ends.s ends.r) ≡ list_any (is_in_the_way band ends corners) obstacles
way-is band ends corners obstacles =
    exchanged (bars_segment band ends) (segments_of corners ends.s ends.r) obstacles
    ∙ any-same (λ o. list_any (λ segment. bars_segment band ends segment o) (segments_of corners ends.s ends.r)) (is_in_the_way band ends corners) obstacles
    (λ o.
    any-and (counts_in band ends o) (λ segment. list_any (λ side. blocks_of side segment.from segment.to) (sides_of o)) (segments_of corners ends.s ends.r)
    ∙ ap (λ b. counts_in band ends o && b) (exchanged (λ segment side. blocks_of side segment.from segment.to) (segments_of corners ends.s ends.r) (sides_of o)))

-- what was found of the segments so far, and what those behind give
abbrev pub behind : Band → Ends → List Obstacle → List Pt → Pt → Bool
behind band ends obstacles corners from = list_any (λ segment. list_any (bars_segment band ends segment) obstacles) (segments_of corners from ends.r)

pub corner-added : (band : Band) (ends : Ends) (obstacles : List Obstacle) (corners : List Pt) (i : ℕ) (from corner : Pt) (found new : List Breadth) (total : Bool) → i < length corners → corner ≡ get_or corners i corner
    → list_any (is_within band) new ≡ (list_any (is_within band) found || list_any (bars_segment band ends (record { from = from; to = corner })) obstacles)
    → (list_any (is_within band) found || behind band ends obstacles (drop i corners) from) ≡ total
    → (list_any (is_within band) new || behind band ends obstacles (drop (i + 1) corners) corner) ≡ total
corner-added band ends obstacles corners i from corner found new total below is added so-far =
    let here : drop i corners ≡ corner ∷ drop (i + 1) corners = drop_more corners i corner below ∙ ap (λ p. p ∷ drop (i + 1) corners) (sym is) in
    ap (λ b. b || behind band ends obstacles (drop (i + 1) corners) corner) added
    ∙ or-assoc (list_any (is_within band) found) (list_any (bars_segment band ends (record { from = from; to = corner })) obstacles) (behind band ends obstacles (drop (i + 1) corners) corner)
    ∙ ap (λ ps. list_any (is_within band) found || behind band ends obstacles ps from) (sym here) ∙ so-far

pub last-added : (band : Band) (ends : Ends) (obstacles : List Obstacle) (corners : List Pt) (i : ℕ) (from : Pt) (found new : List Breadth) (total : Bool) → length corners ≤ i
    → list_any (is_within band) new ≡ (list_any (is_within band) found || list_any (bars_segment band ends (record { from = from; to = ends.r })) obstacles)
    → (list_any (is_within band) found || behind band ends obstacles (drop i corners) from) ≡ total
    → list_any (is_within band) new ≡ total
last-added band ends obstacles corners i from found new total end added so-far =
    let none : drop i corners ≡ [] = drop_all i corners end in
    added ∙ ap (λ b. list_any (is_within band) found || b) (sym (or-false (list_any (bars_segment band ends (record { from = from; to = ends.r })) obstacles)))
    ∙ ap (λ ps. list_any (is_within band) found || behind band ends obstacles ps from) (sym none) ∙ so-far

-- the breadth of an obstacle tells the bands in which it counts
pub breadth-counts : (band : Band) (ends : Ends) (o : Obstacle) (breadth : Breadth) → breadth.extent ≡ unsigned_abs (extent_of o.points ends.s ends.r)
    → breadth.square ≡ squared_length (record { from = ends.s; to = ends.r }) → is_within band breadth ≡ counts_in band ends o
breadth-counts band ends o breadth extent square =
    ap (λ (n : ℕ). exceeds_wavelength n breadth.square band) extent ∙ ap (λ (n : ℕ). exceeds_wavelength (unsigned_abs (extent_of o.points ends.s ends.r)) n band) square
