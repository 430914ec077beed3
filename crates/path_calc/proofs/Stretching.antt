-- Strings round the obstacles that screen are the lateral paths of the definition.
use Rattle.std.proofs.Common.{◌≡◌, ℕ, zero, suc, ◌+◌, ◌≤◌, Bool, true, false, List, [], ◌∷◌, ◌++◌, length, take, map, filter, refl, sym, ap, ◌∙◌, arith}
use Rattle.std.specs.Prelude.{Some, not, ◌==◌, ◌&&◌, ◌||◌, slice_get, if◌then◌else◌}
use Rattle.std.specs.List.{list_any, flat_map}
use Rattle.std.proofs.lemmas.List.Folds.{list_any-append, list_any_more}
use Rattle.std.proofs.lemmas.Option.{slice_get_within, get_or_from_slice_get}
use Rattle.fix_interval.specs.Interval.{Interval}
use Rattle.fix_interval.specs.Tree.{Tree, Known, enc}
use Rattle.scene_geom.specs.declared.plan.Pt.{Pt}
use Rattle.scene_geom.specs.declared.band.Band.{Band}
use Rattle.scene_parts.specs.declared.screening.size_test.Breadth.{Breadth}
use Rattle.scene_parts.specs.Parts.{Obstacle, sides_of}
use Rattle.scene_parts.specs.declared.screening.ends.Ends.{Ends}
use Rattle.scene_parts.specs.Crossings.{counts_in}
use Rattle.sight_cut.specs.Cuts.{screens_in, crossings_of}
use Rattle.edge_chain.specs.declared.hand.Hand.{Hand}
use Rattle.edge_chain.specs.declared.hand.Hand.TheVariants.{Left, Right}
use Rattle.edge_chain.specs.Chain.{chain_of, is_stretched, blocks_chain, IsChain}
use Rattle.edge_chain.specs.Laws.{way_along_axes}
use Rattle.edge_chain.proofs.Length.{chains_are_short}
use Rattle.term_barrier.specs.Diffraction.{attenuation, ten_lg, at_one_edge, at_two_edges, c_3, path_difference}
use Rattle.term_barrier.specs.Lateral.{lateral_difference, side_attenuation}
use Rattle.path_calc.specs.declared.lateral.strings.Stretched.{Stretched}
use Rattle.path_calc.specs.declared.lateral.strings.Strings.{Strings}
use Rattle.path_calc.specs.inner.Ranges.{IsShort}
use Rattle.path_calc.specs.LateralPaths.{LateralPath, screening_corners, is_in_the_way, leads_in, lateral_path}
use Rattle.path_calc.specs.inner.Strings.{numbers_in, corners_at, is_within, leads_unless, leads_along, IsStretched, AreStretched, d_z_round, listed, both_of, lateral_in, d_z_along, d_z_over}
use Rattle.path_calc.proofs.Numbered.{corners-there}

-- ---- a string
-- round nothing
no-chain-by : (s r : Pt) (hand : Hand) (test : Bool) → is_stretched [] s r hand [] ≡ test → chain_of [] s r hand ≡ []
unfolding chain_of
no-chain-by s r hand true e = rw e refl
no-chain-by s r hand false e = rw e refl

pub no-chain : (s r : Pt) (hand : Hand) → chain_of [] s r hand ≡ []
no-chain s r hand = no-chain-by s r hand (is_stretched [] s r hand []) refl

pub none-stretched : (string : Stretched) (ends : Ends) (obstacles : List Obstacle) (hand : Hand) → string.corners.items ≡ [] → IsStretched string ends obstacles [] hand
none-stretched string ends obstacles hand e = record {
  corners = e ∙ sym (no-chain ends.s ends.r hand);
  leads = λ band. rw e refl;
  short = rw e (omega arith);
}

-- round the points of a chain
longer : (chain : List Pt) (r : Pt) → way_along_axes chain ≤ way_along_axes (chain ++ r ∷ [])
longer [] r = omega arith
longer (b ∷ []) r = omega arith
longer (b ∷ c ∷ chain) r = sum _ _ _ (longer (c ∷ chain) r) where
  sum : (k m n : ℕ) → m ≤ n → k + m ≤ k + n
  sum k m n h = omega (arith, h)

begun : (a : Pt) (chain : List Pt) → way_along_axes chain ≤ way_along_axes (a ∷ chain)
begun a [] = omega arith
begun a (b ∷ chain) = omega arith

pub short-chain : (points : List Pt) (s r : Pt) (hand : Hand) (chain : List Pt) → IsChain points s r hand chain → IsShort chain
short-chain points s r hand chain is = omega (arith, longer chain r, begun s (chain ++ r ∷ []), chains_are_short points s r hand chain is)

leads-is : (band : Band) (ends : Ends) (obstacles : List Obstacle) (corners : List Pt) (blocking : List Breadth)
    → list_any (is_within band) blocking ≡ list_any (is_in_the_way band ends corners) obstacles
    → leads_unless (list_any (is_within band) blocking) corners ≡ leads_in band ends obstacles corners
leads-is band ends obstacles [] blocking e = refl
leads-is band ends obstacles (corner ∷ corners) blocking e = ap not e

pub chain-stretched : (string : Stretched) (ends : Ends) (obstacles : List Obstacle) (points : List Pt) (hand : Hand) → IsChain points ends.s ends.r hand string.corners.items
    → string.corners.items ≡ chain_of points ends.s ends.r hand
    → ((band : Band) → list_any (is_within band) string.blocking.items ≡ list_any (is_in_the_way band ends string.corners.items) obstacles)
    → IsStretched string ends obstacles points hand
chain-stretched string ends obstacles points hand chain is blocked = record {
  corners = is;
  leads = λ band. leads-is band ends obstacles string.corners.items string.blocking.items (blocked band);
  short = short-chain points ends.s ends.r hand string.corners.items chain;
}

-- what is known of a slice of the corners
pub chain-through : (band : Band) (ends : Ends) (obstacles : List Obstacle) (slice corners : List Pt) (blocking : List Breadth) → slice ≡ corners
    → list_any (is_within band) blocking ≡ list_any (is_in_the_way band ends slice) obstacles → list_any (is_within band) blocking ≡ list_any (is_in_the_way band ends corners) obstacles
chain-through band ends obstacles slice corners blocking e h = h ∙ ap (λ (ps : List Pt). list_any (is_in_the_way band ends ps) obstacles) e

pub nothing-in : {A : Type 0} (xs : List A) (test : Bool) → test ≡ (length xs == 0) → test ≡ true → xs ≡ []
nothing-in [] test e h = refl
nothing-in (x ∷ xs) test e h = absurd (some (length xs) (sym e ∙ h)) where
  some : (n : ℕ) → (suc n == 0) ≡ true → ⊥
  some n e = grind arith

-- where a chain has no corner
pub empty-stretched : (string : Stretched) (ends : Ends) (obstacles : List Obstacle) (points : List Pt) (hand : Hand) (chain : List Pt) → chain ≡ chain_of points ends.s ends.r hand
    → chain ≡ [] → IsStretched string ends obstacles [] hand → IsStretched string ends obstacles points hand
empty-stretched string ends obstacles points hand chain is none stretched = record {
  corners = stretched.corners ∙ no-chain ends.s ends.r hand ∙ sym none ∙ is;
  leads = stretched.leads;
  short = stretched.short;
}

-- ---- sides, one after another
any-at : {A : Type 0} (p : A → Bool) (xs : List A) (i : ℕ) (x : A) → slice_get xs i ≡ Some x → p x ≡ true → list_any p xs ≡ true
any-at p [] i x e h = absurd (cc)
any-at p (y ∷ xs) zero x e h = let same : y ≡ x = cc in rw (same, h) refl
any-at p (y ∷ xs) (suc i) x e h = either (p y) (any-at p xs i x e h) where
  either : (test : Bool) → list_any p xs ≡ true → (test || list_any p xs) ≡ true
  either true k = refl
  either false k = k

pub side-crosses : {A : Type 0} (p : A → Bool) (xs : List A) (i : ℕ) (x : A) (crossed : Bool) → slice_get xs i ≡ Some x → crossed ≡ p x → crossed ≡ true → true ≡ list_any p xs
side-crosses p xs i x crossed e is h = sym (any-at p xs i x e (sym is ∙ h))

pub side-passed : {A : Type 0} (p : A → Bool) (xs : List A) (i : ℕ) (x : A) (crossed : Bool) → slice_get xs i ≡ Some x → crossed ≡ p x → crossed ≡ false
    → list_any p (take i xs) ≡ false → list_any p (take (i + 1) xs) ≡ false
side-passed p xs i x crossed e is h so_far =
    list_any_more p xs i x (slice_get_within xs i x e)
    ∙ rw (so_far, get_or_from_slice_get xs i x x e) (sym is ∙ h)

-- ---- obstacles in the way, one after another
-- one of which a side crosses the string, and one of which none does
pub one-blocks : (band : Band) (ends : Ends) (corners : List Pt) (o : Obstacle) (found new : List Breadth) (breadth : Breadth) (before after : Bool) → new ≡ found ++ breadth ∷ []
    → is_within band breadth ≡ counts_in band ends o → list_any (blocks_chain corners ends.s ends.r) (sides_of o) ≡ true
    → list_any (is_within band) found ≡ before → after ≡ (before || is_in_the_way band ends corners o) → list_any (is_within band) new ≡ after
one-blocks band ends corners o found new breadth before after added counts crossed is next =
    ap (list_any (is_within band)) added ∙ list_any-append (is_within band) found (breadth ∷ [])
    ∙ ap (λ (test : Bool). test || list_any (is_within band) (breadth ∷ [])) is
    ∙ ap (λ (test : Bool). before || test) (last (is_within band breadth) ∙ counts ∙ sym (crossing (counts_in band ends o)))
    ∙ sym next
  where
    last : (test : Bool) → (test || false) ≡ test
    last true = refl
    last false = refl

    crossing : (test : Bool) → (test && list_any (blocks_chain corners ends.s ends.r) (sides_of o)) ≡ test
    crossing true = crossed
    crossing false = refl

pub one-passed : (band : Band) (ends : Ends) (corners : List Pt) (o : Obstacle) (found : List Breadth) (before after : Bool)
    → list_any (blocks_chain corners ends.s ends.r) (sides_of o) ≡ false
    → list_any (is_within band) found ≡ before → after ≡ (before || is_in_the_way band ends corners o) → list_any (is_within band) found ≡ after
one-passed band ends corners o found before after clear is next = is ∙ sym (next ∙ rw clear (passed before (counts_in band ends o))) where
  passed : (before counts : Bool) → (before || (counts && false)) ≡ before
  passed true counts = refl
  passed false true = refl
  passed false false = refl

-- ---- D_z
-- along one string
led : Ends → Interval → Band → LateralPath → List Interval
led ends d band path = map (d_z_along ends d band) (filter (λ (p : LateralPath). p.leads) (path ∷ []))

one-side : (corners : List Pt) (told : Bool) (ends : Ends) (obstacles : List Obstacle) (d : Interval) (band : Band) (hand : Hand)
    → corners ≡ chain_of (screening_corners band ends obstacles) ends.s ends.r hand → told ≡ leads_in band ends obstacles corners
    → listed (d_z_round ends corners d band told) ≡ led ends d band (lateral_path band ends obstacles hand)
unfolding led
one-side corners true ends obstacles d band hand is leads =
    let test : leads_in band ends obstacles (chain_of (screening_corners band ends obstacles) ends.s ends.r hand) ≡ true = ap (leads_in band ends obstacles) (sym is) ∙ sym leads in
    rw test (ap (λ (ps : List Pt). enc (side_attenuation ends.s ends.hs ends.r ends.hr ps (Known d) band) ∷ []) is)
one-side corners false ends obstacles d band hand is leads =
    let test : leads_in band ends obstacles (chain_of (screening_corners band ends obstacles) ends.s ends.r hand) ≡ false = ap (leads_in band ends obstacles) (sym is) ∙ sym leads in
    rw test refl

two-sides : (ends : Ends) (d : Interval) (band : Band) (left right : LateralPath)
    → led ends d band left ++ led ends d band right ≡ map (d_z_along ends d band) (filter (λ (p : LateralPath). p.leads) (left ∷ right ∷ []))
unfolding led
two-sides ends d band left right = by_tests left.leads right.leads refl refl where
  by_tests : (l r : Bool) → left.leads ≡ l → right.leads ≡ r
      → map (d_z_along ends d band) (if left.leads then left ∷ [] else []) ++ map (d_z_along ends d band) (if right.leads then right ∷ [] else [])
      ≡ map (d_z_along ends d band) (if left.leads then left ∷ (if right.leads then right ∷ [] else []) else (if right.leads then right ∷ [] else []))
  by_tests true true e f = rw (e, f) refl
  by_tests true false e f = rw (e, f) refl
  by_tests false true e f = rw (e, f) refl
  by_tests false false e f = rw (e, f) refl

-- where no obstacle screens
pub none-passes : {A : Type 0} (p : A → Bool) (xs : List A) → list_any p xs ≡ false → filter p xs ≡ []
none-passes p [] e = refl
none-passes p (x ∷ xs) e = by_test (p x) refl e (none-passes p xs) where
  by_test : (test : Bool) → p x ≡ test → (test || list_any p xs) ≡ false → (list_any p xs ≡ false → filter p xs ≡ []) → (if p x then x ∷ filter p xs else filter p xs) ≡ []
  by_test true is e others = absurd (cc)
  by_test false is e others = rw is (others e)

no-way : (band : Band) (ends : Ends) (obstacles : List Obstacle) (d : Interval) (hand : Hand) → list_any (screens_in band ends) obstacles ≡ false
    → led ends d band (lateral_path band ends obstacles hand) ≡ []
unfolding led
no-way band ends obstacles d hand none =
    let corners : chain_of (screening_corners band ends obstacles) ends.s ends.r hand ≡ [] =
    ap (λ (os : List Obstacle). chain_of (flat_map (λ (o : Obstacle). o.points) os) ends.s ends.r hand) (none-passes (screens_in band ends) obstacles none) ∙ no-chain ends.s ends.r hand in
    let test : leads_in band ends obstacles (chain_of (screening_corners band ends obstacles) ends.s ends.r hand) ≡ false = ap (leads_in band ends obstacles) corners in
    rw test refl

over-is : (band : Band) (ends : Ends) (obstacles : List Obstacle) (d : Interval)
    → led ends d band (lateral_path band ends obstacles Left) ++ led ends d band (lateral_path band ends obstacles Right) ≡ d_z_over ends obstacles d band
over-is band ends obstacles d = by_test (list_any (screens_in band ends) obstacles) refl where
  by_test : (test : Bool) → list_any (screens_in band ends) obstacles ≡ test
      → led ends d band (lateral_path band ends obstacles Left) ++ led ends d band (lateral_path band ends obstacles Right) ≡ d_z_over ends obstacles d band
  by_test true e = rw e (two-sides ends d band (lateral_path band ends obstacles Left) (lateral_path band ends obstacles Right))
  by_test false e = rw (e, no-way band ends obstacles d Left e, no-way band ends obstacles d Right e) refl

pub both-are : (strings : Strings) (ends : Ends) (obstacles : List Obstacle) (d : Interval) (band : Band) → AreStretched strings ends obstacles
    → strings.numbers.items ≡ numbers_in band (crossings_of ends obstacles) → both_of (lateral_in strings ends d band) ≡ d_z_over ends obstacles d band
both-are strings ends obstacles d band are numbers =
    let points : corners_at obstacles strings.numbers.items ≡ screening_corners band ends obstacles = ap (corners_at obstacles) numbers ∙ corners-there band ends obstacles in
    ap (λ (is : List Interval). is ++ listed (d_z_round ends strings.right.corners.items d band (leads_along strings.right band)))
    (one-side strings.left.corners.items (leads_along strings.left band) ends obstacles d band Left
    (are.left.corners ∙ ap (λ (ps : List Pt). chain_of ps ends.s ends.r Left) points) (are.left.leads band))
    ∙ ap (λ (is : List Interval). led ends d band (lateral_path band ends obstacles Left) ++ is)
    (one-side strings.right.corners.items (leads_along strings.right band) ends obstacles d band Right
    (are.right.corners ∙ ap (λ (ps : List Pt). chain_of ps ends.s ends.r Right) points) (are.right.leads band))
    ∙ over-is band ends obstacles d

-- ---- D_z of formulas that have the same interval
pub same-side : (s : Pt) (hs : ℕ) (r : Pt) (hr : ℕ) (corners : List Pt) (d : Tree) (band : Band)
    → enc (side_attenuation s hs r hr corners (Known (enc d)) band) ≡ enc (side_attenuation s hs r hr corners d band)
unfolding attenuation ten_lg at_one_edge at_two_edges c_3 lateral_difference path_difference
same-side s hs r hr [] d band = refl
same-side s hs r hr (corner ∷ []) d band = refl
same-side s hs r hr (first ∷ second ∷ others) d band = refl
