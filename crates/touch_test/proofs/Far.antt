-- An edit that lies beyond an edge of the box round some paths touches none of them.
use Rattle.std.proofs.Common.{◌≡◌, refl, sym, subst, ◌∙◌, Bool, true, false, ◌||◌, ◌⊎◌, inl, inr, List}
use Rattle.std.specs.Prelude.{int_lt, not, ◌&&◌, ◌==◌, is_some, All}
use Rattle.std.specs.List.{list_any, list_all}
use Rattle.std.specs.Ordering.{int_eq}
use Rattle.std.proofs.lemmas.Bool.{eqb-true, and_parts}
use Rattle.std.proofs.lemmas.Bool.Decides.{Decides-int_eq}
use Rattle.scene_geom.specs.declared.plan.Pt.{Pt}
use Rattle.scene_geom.specs.declared.plan.Side.{Side}
use Rattle.scene_geom.specs.declared.fractions.fraction.Frac.{Frac}
use Rattle.scene_geom.specs.declared.directions.direction.Dir.{Dir}
use Rattle.scene_geom.specs.Fraction.{rest_of}
use Rattle.scene_geom.specs.Direction.{direct}
use Rattle.scene_geom.specs.Point.{Pt_eq}
use Rattle.scene_geom.specs.Outline.{meets_of}
use Rattle.scene_geom.specs.Reflection.{unfolded}
use Rattle.scene_parts.specs.declared.kinds.Shape.{Shape}
use Rattle.scene_parts.specs.declared.kinds.Shape.TheVariants.{Barrier, Building}
use Rattle.scene_parts.specs.Parts.{Receiver, Obstacle, sides_of}
use Rattle.scene_parts.specs.Sides.{sides_in}
use Rattle.scene_parts.specs.declared.screening.ends.Ends.{Ends}
use Rattle.scene_parts.specs.declared.parts.Part.{Part}
use Rattle.scene_parts.specs.declared.parts.Part.TheVariants as parts
use Rattle.image_source.specs.LegCuts.{place_up_to}
use Rattle.path_shape.specs.Outlines.{whole}
use Rattle.path_calc.specs.Bundles.{Bundle}
use Rattle.path_calc.specs.declared.bundles.segments.Seg.{Seg}
use Rattle.path_calc.specs.declared.bundles.segments.Seg.TheVariants.{Straight, Legs}
use Rattle.touch_test.specs.declared.envelopes.Envelope.{Envelope}
use Rattle.touch_test.specs.Crossings.{crosses_segment, meets_leg}
use Rattle.touch_test.specs.Envelopes.{HoldsWay, HoldsSegment, HoldsPath, lies_aside, lies_ahead, lies_beyond, part_may_touch, is_elsewhere, FarEditsTouchNoPath}
use Rattle.touch_test.specs.Touches.{bundled, changed_parts, edit_touches, is_set, obstacle_touches, outline_touches, part_touches, puts_by_grid}
use Rattle.touch_test.proofs.Beyond.{AreOnHand, open-none, ring-none, ring-unmet, beyond-west, beyond-east, beyond-south, beyond-north}
use Rattle.touch_test.proofs.Lists.{In, neither, fails-at, none-passes, any-or, any-map, contains}
use Rattle.touch_test.proofs.Pieces.{absorbs, by-segments}

-- ---- one way and some corners

either : (a b : Bool) → (a || b) ≡ true → (a ≡ true) ⊎ (b ≡ true)
either true b h = inl refl
either false b h = inr h

-- the test of an edge, of which the corners are beyond
pub record Passed (e : Envelope) (corners : List Pt) (from : Pt) (dir : Dir) (end : Frac) : Type 0 where
  pub test : Pt → Bool
  pub fwd : Bool
  pub on : AreOnHand test from dir end fwd
  pub all : list_all test corners ≡ true

passed : (e : Envelope) (corners : List Pt) (from : Pt) (dir : Dir) (end : Frac) → HoldsWay e from dir end → lies_beyond e corners ≡ true → Passed e corners from dir end
passed e corners from dir end holds beyond =
    elim (either (lies_aside e corners) (lies_ahead e corners) beyond) [
      | inl aside ↦
          elim (either (list_all (λ c. int_lt c.x e.west) corners) (list_all (λ c. int_lt e.east c.x) corners) aside) [
            | inl h ↦ record { test = λ c. int_lt c.x e.west; fwd = _; on = beyond-west from dir end e.west e.east holds.x; all = h }
            | inr h ↦ record { test = λ c. int_lt e.east c.x; fwd = _; on = beyond-east from dir end e.west e.east holds.x; all = h }
          ]
      | inr ahead ↦
          elim (either (list_all (λ c. int_lt c.y e.south) corners) (list_all (λ c. int_lt e.north c.y) corners) ahead) [
            | inl h ↦ record { test = λ c. int_lt c.y e.south; fwd = _; on = beyond-south from dir end e.south e.north holds.y; all = h }
            | inr h ↦ record { test = λ c. int_lt e.north c.y; fwd = _; on = beyond-north from dir end e.south e.north holds.y; all = h }
          ]
    ]

pub unmet-way : (e : Envelope) (corners : List Pt) (from : Pt) (dir : Dir) (end : Frac) → HoldsWay e from dir end → lies_beyond e corners ≡ true
    → meets_of corners from dir end ≡ false
unmet-way e corners from dir end holds beyond =
    let by = passed e corners from dir end holds beyond in ring-unmet by.test from dir end by.fwd by.on corners by.all

pub uncrossed-way : (e : Envelope) (shape : Shape) (corners : List Pt) (from : Pt) (dir : Dir) (end : Frac) → HoldsWay e from dir end → lies_beyond e corners ≡ true
    → list_any (λ side. is_some (place_up_to end side from dir)) (sides_in shape corners) ≡ false
uncrossed-way e Barrier corners from dir end holds beyond =
    let by = passed e corners from dir end holds beyond in open-none by.test from dir end by.fwd by.on corners by.all
uncrossed-way e Building corners from dir end holds beyond =
    let by = passed e corners from dir end holds beyond in ring-none by.test from dir end by.fwd by.on corners by.all

-- ---- segments

uncrossed-segment : (e : Envelope) (o : Obstacle) (segment : Seg) → HoldsSegment e segment → lies_beyond e o.points ≡ true
    → list_any (λ side. crosses_segment side segment) (sides_of o) ≡ false
uncrossed-segment e o (Straight p q) holds beyond = uncrossed-way e o.shape o.points p (direct p q) whole holds beyond
uncrossed-segment e o (Legs wall s r) holds beyond =
    let path = unfolded wall s r in
    any-or (λ (side : Side). is_some (place_up_to path.p side s path.first)) (λ (side : Side). is_some (place_up_to (rest_of path.p) side r path.second)) (sides_of o)
    ∙ rw (uncrossed-way e o.shape o.points s path.first path.p holds.0 beyond, uncrossed-way e o.shape o.points r path.second (rest_of path.p) holds.1 beyond) refl

unmet-segment : (e : Envelope) (corners : List Pt) (segment : Seg) → HoldsSegment e segment → lies_beyond e corners ≡ true → meets_leg corners segment ≡ false
unmet-segment e corners (Straight p q) holds beyond = refl
unmet-segment e corners (Legs wall s r) holds beyond =
    let path = unfolded wall s r in
    rw (unmet-way e corners s path.first path.p holds.0 beyond, unmet-way e corners r path.second (rest_of path.p) holds.1 beyond) refl

-- what holds of all elements holds of each
each : {A : Type 0} (P : A → Type 0) (x : A) (xs : List A) → All P xs → In x xs → P x
each P x xs all i = let at = contains x xs i in subst P at.2 (all at.0 x at.1)

-- ---- parts

pub not-false : (b : Bool) → not b ≡ false → b ≡ true
not-false true h = refl
not-false false h = absurd (cc)

far-obstacle : (e : Envelope) (ends : Ends) (trace : List Seg) (o : Obstacle) → All (HoldsSegment e) trace → o.rho ≡ 0 → lies_beyond e o.points ≡ true
    → obstacle_touches ends trace o ≡ false
far-obstacle e ends trace o holds still beyond =
    sym (by-segments ends trace o)
    ∙ rw (
      none-passes (λ segment. list_any (λ side. crosses_segment side segment) (sides_of o)) trace (λ segment i. uncrossed-segment e o segment (each (HoldsSegment e) segment trace holds i) beyond),
      absorbs o ends still,
    ) refl

far-outline : (e : Envelope) (ends : Ends) (trace : List Seg) (corners : List Pt) → All (HoldsSegment e) trace → HoldsWay e ends.s (direct ends.s ends.r) whole → lies_beyond e corners ≡ true
    → outline_touches ends trace corners ≡ false
far-outline e ends trace corners holds line beyond =
    rw (
      unmet-way e corners ends.s (direct ends.s ends.r) whole line beyond,
      none-passes (meets_leg corners) trace (λ segment i. unmet-segment e corners segment (each (HoldsSegment e) segment trace holds i) beyond),
    ) refl

far-part : (e : Envelope) (r : Receiver) (bundle : Bundle) (part : Part) → e.to ≡ r.at → HoldsPath e bundle → part_may_touch e r.name part ≡ false
    → part_touches (bundled r bundle) part ≡ false
far-part e r bundle (parts.Source source) to holds far = absurd (cc)
far-part e r bundle (parts.Obstacle o) to holds far =
    let both = neither (not (o.rho == 0)) (not (lies_beyond e o.points)) far in
    far-obstacle e (bundled r bundle).ends bundle.segs o holds.trace (eqb-true o.rho 0 (not-false (o.rho == 0) both.0)) (not-false (lies_beyond e o.points) both.1)
far-part e r bundle (parts.Receiver receiver) to holds far = far
far-part e r bundle outlined to holds far =
    far-outline e (bundled r bundle).ends bundle.segs _ holds.trace (subst (λ (at : Pt). HoldsWay e bundle.at (direct bundle.at at) whole) to holds.line) (not-false _ far)

-- ---- edits

pub far-edits-touch-no-path : FarEditsTouchNoPath
far-edits-touch-no-path e bundles holds r edit old far =
    any-map (edit_touches edit old) (bundled r) bundles
    ∙ none-passes (λ bundle. edit_touches edit old (bundled r bundle)) bundles (λ bundle i. one bundle (each (HoldsPath e) bundle bundles holds i))
  where
    parts_may : Bool
    parts_may = list_any (part_may_touch e r.name) (changed_parts edit old)

    here_only : (is_elsewhere e r ≡ false) × ((is_set edit || puts_by_grid r.name edit || parts_may) ≡ false)
    here_only = neither (is_elsewhere e r) (is_set edit || puts_by_grid r.name edit || parts_may) far

    last : ((is_set edit || puts_by_grid r.name edit) ≡ false) × (parts_may ≡ false)
    last = neither (is_set edit || puts_by_grid r.name edit) parts_may here_only.1

    set : (is_set edit ≡ false) × (puts_by_grid r.name edit ≡ false)
    set = neither (is_set edit) (puts_by_grid r.name edit) last.0

    to : e.to ≡ r.at
    to =
        let both = neither (not (int_eq e.to.x r.at.x)) (not (int_eq e.to.y r.at.y)) here_only.0 in
        Pt_eq e.to r.at ((Decides-int_eq e.to.x r.at.x).0 (not-false (int_eq e.to.x r.at.x) both.0)) ((Decides-int_eq e.to.y r.at.y).0 (not-false (int_eq e.to.y r.at.y) both.1))

    one : (bundle : Bundle) → HoldsPath e bundle → edit_touches edit old (bundled r bundle) ≡ false
    one bundle path =
        rw (set.0, set.1)
        (none-passes (part_touches (bundled r bundle)) (changed_parts edit old) (λ part i. far-part e r bundle part to path (fails-at (part_may_touch e r.name) part (changed_parts edit old) i last.1)))

-- points whose coordinates are told to be equal
pub same-points : (p q : Pt) → (int_eq p.x q.x && int_eq p.y q.y) ≡ true → p ≡ q
same-points p q h =
    let both = and_parts (int_eq p.x q.x) (int_eq p.y q.y) h in
    Pt_eq p q ((Decides-int_eq p.x q.x).0 both.0) ((Decides-int_eq p.y q.y).0 both.1)
