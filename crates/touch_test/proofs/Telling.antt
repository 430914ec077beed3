-- A box that was widened tells of the paths of which it told, and of one that it holds in the place of any of these.
use Rattle.std.proofs.Common.{◌≡◌, ℕ, zero, suc, refl, sym, subst, ◌∙◌, arith, Bool, true, false, ◌||◌, List, [], ◌∷◌, map}
use Rattle.std.specs.Prelude.{ℤ, ◌≤ℤ◌, ◌<ℤ◌, int_lt, not, ◌==◌, Option, slice_set}
use Rattle.std.specs.List.{list_any, list_all}
use Rattle.std.specs.Ordering.{int_eq}
use Rattle.std.proofs.lemmas.Bool.{and_parts}
use Rattle.std.proofs.lemmas.Int.{ints}
use Rattle.std.proofs.lemmas.List.Elements.{All-cons, All-nil}
use Rattle.scene_geom.specs.declared.plan.Pt.{Pt}
use Rattle.scene_parts.specs.Parts.{Receiver}
use Rattle.scene_parts.specs.declared.parts.Part.{Part}
use Rattle.scene_parts.specs.declared.parts.Part.TheVariants as parts
use Rattle.scene_book.specs.declared.edits.Edit.{Edit}
use Rattle.path_calc.specs.Bundles.{Bundle}
use Rattle.touch_test.specs.declared.envelopes.Envelope.{Envelope}
use Rattle.touch_test.specs.Envelopes.{HoldsPath, IsWider, lies_aside, lies_ahead, lies_beyond, part_may_touch, is_elsewhere, edit_may_reach, edit_may_touch, WiderBoxesTell}
use Rattle.touch_test.specs.Touches.{bundled, changed_parts, edit_touches, is_set, puts_by_grid}
use Rattle.touch_test.proofs.Beyond.{lt-is}
use Rattle.touch_test.proofs.Far.{not-false, far-edits-touch-no-path}
use Rattle.touch_test.proofs.Lists.{neither, fails-at, none-passes, any-map}

-- ---- tests that pass where others do

all-pass : {A : Type 0} (p q : A → Bool) (xs : List A) → ((x : A) → p x ≡ true → q x ≡ true) → list_all p xs ≡ true → list_all q xs ≡ true
all-pass p q [] so h = refl
all-pass p q (x ∷ xs) so h = let both = and_parts (p x) (list_all p xs) h in rw (so x both.0, all-pass p q xs so both.1) refl

one-passes : (a b c d : Bool) → (a ≡ true → c ≡ true) → (b ≡ true → d ≡ true) → (a || b) ≡ true → (c || d) ≡ true
one-passes a b true d so too h = refl
one-passes true b false d so too h = let no : false ≡ true = so refl in cc
one-passes false b false d so too h = too h

-- where none passes with the element at a place exchanged
none-in-place : {A : Type 0} (test : A → Bool) (xs : List A) (place : ℕ) (x : A) → list_any test xs ≡ false → test x ≡ false → list_any test (slice_set xs place x) ≡ false
none-in-place test [] place x h fails = refl
none-in-place test (y ∷ xs) zero x h fails = rw fails (neither (test y) (list_any test xs) h).1
none-in-place test (y ∷ xs) (suc place) x h fails =
    let both = neither (test y) (list_any test xs) h in rw both.0 (none-in-place test xs place x both.1 fails)

-- ---- what lies beyond a wider box

less-than-more : (a b c : ℤ) → b ≤ℤ c → int_lt a b ≡ true → int_lt a c ≡ true
less-than-more a b c h is = let less : a <ℤ b = lt-is a b is in sym (omega (arith, ints))

more-than-less : (a b c : ℤ) → a ≤ℤ b → int_lt b c ≡ true → int_lt a c ≡ true
more-than-less a b c h is = let more : b <ℤ c = lt-is b c is in sym (omega (arith, ints))

beyond-wider : (e f : Envelope) (corners : List Pt) → IsWider e f → lies_beyond f corners ≡ true → lies_beyond e corners ≡ true
beyond-wider e f corners wider h =
    one-passes (lies_aside f corners) (lies_ahead f corners) (lies_aside e corners) (lies_ahead e corners) (one-passes _ _ _ _ west east) (one-passes _ _ _ _ south north) h
  where
    west : list_all (λ (c : Pt). int_lt c.x f.west) corners ≡ true → list_all (λ (c : Pt). int_lt c.x e.west) corners ≡ true
    west = all-pass (λ (c : Pt). int_lt c.x f.west) (λ (c : Pt). int_lt c.x e.west) corners (λ c. less-than-more c.x f.west e.west wider.west)

    east : list_all (λ (c : Pt). int_lt f.east c.x) corners ≡ true → list_all (λ (c : Pt). int_lt e.east c.x) corners ≡ true
    east = all-pass (λ (c : Pt). int_lt f.east c.x) (λ (c : Pt). int_lt e.east c.x) corners (λ c. more-than-less e.east f.east c.x wider.east)

    south : list_all (λ (c : Pt). int_lt c.y f.south) corners ≡ true → list_all (λ (c : Pt). int_lt c.y e.south) corners ≡ true
    south = all-pass (λ (c : Pt). int_lt c.y f.south) (λ (c : Pt). int_lt c.y e.south) corners (λ c. less-than-more c.y f.south e.south wider.south)

    north : list_all (λ (c : Pt). int_lt f.north c.y) corners ≡ true → list_all (λ (c : Pt). int_lt e.north c.y) corners ≡ true
    north = all-pass (λ (c : Pt). int_lt f.north c.y) (λ (c : Pt). int_lt e.north c.y) corners (λ c. more-than-less e.north f.north c.y wider.north)

-- so an outline that is beyond the wider box is beyond the other
not-near : (e f : Envelope) (corners : List Pt) → IsWider e f → not (lies_beyond f corners) ≡ false → not (lies_beyond e corners) ≡ false
not-near e f corners wider h = rw (beyond-wider e f corners wider (not-false (lies_beyond f corners) h)) refl

-- ---- edits

part-wider : (e f : Envelope) (name : List ℕ) (part : Part) → IsWider e f → part_may_touch f name part ≡ false → part_may_touch e name part ≡ false
part-wider e f name (parts.Source source) wider far = far
part-wider e f name (parts.Obstacle o) wider far =
    let both = neither (not (o.rho == 0)) (not (lies_beyond f o.points)) far in rw (both.0, not-near e f o.points wider both.1) refl
part-wider e f name (parts.Receiver receiver) wider far = far
part-wider e f name outlined wider far = not-near e f _ wider far

edit-wider : (e f : Envelope) (r : Receiver) (edit : Edit) (old : Option Part) → IsWider e f → edit_may_touch f r edit old ≡ false → edit_may_touch e r edit old ≡ false
edit-wider e f r edit old wider far = rw (here, last.0, parts) refl
  where
    first : (is_elsewhere f r ≡ false) × (edit_may_reach f r.name edit old ≡ false)
    first = neither (is_elsewhere f r) (edit_may_reach f r.name edit old) far

    here : is_elsewhere e r ≡ false
    here = subst (λ (to : Pt). (not (int_eq to.x r.at.x) || not (int_eq to.y r.at.y)) ≡ false) wider.to first.0

    last : ((is_set edit || puts_by_grid r.name edit) ≡ false) × (list_any (part_may_touch f r.name) (changed_parts edit old) ≡ false)
    last = neither (is_set edit || puts_by_grid r.name edit) (list_any (part_may_touch f r.name) (changed_parts edit old)) first.1

    parts : list_any (part_may_touch e r.name) (changed_parts edit old) ≡ false
    parts =
        none-passes (part_may_touch e r.name) (changed_parts edit old)
        (λ part i. part-wider e f r.name part wider (fails-at (part_may_touch f r.name) part (changed_parts edit old) i last.1))

pub wider-boxes-tell : WiderBoxesTell
wider-boxes-tell e f bundle wider holds told place tells r edit old far =
    any-map (edit_touches edit old) (bundled r) (slice_set told place bundle)
    ∙ none-in-place (λ (b : Bundle). edit_touches edit old (bundled r b)) told place bundle (sym (any-map (edit_touches edit old) (bundled r) told) ∙ tells r edit old (edit-wider e f r edit old wider far)) new
  where
    alone : list_any (edit_touches edit old) (map (bundled r) (bundle ∷ [])) ≡ false
    alone = far-edits-touch-no-path f (bundle ∷ []) (All-cons (HoldsPath f) bundle [] holds (All-nil (HoldsPath f))) r edit old far

    new : edit_touches edit old (bundled r bundle) ≡ false
    new = (neither (edit_touches edit old (bundled r bundle)) false alone).0
