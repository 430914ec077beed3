-- The sides of an outline whose corners are all on one hand of a line don't cross it.
use Rattle.std.proofs.Common.{◌≡◌, refl, sym, ap, ◌∙◌, Bool, true, false, List, [], ◌∷◌, ◌++◌}
use Rattle.std.specs.Prelude.{◌&&◌}
use Rattle.std.specs.Bool.{beq}
use Rattle.std.specs.List.{list_all}
use Rattle.std.proofs.lemmas.List.Folds.{list_all-append}
use Rattle.scene_geom.specs.declared.plan.Pt.{Pt}
use Rattle.scene_geom.specs.declared.directions.direction.Dir.{Dir}
use Rattle.scene_geom.specs.Crossing.{differ, is_left}
use Rattle.scene_geom.specs.Direction.{way}
use Rattle.scene_geom.specs.Vector.{Vector}
use Rattle.scene_geom.specs.Outline.{passages_of, sides_along, ring}

both-true : (a b : Bool) → (a && b) ≡ true → (a ≡ true) × (b ≡ true)
both-true true b e = (refl, e)
both-true false b e = absurd (cc)

beq-is : (x y : Bool) → beq x y ≡ true → x ≡ y
beq-is true true e = refl
beq-is true false e = absurd (cc)
beq-is false true e = absurd (cc)
beq-is false false e = refl

-- whether a corner is on the hand that left says
abbrev pub on_hand : Pt → Dir → Bool → Pt → Bool
on_hand from dir left corner = beq (is_left from (way dir) corner) left

same-hand : (x y left : Bool) → beq x left ≡ true → beq y left ≡ true → differ x y ≡ false
same-hand true true true e f = refl
same-hand true true false e f = refl
same-hand false false true e f = refl
same-hand false false false e f = refl
same-hand true false true e f = absurd (cc)
same-hand true false false e f = absurd (cc)
same-hand false true true e f = absurd (cc)
same-hand false true false e f = absurd (cc)

beside-line : (from : Pt) (dir : Dir) (left : Bool) (a : Pt) (rest : List Pt) → on_hand from dir left a ≡ true → list_all (on_hand from dir left) rest ≡ true
    → passages_of (sides_along (a ∷ rest)) from dir ≡ []
beside-line from dir left a [] h k = refl
beside-line from dir left a (b ∷ rest) h k =
    let tests = both-true (on_hand from dir left b) (list_all (on_hand from dir left) rest) k in
    rw (same-hand (is_left from (way dir) a) (is_left from (way dir) b) left h tests.0) (beside-line from dir left b rest tests.0 tests.1)

pub beside-ring : (from : Pt) (dir : Dir) (left : Bool) (first : Pt) (rest : List Pt) → on_hand from dir left first ≡ true → list_all (on_hand from dir left) rest ≡ true
    → passages_of (ring (first ∷ rest)) from dir ≡ []
beside-ring from dir left first rest h k =
    beside-line from dir left first (rest ++ first ∷ []) h (list_all-append (on_hand from dir left) rest (first ∷ []) ∙ rw (k, h) refl)

beq-self : (x : Bool) → beq x x ≡ true
beq-self true = refl
beq-self false = refl

pub beside : (outline : List Pt) (from : Pt) (dir : Dir) (v : Vector) (left : Bool) (first : Pt) (rest : List Pt) → outline ≡ first ∷ rest → v ≡ way dir → left ≡ is_left from v first
    → list_all (λ corner. beq (is_left from v corner) left) rest ≡ true → passages_of (ring outline) from dir ≡ []
beside outline from dir v left first rest o e f k =
    let hand : is_left from (way dir) first ≡ left = ap (λ (w : Vector). is_left from w first) (sym e) ∙ sym f in
    let all = ap (λ (w : Vector). list_all (λ corner. beq (is_left from w corner) left) rest) (sym e) ∙ k in
    ap (λ (corners : List Pt). passages_of (ring corners) from dir) o
    ∙ beside-ring from dir left first rest (ap (λ (x : Bool). beq x left) hand ∙ beq-self left) all
