-- The sides of an outline by their numbers.
use Rattle.std.proofs.Common.{◌≡◌, ℕ, zero, suc, ◌+◌, ◌-◌, ◌<◌, ◌≤◌, ap, ◌∙◌, refl, List, [], ◌∷◌, ◌++◌, length, drop, Bool, true, false, cond, ◌&&◌, IsTrue, arith, add-one, length-append}
use Rattle.std.specs.Prelude.{Some, Ok, Err, slice_get}
use Rattle.std.specs.List.{list_all}
use Rattle.std.proofs.Common.{get_or}
use Rattle.std.proofs.lemmas.List.{drop_all}
use Rattle.std.proofs.lemmas.Option.{slice_get_read}
use Rattle.scene_geom.specs.declared.plan.Pt.{Pt}
use Rattle.scene_geom.specs.declared.plan.Side.{Side}
use Rattle.scene_geom.specs.Outline.{sides_along, ring}
use Rattle.scene_parts.specs.declared.kinds.Shape.{Shape}
use Rattle.scene_parts.specs.declared.kinds.Shape.TheVariants.{Barrier, Building}
use Rattle.scene_parts.specs.declared.faults.PartFault.{PartFault}
use Rattle.scene_parts.specs.declared.faults.PartFault.TheVariants.{SideTooLong}
use Rattle.scene_parts.specs.Sides.{sides_in, squared_length, is_short, floor_root}
use Rattle.scene_parts.specs.Checking.{check_sides_from}

length-sides_along : (p : Pt) (ps : List Pt) → length (sides_along (p ∷ ps)) ≡ length ps
length-sides_along p [] = refl
length-sides_along p (q ∷ ps) = ap suc (length-sides_along q ps)

pub length-barrier : (corners : List Pt) → length (sides_along corners) ≡ length corners - 1
length-barrier [] = refl
length-barrier (p ∷ ps) = omega (arith, length-sides_along p ps)

pub length-ring : (corners : List Pt) → length (ring corners) ≡ length corners
length-ring [] = refl
length-ring (p ∷ ps) = omega (arith, length-sides_along p (ps ++ p ∷ []), length-append ps (p ∷ []))

pub no_more_sides : (shape : Shape) (corners : List Pt) → length (sides_in shape corners) ≤ length corners
no_more_sides Barrier corners = omega (arith, length-barrier corners)
no_more_sides Building corners = omega (arith, length-ring corners)

along-at : (p : Pt) (ps : List Pt) (i : ℕ) (a b : Pt) → slice_get (p ∷ ps) i ≡ Some a → slice_get ps i ≡ Some b
    → slice_get (sides_along (p ∷ ps)) i ≡ Some (record { from = a; to = b })
along-at p [] i a b e f = cc
along-at p (q ∷ ps) zero a b e f = cc
along-at p (q ∷ ps) (suc i) a b e f = along-at q ps i a b e f

-- a barrier's side leads from a point to the next
pub barrier-at : (corners : List Pt) (i : ℕ) (a b : Pt) → slice_get corners i ≡ Some a → slice_get corners (i + 1) ≡ Some b
    → slice_get (sides_along corners) i ≡ Some (record { from = a; to = b })
barrier-at [] i a b e f = cc
barrier-at (p ∷ ps) i a b e f = along-at p ps i a b e (rw add-one at f)

get-append : {A : Type 0} (xs ys : List A) (i : ℕ) (x : A) → slice_get xs i ≡ Some x → slice_get (xs ++ ys) i ≡ Some x
get-append [] ys i x e = cc
get-append (y ∷ xs) ys zero x e = e
get-append (y ∷ xs) ys (suc i) x e = get-append xs ys i x e

get-end : {A : Type 0} (xs : List A) (y : A) (i : ℕ) → i ≡ length xs → slice_get (xs ++ y ∷ []) i ≡ Some y
get-end [] y i e = rw e refl
get-end (x ∷ xs) y zero e = absurd (omega arith)
get-end (x ∷ xs) y (suc i) e = get-end xs y i (omega arith)

-- so does a building's, but for the last
pub building-at : (corners : List Pt) (i : ℕ) (a b : Pt) → slice_get corners i ≡ Some a → slice_get corners (i + 1) ≡ Some b
    → slice_get (ring corners) i ≡ Some (record { from = a; to = b })
building-at [] i a b e f = cc
building-at (p ∷ ps) i a b e f =
    along-at p (ps ++ p ∷ []) i a b (get-append (p ∷ ps) (p ∷ []) i a e) (get-append ps (p ∷ []) i b (rw add-one at f))

-- which leads back to the first corner
pub building-last : (corners : List Pt) (i : ℕ) (a b : Pt) → slice_get corners i ≡ Some a → slice_get corners 0 ≡ Some b → i + 1 ≡ length corners
    → slice_get (ring corners) i ≡ Some (record { from = a; to = b })
building-last [] i a b e f h = cc
building-last (p ∷ ps) i a b e f h =
    let same : p ≡ b = cc in
    along-at p (ps ++ p ∷ []) i a b (get-append (p ∷ ps) (p ∷ []) i a e)
    (get-end ps p i (omega arith) ∙ ap Some same)

drop-get : {A : Type 0} (xs : List A) (i : ℕ) (x : A) → slice_get xs i ≡ Some x → drop i xs ≡ x ∷ drop (suc i) xs
drop-get [] i x e = cc
drop-get (y ∷ xs) zero x e = cc
drop-get (y ∷ xs) (suc i) x e = drop-get xs i x e

-- the test of the sides from one on, where it is short and where it isn't
pub short-step : (sides : List Side) (i : ℕ) (side : Side) → slice_get sides i ≡ Some side → is_short side ≡ true
    → check_sides_from i (drop i sides) ≡ check_sides_from (i + 1) (drop (i + 1) sides)
short-step sides i side e h = rw (drop-get sides i side e, h, add-one) refl

pub short-stop : (sides : List Side) (i : ℕ) (side : Side) → slice_get sides i ≡ Some side → is_short side ≡ false
    → check_sides_from i (drop i sides) ≡ Err (SideTooLong i (floor_root (squared_length side)))
short-stop sides i side e h = rw (drop-get sides i side e, h) refl

-- all sides are short where the test passes
pub short-all : (i : ℕ) (sides : List Side) → check_sides_from i sides ≡ Ok tt → IsTrue (list_all is_short sides)
short-all i [] e = refl
short-all i (side ∷ sides) e = short-each (is_short side) _ i sides (short-all (i + 1) sides) e
  where
    short-each : (b : Bool) (f : PartFault) (i : ℕ) (sides : List Side) → (check_sides_from (i + 1) sides ≡ Ok tt → IsTrue (list_all is_short sides))
        → cond b (check_sides_from (i + 1) sides) (Err f) ≡ Ok tt → IsTrue (b && list_all is_short sides)
    short-each true f i sides h e = h e
    short-each false f i sides h e = cc

-- the sides of a shape, told by its points as they were read
pub barrier-fewer : (shape : Shape) (corners : List Pt) (i : ℕ) → shape ≡ Barrier → i < length (sides_in shape corners) → i + 1 < length corners
barrier-fewer Barrier corners i e h = omega (arith, length-barrier corners)
barrier-fewer Building corners i e h = cc

pub barrier-read : (shape : Shape) (corners : List Pt) (i : ℕ) (a b : Pt) → shape ≡ Barrier → i + 1 < length corners → a ≡ get_or corners i a → b ≡ get_or corners (i + 1) b
    → slice_get (sides_in shape corners) i ≡ Some (record { from = a; to = b })
barrier-read Barrier corners i a b e h f g =
    barrier-at corners i a b (slice_get_read corners (length corners) i a refl (omega arith) f) (slice_get_read corners (length corners) (i + 1) b refl h g)
barrier-read Building corners i a b e h f g = cc

pub building-read : (shape : Shape) (corners : List Pt) (i : ℕ) (a b : Pt) → shape ≡ Building → i + 1 < length corners → a ≡ get_or corners i a → b ≡ get_or corners (i + 1) b
    → slice_get (sides_in shape corners) i ≡ Some (record { from = a; to = b })
building-read Barrier corners i a b e h f g = cc
building-read Building corners i a b e h f g =
    building-at corners i a b (slice_get_read corners (length corners) i a refl (omega arith) f) (slice_get_read corners (length corners) (i + 1) b refl h g)

pub building-read_last : (shape : Shape) (corners : List Pt) (i : ℕ) (a b : Pt) → shape ≡ Building → i < length (sides_in shape corners) → length corners ≤ i + 1
    → a ≡ get_or corners i a → b ≡ get_or corners 0 b → slice_get (sides_in shape corners) i ≡ Some (record { from = a; to = b })
building-read_last Barrier corners i a b e w h f g = cc
building-read_last Building corners i a b e w h f g =
    let within : i < length corners = omega (arith, length-ring corners) in
    building-last corners i a b (slice_get_read corners (length corners) i a refl within f) (slice_get_read corners (length corners) 0 b refl (omega arith) g) (omega arith)

-- no side is left at the end
pub short-end : (sides : List Side) (i : ℕ) → length sides ≤ i → check_sides_from i (drop i sides) ≡ Ok tt
short-end sides i h = rw (drop_all i sides h) refl
