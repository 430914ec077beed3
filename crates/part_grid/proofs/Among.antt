-- What is crossed is among what is near.
use Rattle.std.proofs.Common.{◌≡◌, ℕ, zero, suc, ◌<◌, Bool, true, false, cond, List, [], ◌∷◌, length, get_or, map, filter, arith, ap, ◌∙◌, inl, inr}
use Rattle.std.specs.Prelude.{pos, ◌-ℤ◌, Contains}
use Rattle.std.proofs.lemmas.Int.{ints}
use Rattle.std.proofs.lemmas.Bool.{cases_Bool, both_ways}
use Rattle.scene_geom.specs.Crossing.{blocks_of}
use Rattle.part_grid.specs.declared.owned.Owned.{Owned}
use Rattle.part_grid.specs.declared.owned.Place.{Place}
use Rattle.part_grid.specs.Cells.{from_edge, cells_meet_of, boxes_meet}
use Rattle.part_grid.specs.Near.{place_of}
use Rattle.part_grid.specs.Laws.{LinesAreFloors, CrossedAreNear, BlockingAreNear, CrossedWaysAreNear}
use Rattle.part_grid.proofs.Crossed.{crossed-meets, unmet-are-apart}
use Rattle.part_grid.proofs.Boxed.{crossed-ways-are-boxed}

pub lines-are-floors : LinesAreFloors
lines-are-floors z h =
    let edge : z ≡ pos (from_edge z) -ℤ pos 4063232 = omega (arith, ints, h.low) in
    record { low = omega (arith, ints); high = omega (arith, ints) }

-- one more side doesn't take a place away
kept : (b : Bool) (x : Owned) (xs : List Owned) (place : Place) → Contains (map place_of xs) place → Contains (map place_of (cond b (x ∷ xs) xs)) place
kept true x xs place c = (suc c.0, omega (arith, c.1), c.2)
kept false x xs place c = c

-- a side that passes a test is among those that do
among : (test : Owned → Bool) (sides : List Owned) (owned : Owned) (k : ℕ) → k < length sides → get_or sides k owned ≡ owned → test owned ≡ true
    → Contains (map place_of (filter test sides)) (place_of owned)
among test [] owned k h e passes = absurd (omega arith)
among test (x ∷ xs) owned zero h e passes =
    let first : test x ≡ true = ap test e ∙ passes in
    rw first (zero, omega arith, ap place_of e)
among test (x ∷ xs) owned (suc k) h e passes = kept (test x) x (filter test xs) (place_of owned) (among test xs owned k (omega arith) e passes)

pub crossed-are-near : CrossedAreNear
crossed-are-near sides owned p q place c e = among (λ owned. cells_meet_of owned.side p q) sides owned c.0 c.1 c.2 (crossed-meets owned.side p q place e)

pub blocking-are-near : BlockingAreNear
blocking-are-near sides owned p q c e =
    among (λ owned. cells_meet_of owned.side p q) sides owned c.0 c.1 c.2 (elim (cases_Bool (cells_meet_of owned.side p q)) [
      | inl meets ↦ meets
      | inr unmet ↦ absurd (both_ways (blocks_of owned.side p q) (unmet-are-apart owned.side p q unmet).unblocked e)
    ])

pub crossed-ways-are-near : CrossedWaysAreNear
crossed-ways-are-near sides owned low high from dir end place holds c hit inside =
    among (λ owned. boxes_meet owned.side low high) sides owned c.0 c.1 c.2 (crossed-ways-are-boxed owned.side low high from dir end place holds hit inside)
