-- Tests in a row.
use Rattle.std.proofs.Common.{◌≡◌, ℕ, suc, ◌+◌, ◌<◌, refl, sym, ap, List, [], ◌∷◌, ◌++◌, length, get_or, drop, drop-cons, add-one, append_assoc}
use Rattle.std.specs.Prelude.{Bool, true, false, Result, Ok, Err}
use Rattle.scene_parts.specs.declared.outlines.RawPt.{RawPt}
use Rattle.scene_parts.specs.declared.faults.PartFault.{PartFault}
use Rattle.scene_parts.specs.Answers.{◌>>=◌, Unless, each}
use Rattle.scene_parts.specs.Checking.{corner_of, corners_of}

-- what is owed unless a test passes, where it holds
pub unless : {P : Type 0} (test : Bool) → P → Unless test P
unless true fact = tt
unless false fact = fact

-- a test of the items that are left, behind what the first ones gave
abbrev pub after : {A B : Type 0} → (A → Result B PartFault) → List B → List A → Result (List B) PartFault
after test done left = each test left >>= λ ys. Ok (done ++ ys)

regroup : {B : Type 0} (r : Result (List B) PartFault) (done : List B) (y : B)
    → ((r >>= λ ys. Ok (y ∷ ys)) >>= λ ys. Ok (done ++ ys)) ≡ (r >>= λ ys. Ok ((done ++ y ∷ []) ++ ys))
regroup (Ok ys) done y = ap Ok (sym (append_assoc done (y ∷ []) ys))
regroup (Err fault) done y = refl

pub after-step : {A B : Type 0} (test : A → Result B PartFault) (done : List B) (xs : List A) (i : ℕ) (d : A) (y : B) → i < length xs → Ok y ≡ test (get_or xs i d)
    → after test done (drop i xs) ≡ after test (done ++ y ∷ []) (drop (i + 1) xs)
after-step test done xs i d y h e = rw (drop-cons xs i d, add-one, ← e) (regroup (each test (drop (suc i) xs)) done y)

pub after-stop : {A B : Type 0} (test : A → Result B PartFault) (done : List B) (xs : List A) (i : ℕ) (d : A) (fault : PartFault) → i < length xs → Err fault ≡ test (get_or xs i d)
    → after test done (drop i xs) ≡ Err fault
after-stop test done xs i d fault h e = rw (drop-cons xs i d, ← e) refl

pub corners-stop : (points : List RawPt) (fault : PartFault) → each corner_of points ≡ Err fault → corners_of points ≡ Err fault
unfolding corners_of
corners-stop points fault e = rw e refl
