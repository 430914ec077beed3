use Rattle.std.proofs.Common.{◌≡◌, ◌∙◌, ℕ, Bool, true, false, cond, List, ap, sym, refl, length, Some, None, arith}
use Rattle.std.specs.Prelude.{bytes_eq, slice_get, find, nat_lt}
use Rattle.std.specs.List.{position, position_or_len}
use Rattle.std.proofs.lemmas.Bool.{ltb-false}
use Rattle.std.proofs.lemmas.List.Folds.{find_at}
use Rattle.std.proofs.lemmas.Option.{slice_get_past}
use Rattle.scene_parts.specs.Parts.{Receiver}
use Rattle.map_board.proofs.returns.back.place_in.Goals as goal

module _ {A : Type 0} (p : A → Bool) (xs : List A) where
  there : (i : ℕ) → position p xs ≡ Some i → slice_get xs i ≡ find p xs
  there i is = go (nat_lt (position_or_len p xs) (length xs)) is where
    go : (within : Bool) → cond within (Some (position_or_len p xs)) None ≡ Some i → slice_get xs i ≡ find p xs
    go true is = let same : position_or_len p xs ≡ i = cc is in ap (slice_get xs) (sym same) ∙ sym (find_at p xs)
    go false is = absurd (cc is)

  nowhere : position p xs ≡ None → slice_get xs (length xs) ≡ find p xs
  nowhere none = go (nat_lt (position_or_len p xs) (length xs)) refl none where
    go : (within : Bool) → nat_lt (position_or_len p xs) (length xs) ≡ within → cond within (Some (position_or_len p xs)) None ≡ None
        → slice_get xs (length xs) ≡ find p xs
    go true e is = absurd (cc is)
    go false e is =
        slice_get_past xs (length xs) (omega arith)
        ∙ sym (find_at p xs ∙ slice_get_past xs (position_or_len p xs) (ltb-false (position_or_len p xs) (length xs) e))

pub returns-in-Some : goal.returns-in-Some
returns-in-Some c =
    there (λ (r : Receiver). bytes_eq c.args.name.now r.name) c.args.scene.now.receivers c.in-Some.place (sym c.receiver_place.ensures ∙ c.in-Some.is)

pub returns-in-None : goal.returns-in-None
returns-in-None c =
    ap (slice_get c.args.scene.now.receivers) (ap length c.receivers.ensures.value)
    ∙ nowhere (λ (r : Receiver). bytes_eq c.args.name.now r.name) c.args.scene.now.receivers (sym c.receiver_place.ensures ∙ c.in-None.is)
