-- What a sink has taken of a piece.
use Rattle.std.specs.Prelude.{◌≡◌, ◌<◌, ℕ, List, ◌++◌, length, Option, Result, IfOk}
use Rattle.std.specs.Io.KnownBytes.{Appends}

-- it takes 0 bytes only of a piece that has none
abbrev pub TakesSome : {E : Type 0} → Result ℕ E → List ℕ → Type 0
TakesSome result piece = IfOk result (λ n. n ≡ 0 → length piece ≡ 0)

-- a front of the piece was added to what was taken, where the sink tells, and the front isn't the whole piece
pub record TakesPart (before after : Option (List ℕ)) (piece : List ℕ) : Type 0 where
  pub front : List ℕ
  pub rest : List ℕ
  pub parts : piece ≡ front ++ rest
  pub missing : 0 < length rest
  pub taken : Appends before after front

-- what was taken is all of the piece that comes before this rest
pub record TakenBefore (before after : Option (List ℕ)) (piece rest : List ℕ) : Type 0 where
  pub front : List ℕ
  pub parts : piece ≡ front ++ rest
  pub taken : Appends before after front
