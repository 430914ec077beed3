-- Sources and sinks in memory, which fail at the calls of a list.
use Rattle.std.specs.Prelude.{◌≡◌, ◌==◌, ◌≤◌, ℕ, Bool, if◌then◌else◌, List, Result, Ok, MatchBool, IsErr}
use Rattle.std.specs.List.{list_any}
use Rattle.map_io.specs.Causes.{one_more}

-- what a source in memory has left, how much it gives at most at once, the calls that fail, counted from 1, how many
-- calls there were, and how many of them failed
pub record Supply : Type 0 where
  pub left : List ℕ
  pub piece : ℕ
  pub fail : List ℕ
  pub calls : ℕ
  pub faults : ℕ

-- what a sink in memory has taken, for how much more it has room, the calls that fail, counted from 1, how many calls
-- there were, and how many of them failed
pub record Store : Type 0 where
  pub taken : List ℕ
  pub room : ℕ
  pub fail : List ℕ
  pub calls : ℕ
  pub faults : ℕ

-- whether the call with this number fails
abbrev pub is_among : List ℕ → ℕ → Bool
is_among fail number = list_any (λ n. n == number) fail

-- a call fails and is counted, or it answers this
pub record Answers {E : Type 0} (failing : Bool) (result : Result ℕ E) (answer faults faults_new : ℕ) : Type 0 where
  pub variant : MatchBool failing (IsErr result) (result ≡ Ok answer)
  pub counted : faults_new ≡ (if failing then one_more faults else faults)

-- a source in memory has given no more than it has, and gives a byte at least at a time
pub record IsGiving (given size piece : ℕ) : Type 0 where
  pub inside : given ≤ size
  pub some : 1 ≤ piece
