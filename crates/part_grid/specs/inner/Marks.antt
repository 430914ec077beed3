-- Marks at numbers, as the bits of words of 64.
use Rattle.std.specs.Prelude.{ℕ, ◌*◌, ◌/◌, ◌%◌, ◌^◌, ◌≤◌, ◌<◌, Bool, ◌==◌, List, length, map, slice_index}
use Rattle.std.specs.Int.{bit_at}
use Rattle.std.specs.List.{range_with_len}

-- a number is marked
abbrev pub is_marked : List ℕ → ℕ → Bool
is_marked words number = bit_at (slice_index words (number / 64)) (number % 64) == 1

-- the marks of so many numbers
abbrev pub marks_of : List ℕ → ℕ → List Bool
marks_of words count = map (is_marked words) (range_with_len 0 count)

-- there are words of 64 bits for all numbers
pub record IsMarks (words : List ℕ) (count : ℕ) : Type 0 where
  pub room : count ≤ 64 * length words
  pub fits : (k : ℕ) → slice_index words k < 2 ^ 64
