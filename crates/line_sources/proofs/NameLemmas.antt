-- The names of pieces.
use Rattle.std.proofs.Common.{◌≡◌, ℕ, ◌+◌, ◌<◌, ◌≤◌, ◌^◌, List, [], ◌∷◌, ◌++◌, length, Bool, true, false, ◌&&◌, refl, arith, length-append}
use Rattle.std.specs.Prelude.{nat_le, ◌==◌, bytes_eq}
use Rattle.std.specs.List.{list_all}
use Rattle.std.specs.Fmt.{decimal}
use Rattle.std.proofs.lemmas.List.{append_cancel_left}
use Rattle.std.proofs.lemmas.Slice.Eq.{bytes_eq-Decides}
use Rattle.std.proofs.lemmas.Fmt.{decimal_injective, length-decimal-le}
use Rattle.scene_parts.specs.Names.{is_any_name_byte, IsName, IsAnyName}
use Rattle.scene_parts.proofs.NameLemmas.{left, right, name-is_any_name}
use Rattle.scene_book.proofs.GridLemmas.{both, number_any, joined, at_most_true, short_enough}
use Rattle.line_sources.specs.Pieces.{numbered}

pub numbered-name : (name : List ℕ) (number : ℕ) → IsName name → number < 4096 → IsAnyName (numbered name number)
numbered-name name number h few =
    let total : length (numbered name number) ≡ length name + 1 + length (decimal number) = omega (arith, length-append name (47 ∷ []), length-append (name ++ 47 ∷ []) (decimal number)) in
    let long : length (numbered name number) ≤ 42 = omega (arith, total, short_enough name h, length-decimal-le 4 number (omega arith) (omega arith) (omega arith)) in
    let some : 1 ≤ length (numbered name number) = omega (arith, total) in
    let bytes : list_all is_any_name_byte name ≡ true = right (nat_le 1 (length name) && nat_le (length name) 42) (list_all is_any_name_byte name) (name-is_any_name name h) in
    let digits : list_all is_any_name_byte (decimal number) ≡ true = number_any number few in
    both (nat_le 1 (length (numbered name number)) && nat_le (length (numbered name number)) 42) (list_all is_any_name_byte (numbered name number))
    (both (nat_le 1 (length (numbered name number))) (nat_le (length (numbered name number)) 42) (at_most_true _ _ some) (at_most_true _ _ long))
    (joined (name ++ 47 ∷ []) (decimal number) (joined name (47 ∷ []) bytes refl) digits)

-- names of different numbers differ
pub numbered-injective : (name : List ℕ) (i j : ℕ) → i < 2 ^ 64 → j < 2 ^ 64 → numbered name i ≡ numbered name j → i ≡ j
numbered-injective name i j i_small j_small same =
    decimal_injective i j i_small j_small (append_cancel_left (name ++ 47 ∷ []) (decimal i) (decimal j) same)

pub numbered-apart : (name : List ℕ) (i j : ℕ) → i < 2 ^ 64 → j < 2 ^ 64 → i < j → bytes_eq (numbered name i) (numbered name j) ≡ false
numbered-apart name i j i_small j_small less = by (bytes_eq (numbered name i) (numbered name j)) refl
  where
    by : (test : Bool) → bytes_eq (numbered name i) (numbered name j) ≡ test → test ≡ false
    by true h = absurd (omega (arith, less, numbered-injective name i j i_small j_small ((bytes_eq-Decides (numbered name i) (numbered name j)).0 h)))
    by false h = refl
