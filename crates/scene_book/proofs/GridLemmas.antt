-- The receivers of grids: their names, and the lists of them.
use Rattle.std.proofs.lemmas.List.{append_cancel_left}
use Rattle.std.proofs.lemmas.Slice.Eq.{bytes_eq-Decides}
use Rattle.scene_book.specs.Lists.{NoneNamed, AreApart}
use Rattle.std.proofs.Common.{◌≡◌, ℕ, zero, suc, true≢false, append_assoc, ◌+◌, ◌-◌, ◌<◌, ◌≤◌, refl, sym, ap, ◌∙◌, List, [], ◌∷◌, ◌++◌, length, Bool, true, false, ◌&&◌, ◌||◌, arith, length-append}
use Rattle.std.specs.Prelude.{nat_le, ◌==◌, bytes_eq}
use Rattle.std.specs.List.{list_all}
use Rattle.std.specs.Char.{is_ascii_digit}
use Rattle.std.specs.Int.{is_in_range}
use Rattle.std.specs.Str.{all_ascii_digits}
use Rattle.std.specs.Fmt.{decimal}
use Rattle.std.specs.Str.Parse.{digits_value}
use Rattle.std.proofs.lemmas.Bool.Decides.{nat_tests}
use Rattle.std.proofs.lemmas.List.Folds.{list_all-append}
use Rattle.std.proofs.lemmas.Fmt.{digits_decimal, decimal_injective, length-decimal-le}
use Rattle.std.proofs.lemmas.Str.Parse.{IsNumeralModel, numerals_by_value, tells_all_ascii_digits}
use Rattle.scene_parts.specs.Names.{is_any_name_byte, IsName, IsAnyName}
use Rattle.scene_parts.proofs.NameLemmas.{left, right, name-is_any_name}
use Rattle.scene_parts.specs.Parts.{Receiver, Grid}
use Rattle.scene_book.specs.Grid.{name_in, columns_from, rows_from, receiver_at}

own : IsNumeralModel (λ ds. all_ascii_digits ds ≡ true) (digits_value 10)
own = numerals_by_value (λ ds. all_ascii_digits ds ≡ true) tells_all_ascii_digits

widen : (d u l x y z s : Bool) → d ≡ true → ((((((d || u) || l) || x) || y) || z) || s) ≡ true
widen true u l x y z s h = refl
widen false u l x y z s h = cc

pub both : (p q : Bool) → p ≡ true → q ≡ true → (p && q) ≡ true
both true q h k = k
both false q h k = cc

digits_any : (ds : List ℕ) → all_ascii_digits ds ≡ true → list_all is_any_name_byte ds ≡ true
digits_any [] h = refl
digits_any (c ∷ cs) h =
    both (is_any_name_byte c) (list_all is_any_name_byte cs)
    (widen (is_ascii_digit c) (is_in_range 65 90 c) (is_in_range 97 122 c) (c == 95) (c == 45) (c == 46) (c == 47) (left (is_ascii_digit c) (all_ascii_digits cs) h))
    (digits_any cs (right (is_ascii_digit c) (all_ascii_digits cs) h))

pub number_any : (n : ℕ) → n < 4096 → list_all is_any_name_byte (decimal n) ≡ true
number_any n h = digits_any (decimal n) (digits_decimal own n (omega arith))

pub joined : (xs ys : List ℕ) → list_all is_any_name_byte xs ≡ true → list_all is_any_name_byte ys ≡ true → list_all is_any_name_byte (xs ++ ys) ≡ true
joined xs ys h k = list_all-append is_any_name_byte xs ys ∙ both (list_all is_any_name_byte xs) (list_all is_any_name_byte ys) h k

pub at_most_true : (a b : ℕ) → a ≤ b → nat_le a b ≡ true
at_most_true a b h = grind (arith, nat_tests)

pub short_enough : (name : List ℕ) → IsName name → length name ≤ 32
short_enough name h =
    let k : nat_le (length name) 32 ≡ true = right (nat_le 1 (length name)) (nat_le (length name) 32) (left (nat_le 1 (length name) && nat_le (length name) 32) _ h) in
    grind (arith, nat_tests)

length_in : (name : List ℕ) (row column : ℕ) → length (name_in name row column) ≡ length name + 1 + length (decimal column) + 1 + length (decimal row)
length_in name row column =
    omega (
      arith,
      length-append name (47 ∷ []),
      length-append (name ++ 47 ∷ []) (decimal column),
      length-append (name ++ 47 ∷ [] ++ decimal column) (47 ∷ []),
      length-append (name ++ 47 ∷ [] ++ decimal column ++ 47 ∷ []) (decimal row),
    )

pub grid_name : (name : List ℕ) (row column : ℕ) → IsName name → row < 4096 → column < 4096 → IsAnyName (name_in name row column)
grid_name name row column h r c =
    let long : length (name_in name row column) ≤ 42 =
    omega (arith, length_in name row column, short_enough name h, length-decimal-le 4 row (omega arith) (omega arith) (omega arith), length-decimal-le 4 column (omega arith) (omega arith) (omega arith)) in
    let some : 1 ≤ length (name_in name row column) = omega (arith, length_in name row column) in
    let bytes : list_all is_any_name_byte name ≡ true = right (nat_le 1 (length name) && nat_le (length name) 42) (list_all is_any_name_byte name) (name-is_any_name name h) in
    both (nat_le 1 (length (name_in name row column)) && nat_le (length (name_in name row column)) 42) (list_all is_any_name_byte (name_in name row column))
    (both (nat_le 1 (length (name_in name row column))) (nat_le (length (name_in name row column)) 42) (at_most_true _ _ some) (at_most_true _ _ long))
    (joined (name ++ 47 ∷ [] ++ decimal column ++ 47 ∷ []) (decimal row)
    (joined (name ++ 47 ∷ [] ++ decimal column) (47 ∷ [])
    (joined (name ++ 47 ∷ []) (decimal column) (joined name (47 ∷ []) bytes refl) (number_any column c)) refl)
    (number_any row r))

pub columns-step : (grid : Grid) (row column count : ℕ) → column < count
    → columns_from grid row column (count - column) ≡ receiver_at grid row column ∷ columns_from grid row (column + 1) (count - (column + 1))
columns-step grid row column count h =
    let e : count - column ≡ suc (count - (column + 1)) = omega arith in
    let f : suc column ≡ column + 1 = omega arith in
    ap (columns_from grid row column) e ∙ ap (λ n. receiver_at grid row column ∷ columns_from grid row n (count - (column + 1))) f

pub rows-step : (grid : Grid) (row count : ℕ) → row < count
    → rows_from grid row (count - row) ≡ columns_from grid row 0 grid.columns ++ rows_from grid (row + 1) (count - (row + 1))
rows-step grid row count h =
    let e : count - row ≡ suc (count - (row + 1)) = omega arith in
    let f : suc row ≡ row + 1 = omega arith in
    ap (rows_from grid row) e ∙ ap (λ n. columns_from grid row 0 grid.columns ++ rows_from grid n (count - (row + 1))) f

-- The names of a grid are apart.

abbrev tail_of : List ℕ → List ℕ
tail_of [] = []
tail_of (x ∷ xs) = xs

abbrev first_of : List ℕ → ℕ
first_of [] = 0
first_of (x ∷ xs) = x

no_slash : (c : ℕ) → c ≡ 47 → is_ascii_digit c ≡ true → ⊥
no_slash c h d = true≢false (sym d ∙ ap is_ascii_digit h)

-- digits up to the first `/` are the same where the texts are
same_digits : (ds es xs ys : List ℕ) → all_ascii_digits ds ≡ true → all_ascii_digits es ≡ true
    → ds ++ 47 ∷ xs ≡ es ++ 47 ∷ ys → (ds ≡ es) × (xs ≡ ys)
same_digits [] [] xs ys d e h = (refl, ap tail_of h)
same_digits [] (c ∷ es) xs ys d e h =
    absurd (no_slash c (sym (ap first_of h)) (left (is_ascii_digit c) (all_ascii_digits es) e))
same_digits (c ∷ ds) [] xs ys d e h =
    absurd (no_slash c (ap first_of h) (left (is_ascii_digit c) (all_ascii_digits ds) d))
same_digits (c ∷ ds) (b ∷ es) xs ys d e h =
    let rest = same_digits ds es xs ys (right (is_ascii_digit c) (all_ascii_digits ds) d)
    (right (is_ascii_digit b) (all_ascii_digits es) e) (ap tail_of h) in
    (ap (λ x. x ∷ ds) (ap first_of h) ∙ ap (λ (l : List ℕ). b ∷ l) rest.0, rest.1)

grouped : (name : List ℕ) (row column : ℕ)
    → name_in name row column ≡ (name ++ 47 ∷ []) ++ (decimal column ++ 47 ∷ decimal row)
grouped name row column =
    append_assoc (name ++ 47 ∷ [] ++ decimal column) (47 ∷ []) (decimal row)
    ∙ append_assoc (name ++ 47 ∷ []) (decimal column) (47 ∷ decimal row)

same_place : (name : List ℕ) (r c q b : ℕ) → r < 4096 → c < 4096 → q < 4096 → b < 4096
    → name_in name r c ≡ name_in name q b → (c ≡ b) × (r ≡ q)
same_place name r c q b r_few c_few q_few b_few h =
    let behind = append_cancel_left (name ++ 47 ∷ []) (decimal c ++ 47 ∷ decimal r) (decimal b ++ 47 ∷ decimal q)
    (sym (grouped name r c) ∙ h ∙ grouped name q b) in
    let both = same_digits (decimal c) (decimal b) (decimal r) (decimal q)
    (digits_decimal own c (omega arith)) (digits_decimal own b (omega arith)) behind in
    (decimal_injective c b (omega arith) (omega arith) both.0, decimal_injective r q (omega arith) (omega arith) both.1)

unlike : (name : List ℕ) (r c q b : ℕ) → r < 4096 → c < 4096 → q < 4096 → b < 4096 → (r ≡ q → c ≡ b → ⊥)
    → bytes_eq (name_in name r c) (name_in name q b) ≡ false
unlike name r c q b r_few c_few q_few b_few other = by (bytes_eq (name_in name r c) (name_in name q b)) refl
  where
    by : (t : Bool) → bytes_eq (name_in name r c) (name_in name q b) ≡ t → t ≡ false
    by true h =
        let same = same_place name r c q b r_few c_few q_few b_few ((bytes_eq-Decides (name_in name r c) (name_in name q b)).0 h) in
        absurd (other same.1 same.0)
    by false h = refl

none-append : (name : List ℕ) (xs ys : List Receiver) → NoneNamed (λ r. r.name) name xs → NoneNamed (λ r. r.name) name ys
    → NoneNamed (λ r. r.name) name (xs ++ ys)
none-append name [] ys h k = k
none-append name (x ∷ xs) ys h k = (h.0, none-append name xs ys h.1 k)

not_in_row : (grid : Grid) (r c q b count : ℕ) → r < 4096 → c < 4096 → q < 4096 → b + count ≤ 4096 → (r ≡ q → c < b)
    → NoneNamed (λ r. r.name) (name_in grid.name r c) (columns_from grid q b count)
not_in_row grid r c q b zero r_few c_few q_few few before = tt
not_in_row grid r c q b (suc count) r_few c_few q_few few before = (
  unlike grid.name r c q b r_few c_few q_few (omega arith) (λ e f. absurd (omega (arith, before e, f))),
  not_in_row grid r c q (suc b) count r_few c_few q_few (omega arith) (λ e. omega (arith, before e)),
)

not_in_rows : (grid : Grid) (r c q count : ℕ) → c < 4096 → r < q → q + count ≤ 4096 → grid.columns ≤ 4096
    → NoneNamed (λ r. r.name) (name_in grid.name r c) (rows_from grid q count)
not_in_rows grid r c q zero c_few before few columns = tt
not_in_rows grid r c q (suc count) c_few before few columns =
    none-append (name_in grid.name r c) (columns_from grid q 0 grid.columns) (rows_from grid (suc q) count)
    (not_in_row grid r c q 0 grid.columns (omega arith) c_few (omega arith) (omega arith) (λ e. absurd (omega (arith, e))))
    (not_in_rows grid r c (suc q) count c_few (omega arith) (omega arith) columns)

row-apart : (grid : Grid) (r b count : ℕ) (rest : List Receiver) → r < 4096 → b + count ≤ 4096
    → AreApart (λ r. r.name) rest → ((c : ℕ) → c < 4096 → NoneNamed (λ r. r.name) (name_in grid.name r c) rest)
    → AreApart (λ r. r.name) (columns_from grid r b count ++ rest)
row-apart grid r b zero rest r_few few apart none = apart
row-apart grid r b (suc count) rest r_few few apart none = (
  none-append (name_in grid.name r b) (columns_from grid r (suc b) count) rest
      (not_in_row grid r b r (suc b) count r_few (omega arith) r_few (omega arith) (λ e. omega arith))
      (none b (omega arith)),
  row-apart grid r (suc b) count rest r_few (omega arith) apart none,
)

pub rows-apart : (grid : Grid) (r count : ℕ) → r + count ≤ 4096 → grid.columns ≤ 4096
    → AreApart (λ r. r.name) (rows_from grid r count)
rows-apart grid r zero few columns = tt
rows-apart grid r (suc count) few columns =
    row-apart grid r 0 grid.columns (rows_from grid (suc r) count) (omega arith) (omega arith)
    (rows-apart grid (suc r) count (omega arith) columns)
    (λ c c_few. not_in_rows grid r c (suc r) count c_few (omega arith) (omega arith) columns)
