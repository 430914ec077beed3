-- The receivers of a grid, and the names that they bear.
use Rattle.std.proofs.Common.{◌≡◌, ℕ, zero, suc, ◌+◌, ◌-◌, ◌<◌, ◌≤◌, Bool, true, false, ◌&&◌, ◌||◌, ◌⊎◌, inl, inr, List, [], ◌∷◌, ◌++◌, length, get_or, take, drop, refl, sym, ap, subst, ◌∙◌, arith, rules, append_assoc, add-one, length-append}
use Rattle.std.specs.Prelude.{bytes_eq, Option, Some, IsTrue, IfSome, ◌↔◌}
use Rattle.std.specs.Bool.{then_some}
use Rattle.std.specs.List.{list_any}
use Rattle.std.specs.Fmt.{decimal}
use Rattle.std.specs.Str.{all_ascii_digits}
use Rattle.std.proofs.lemmas.Slice.Eq.{bytes_eq-Decides}
use Rattle.std.proofs.lemmas.Fmt.{digits_decimal, digits_value-decimal, decimal_nonempty, first_decimal, length-decimal-le, decimal-digits_value}
use Rattle.std.proofs.lemmas.Str.Parse.{IsNumeralModel, numerals_by_fold, not_in_digits, digits_value_short}
use Rattle.std.proofs.lemmas.List.Folds.{list_any-append}
use Rattle.std.proofs.lemmas.List.{get_or_append_left, take-append-drop, drop_more, take_all, length-drop, append_cancel_left}
use Rattle.std.proofs.lemmas.Grind.{get_or_default_zero}
use Rattle.std.proofs.Math.Seq.{get_or-append_seam, take-append_seam}
use Rattle.std.proofs.Math.Nat.{eq-or-lt_of_le}
use Rattle.scene_parts.specs.Parts.{Receiver, Grid}
use Rattle.scene_book.specs.Grid.{name_in, receiver_at, columns_from, rows_from, receivers_of}
use Rattle.touch_test.specs.inner.Numbers.{read_on}

pub own : IsNumeralModel (λ ds. all_ascii_digits ds ≡ true) (read_on 0)
own = numerals_by_fold _ (search rules) read_on (search rules)

-- ---- truth values

pub either-true : (a b : Bool) → (a || b) ≡ true → (a ≡ true) ⊎ (b ≡ true)
either-true true b h = inl refl
either-true false b h = inr h

pub left-true : (a b : Bool) → a ≡ true → (a || b) ≡ true
left-true true b h = refl
left-true false b h = cc

pub right-true : (a b : Bool) → b ≡ true → (a || b) ≡ true
right-true true b h = refl
right-true false b h = h

-- two tests are one where each passes where the other does
pub one-test : (a b : Bool) → (a ≡ true → b ≡ true) → (b ≡ true → a ≡ true) → a ≡ b
one-test true b h k = sym (h refl)
one-test false true h k = k refl
one-test false false h k = refl

-- ---- the receivers of a row, and of a grid

total : (m n : ℕ) → (m ≤ n) ⊎ (n < m)
total zero n = inl (omega arith)
total (suc m) zero = inr (omega arith)
total (suc m) (suc n) = elim (total m n) [ inl l ↦ inl (omega arith) | inr l ↦ inr (omega arith) ]

module _ (test : Receiver → Bool) (grid : Grid) where
  -- one of so many receivers of a row from a column on passes, and one of so many rows
  abbrev InRow : ℕ → ℕ → ℕ → Type 0
  InRow row column count = (c : ℕ) × (column ≤ c) × (c < column + count) × (test (receiver_at grid row c) ≡ true)

  abbrev InRows : ℕ → ℕ → Type 0
  InRows row count = (k : ℕ) × (row ≤ k) × (k < row + count) × (list_any test (columns_from grid k 0 grid.columns) ≡ true)

  row-from : (row column count : ℕ) → list_any test (columns_from grid row column count) ≡ true → InRow row column count
  row-from row column zero h = cc
  row-from row column (suc count) h =
      elim (either-true (test (receiver_at grid row column)) (list_any test (columns_from grid row (suc column) count)) h) [
        | inl t ↦ (column, omega arith, omega arith, t)
        | inr t ↦ (let f = row-from row (suc column) count t in (f.0, omega arith, omega arith, f.3))
      ]

  row-to : (row column count c : ℕ) → column ≤ c → c < column + count → test (receiver_at grid row c) ≡ true
      → list_any test (columns_from grid row column count) ≡ true
  row-to row column zero c low high h = absurd (omega arith)
  row-to row column (suc count) c low high h =
      elim (eq-or-lt_of_le low) [
        | inl e ↦ left-true _ _ (subst (λ (k : ℕ). test (receiver_at grid row k) ≡ true) (sym e) h)
        | inr l ↦ right-true _ _ (row-to row (suc column) count c l (omega arith) h)
      ]

  rows-in : (row count : ℕ) → list_any test (rows_from grid row count) ≡ true → InRows row count
  rows-in row zero h = cc
  rows-in row (suc count) h =
      elim (either-true (list_any test (columns_from grid row 0 grid.columns)) (list_any test (rows_from grid (suc row) count))
      (sym (list_any-append test (columns_from grid row 0 grid.columns) (rows_from grid (suc row) count)) ∙ h)) [
        | inl t ↦ (row, omega arith, omega arith, t)
        | inr t ↦ (let f = rows-in (suc row) count t in (f.0, omega arith, omega arith, f.3))
      ]

  rows-to : (row count k : ℕ) → row ≤ k → k < row + count → list_any test (columns_from grid k 0 grid.columns) ≡ true
      → list_any test (rows_from grid row count) ≡ true
  rows-to row zero k low high h = absurd (omega arith)
  rows-to row (suc count) k low high h =
      list_any-append test (columns_from grid row 0 grid.columns) (rows_from grid (suc row) count)
      ∙ elim (eq-or-lt_of_le low) as (λ _. (list_any test (columns_from grid row 0 grid.columns) || list_any test (rows_from grid (suc row) count)) ≡ true) [
        | inl e ↦ left-true _ _ (subst (λ (i : ℕ). list_any test (columns_from grid i 0 grid.columns) ≡ true) (sym e) h)
        | inr l ↦ right-true _ _ (rows-to (suc row) count k l (omega arith) h)
      ]

-- a text reads as the place of a receiver of a grid
abbrev pub AtPlace : ℕ → ℕ → List ℕ → Type 0
AtPlace columns rows text =
    (column : ℕ) × (row : ℕ) × (column < columns) × (row < rows) × (text ≡ 47 ∷ (decimal column ++ 47 ∷ decimal row))

name-is : (name : List ℕ) (row column : ℕ) → name_in name row column ≡ name ++ 47 ∷ (decimal column ++ 47 ∷ decimal row)
name-is name row column = simp append_assoc

pub put-from : (grid : Grid) (name : List ℕ) → list_any (λ receiver. bytes_eq receiver.name name) (receivers_of grid) ≡ true
    → (rest : List ℕ) × (name ≡ grid.name ++ rest) × AtPlace grid.columns grid.rows rest
put-from grid name h =
    let test : Receiver → Bool = λ receiver. bytes_eq receiver.name name in
    let row = rows-in test grid 0 grid.rows h in
    let column = row-from test grid row.0 0 grid.columns row.3 in (
      47 ∷ (decimal column.0 ++ 47 ∷ decimal row.0),
      sym ((bytes_eq-Decides (name_in grid.name row.0 column.0) name).0 column.3) ∙ name-is grid.name row.0 column.0,
      (column.0, row.0, omega (arith, column.2), omega (arith, row.2), refl),
    )

pub put-to : (grid : Grid) (name rest : List ℕ) → name ≡ grid.name ++ rest → AtPlace grid.columns grid.rows rest
    → list_any (λ receiver. bytes_eq receiver.name name) (receivers_of grid) ≡ true
put-to grid name rest is (column, row, c, r, e) =
    let test : Receiver → Bool = λ receiver. bytes_eq receiver.name name in
    rows-to test grid 0 grid.rows row (omega arith) (omega arith)
    (row-to test grid row 0 grid.columns column (omega arith) (omega arith)
    ((bytes_eq-Decides (name_in grid.name row column) name).1
    (name-is grid.name row column ∙ ap (λ (l : List ℕ). grid.name ++ l) (sym e) ∙ sym is)))

-- ---- numbers

-- a text has the form of a number, whatever its bytes are
abbrev pub HasForm : List ℕ → Type 0
HasForm text = (0 < length text) × (length text ≤ 4) × (get_or text 0 0 ≡ 48 → length text ≤ 1)

pub written : (text : List ℕ) (found : Option ℕ) → HasForm text → found ≡ then_some (all_ascii_digits text) (read_on 0 text)
    → IfSome found (λ n. text ≡ decimal n)
written text found form is = rw is (by (all_ascii_digits text) refl)
  where
    by : (digits : Bool) → all_ascii_digits text ≡ digits → IfSome (then_some digits (read_on 0 text)) (λ n. text ≡ decimal n)
    by false e = tt
    by true e =
        let lone : get_or text 0 0 ≡ 48 → length text ≡ 1 = λ z. let few : length text ≤ 1 = form.2 z in omega (arith, form.0) in
        sym (decimal-digits_value own text e form.0 lone (omega (arith, digits_value_short own text 4 e form.1)))

pub said : (text : List ℕ) (n : ℕ) → n < 4096 → text ≡ decimal n → (all_ascii_digits text ≡ true) × (read_on 0 text ≡ n)
said text n small is =
    (ap all_ascii_digits is ∙ digits_decimal own n (omega arith), ap (read_on 0) is ∙ digits_value-decimal own n (omega arith))

-- what a number's text isn't: empty, long, or with a zero in front
pub some-digits : (text : List ℕ) (n : ℕ) → n < 4096 → text ≡ decimal n → 0 < length text
some-digits text n small is = subst (λ (l : List ℕ). 0 < length l) (sym is) (decimal_nonempty n (omega arith))

pub few-digits : (text : List ℕ) (n : ℕ) → n < 4096 → text ≡ decimal n → length text ≤ 4
few-digits text n small is =
    subst (λ (l : List ℕ). length l ≤ 4) (sym is) (length-decimal-le 4 n (omega arith) (omega arith) (omega arith))

pub no-zero : (text : List ℕ) (n : ℕ) → n < 4096 → text ≡ decimal n → get_or text 0 0 ≡ 48 → length text ≤ 1
no-zero text zero small is h = subst (λ (l : List ℕ). length l ≤ 1) (sym is) (length-decimal-le 1 zero (omega arith) (omega arith) (omega arith))
no-zero text (suc n) small is h =
    absurd (let first : 48 < get_or text 0 0 = subst (λ (l : List ℕ). 48 < get_or l 0 0) (sym is) (first_decimal (suc n) (omega arith) (omega arith)) in omega arith)

pub read-back : (text : List ℕ) (found : Option ℕ) → found ≡ then_some (all_ascii_digits text) (read_on 0 text)
    → (n : ℕ) → n < 4096 → text ≡ decimal n → found ≡ Some n
read-back text found is n small e =
    let told = said text n small e in
    is ∙ ap (λ (b : Bool). then_some b (read_on 0 text)) told.0 ∙ ap Some told.1

pub has-form : (text : List ℕ) (n : ℕ) → n < 4096 → text ≡ decimal n → HasForm text
has-form text n small is = (some-digits text n small is, few-digits text n small is, no-zero text n small is)

-- ---- two numbers with a slash between them

drop-seam : (xs : List ℕ) (y : ℕ) (ys : List ℕ) → drop (suc (length xs)) (xs ++ y ∷ ys) ≡ ys
drop-seam [] y ys = refl
drop-seam (x ∷ xs) y ys = drop-seam xs y ys

module _ (text : List ℕ) (column row : ℕ) (c : column < 4096) (is : text ≡ decimal column ++ 47 ∷ decimal row) where
  -- the slash stands behind the first number
  pub slash-there : get_or text (length (decimal column)) 0 ≡ 47
  slash-there = ap (λ (l : List ℕ). get_or l (length (decimal column)) 0) is ∙ get_or-append_seam (decimal column) 47 (decimal row) 0

  pub slash-within : length (decimal column) < length text
  slash-within = omega (arith, ap length is, length-append (decimal column) (47 ∷ decimal row))

  digit-before : (i : ℕ) → i < length (decimal column) → get_or text i 0 ≡ 47 → ⊥
  digit-before i h e =
      not_in_digits own (decimal column) 47 (digits_decimal own column (omega arith)) (λ r. omega (arith, r)) i h
      (sym (get_or_append_left (decimal column) (47 ∷ decimal row) 0 i h) ∙ sym (ap (λ (l : List ℕ). get_or l i 0) is) ∙ e)

  -- so the first slash is this one
  pub first-slash : (i : ℕ) → ((k : ℕ) → k < i → get_or text k 0 ≡ 47 → ⊥) → get_or text i 0 ≡ 47 → i ≡ length (decimal column)
  first-slash i before at = by (total i (length (decimal column)))
    where
      by : (i ≤ length (decimal column)) ⊎ (length (decimal column) < i) → i ≡ length (decimal column)
      by (inl low) = elim (eq-or-lt_of_le low) [ inl e ↦ e | inr l ↦ absurd (digit-before i l at) ]
      by (inr high) = absurd (before (length (decimal column)) high slash-there)

  -- and before it is the first number, behind it the second
  pub before-slash : (i : ℕ) → i ≡ length (decimal column) → take i text ≡ decimal column
  before-slash i e =
      ap (λ (k : ℕ). take k text) e
      ∙ ap (take (length (decimal column))) is
      ∙ take-append_seam (decimal column) (47 ∷ decimal row)

  pub behind-slash : (i : ℕ) → i ≡ length (decimal column) → drop (i + 1) text ≡ decimal row
  behind-slash i e =
      ap (λ (k : ℕ). drop (k + 1) text) e
      ∙ ap (drop (length (decimal column) + 1)) is
      ∙ ap (λ (k : ℕ). drop k (decimal column ++ 47 ∷ decimal row)) (add-one (length (decimal column)))
      ∙ drop-seam (decimal column) 47 (decimal row)

abbrev pub IsBelow : ℕ → List ℕ → Type 0
IsBelow count text = (n : ℕ) × (n < count) × (text ≡ decimal n)

abbrev pub AreBelow : ℕ → ℕ → List ℕ → Type 0
AreBelow columns rows text =
    (column : ℕ) × (row : ℕ) × (column < columns) × (row < rows) × (text ≡ decimal column ++ 47 ∷ decimal row)

and-left : (a b : Bool) → (a && b) ≡ true → a ≡ true
and-left true b h = refl
and-left false b h = cc

and-right : (a b : Bool) → (a && b) ≡ true → b ≡ true
and-right true b h = h
and-right false b h = cc

and-both : (a b : Bool) → a ≡ true → b ≡ true → (a && b) ≡ true
and-both true b h k = k
and-both false b h k = cc

module _ (text : List ℕ) (columns rows i : ℕ) (few : columns ≤ 4096)
    (before : (k : ℕ) → k < i → get_or text k 0 ≡ 47 → ⊥) where
  cut-there : i < length text → get_or text i 0 ≡ 47 → text ≡ take i text ++ 47 ∷ drop (i + 1) text
  cut-there within at =
      sym (take-append-drop i text)
      ∙ ap (λ (l : List ℕ). take i text ++ l) (drop_more text i 47 within ∙ ap (λ (x : ℕ). x ∷ drop (i + 1) text) (get_or_default_zero text i 47 within ∙ at))

  -- a text is two numbers where both pieces about its first slash are
  pub both-numbers : (a b : Bool) → i < length text → get_or text i 0 ≡ 47 → (IsTrue a ↔ IsBelow columns (take i text))
      → (IsTrue b ↔ IsBelow rows (drop (i + 1) text)) → (IsTrue (a && b) ↔ AreBelow columns rows text)
  both-numbers a b within at first second = (told, back)
    where
      told : (a && b) ≡ true → AreBelow columns rows text
      told h =
          let column = first.0 (and-left a b h) in
          let row = second.0 (and-right a b h) in (
            column.0,
            row.0,
            column.1,
            row.1,
            cut-there within at
                ∙ ap (λ (l : List ℕ). l ++ 47 ∷ drop (i + 1) text) column.2
                ∙ ap (λ (l : List ℕ). decimal column.0 ++ 47 ∷ l) row.2,
          )

      back : AreBelow columns rows text → (a && b) ≡ true
      back (column, row, c, r, is) =
          let here = first-slash text column row (omega arith) is i before at in
          and-both a b (first.1 (column, c, before-slash text column row (omega arith) is i here))
          (second.1 (row, r, behind-slash text column row (omega arith) is i here))

  -- it isn't where the piece before is no number
  pub first-fails : (a : Bool) → a ≡ false → get_or text i 0 ≡ 47 → (IsTrue a ↔ IsBelow columns (take i text))
      → (IsTrue a ↔ AreBelow columns rows text)
  first-fails a fails at first = ((λ h. cc), back)
    where
      back : AreBelow columns rows text → a ≡ true
      back (column, row, c, r, is) =
          first.1 (column, c, before-slash text column row (omega arith) is i (first-slash text column row (omega arith) is i before at))

  -- and it isn't where it has no slash
  pub no-numbers : length text ≤ i → (IsTrue false ↔ AreBelow columns rows text)
  no-numbers end = ((λ h. cc), back)
    where
      back : AreBelow columns rows text → false ≡ true
      back (column, row, c, r, is) =
          absurd (before (length (decimal column)) (omega (arith, slash-within text column row (omega arith) is))
          (slash-there text column row (omega arith) is))

-- all bytes behind a place
pub behind : (text : List ℕ) (i rows : ℕ) (b : Bool) → i < length text
    → (IsTrue b ↔ IsBelow rows (take (length text - (i + 1)) (drop (i + 1) text))) → (IsTrue b ↔ IsBelow rows (drop (i + 1) text))
behind text i rows b within is =
    let all : take (length text - (i + 1)) (drop (i + 1) text) ≡ drop (i + 1) text =
    take_all (length text - (i + 1)) (drop (i + 1) text) (omega (arith, length-drop (i + 1) text)) in
    subst (λ (l : List ℕ). IsTrue b ↔ IsBelow rows l) all is

-- the second test alone where the first passes
pub then-second : {P : Type 0} (a b : Bool) → a ≡ true → (IsTrue (a && b) ↔ P) → (IsTrue b ↔ P)
then-second true b h is = is
then-second false b h is = cc

-- ---- names of a grid

pub puts-none : (grid : Grid) (name prefix : List ℕ) → prefix ≡ grid.name → bytes_eq (take (length prefix) name) prefix ≡ false
    → false ≡ list_any (λ receiver. bytes_eq receiver.name name) (receivers_of grid)
puts-none grid name prefix same other = one-test false _ (λ h. cc) back
  where
    back : list_any (λ receiver. bytes_eq receiver.name name) (receivers_of grid) ≡ true → false ≡ true
    back h =
        let found = put-from grid name h in
        let begins : take (length prefix) name ≡ prefix =
        ap (take (length prefix)) (found.1 ∙ ap (λ (l : List ℕ). l ++ found.0) (sym same)) ∙ take-append_seam prefix found.0 in
        sym other ∙ (bytes_eq-Decides (take (length prefix) name) prefix).1 begins

pub puts-some : (grid : Grid) (name prefix rest : List ℕ) (found : Bool) → prefix ≡ grid.name
    → bytes_eq (take (length prefix) name) prefix ≡ true → rest ≡ drop (length prefix) name
    → (IsTrue found ↔ AtPlace grid.columns grid.rows rest)
    → found ≡ list_any (λ receiver. bytes_eq receiver.name name) (receivers_of grid)
puts-some grid name prefix rest found same begins behind tells = one-test found _ (λ h. put-to grid name rest whole (tells.0 h)) back
  where
    whole : name ≡ grid.name ++ rest
    whole =
        sym (take-append-drop (length prefix) name)
        ∙ ap (λ (l : List ℕ). l ++ drop (length prefix) name) ((bytes_eq-Decides (take (length prefix) name) prefix).0 begins ∙ same)
        ∙ ap (λ (l : List ℕ). grid.name ++ l) (sym behind)

    back : list_any (λ receiver. bytes_eq receiver.name name) (receivers_of grid) ≡ true → found ≡ true
    back h =
        let other = put-from grid name h in
        let one : other.0 ≡ rest = append_cancel_left grid.name other.0 rest (sym other.1 ∙ whole) in
        tells.1 (subst (AtPlace grid.columns grid.rows) one other.2)
