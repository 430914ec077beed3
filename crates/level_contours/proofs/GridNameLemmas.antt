-- The names of a grid, one after another.
use Rattle.std.proofs.Common.{◌≡◌, ℕ, zero, suc, ◌+◌, ◌-◌, ◌<◌, ◌≤◌, refl, sym, ◌∙◌, ap, Bool, true, false, cond, List, [], ◌∷◌, ◌++◌, map, arith, append_assoc, append-nil}
use Rattle.std.specs.Prelude.{Option, Some, None, find, is_some}
use Rattle.std.specs.Option.{option_or}
use Rattle.std.proofs.lemmas.List.{map-append}
use Rattle.std.proofs.lemmas.Bool.{false≢true}
use Rattle.scene_parts.specs.Parts.{Grid, Receiver}
use Rattle.scene_book.specs.Grid.{name_in, columns_from, rows_from, receivers_of}
use Rattle.command_lines.specs.Views.{Contour}
use Rattle.level_contours.specs.GridNames.{names_along, names_from, names_of, NamesAreOfGrid}

pub along-step : (name : List ℕ) (row column count : ℕ) → column < count
    → names_along name row column (count - column) ≡ name_in name row column ∷ names_along name row (column + 1) (count - (column + 1))
along-step name row column count h =
    let e : count - column ≡ suc (count - (column + 1)) = omega arith in
    let f : suc column ≡ column + 1 = omega arith in
    ap (names_along name row column) e ∙ ap (λ n. name_in name row column ∷ names_along name row n (count - (column + 1))) f

pub from-step : (spec : Contour) (row count : ℕ) → row < count
    → names_from spec row (count - row) ≡ names_along spec.name row 0 spec.columns ++ names_from spec (row + 1) (count - (row + 1))
from-step spec row count h =
    let e : count - row ≡ suc (count - (row + 1)) = omega arith in
    let f : suc row ≡ row + 1 = omega arith in
    ap (names_from spec row) e ∙ ap (λ n. names_along spec.name row 0 spec.columns ++ names_from spec n (count - (row + 1))) f

-- a search through two lists
pub find-append : (p : List ℕ → Bool) (xs ys : List (List ℕ)) → find p (xs ++ ys) ≡ option_or (find p xs) (find p ys)
find-append p [] ys = refl
find-append p (x ∷ xs) ys = by_test (p x) (find-append p xs ys) where
  by_test : (t : Bool) → find p (xs ++ ys) ≡ option_or (find p xs) (find p ys) → cond t (Some x) (find p (xs ++ ys)) ≡ option_or (cond t (Some x) (find p xs)) (find p ys)
  by_test true h = refl
  by_test false h = h

some_or : (o r : Option (List ℕ)) → is_some o ≡ true → option_or o r ≡ o
some_or (Some x) r h = refl
some_or None r h = absurd (false≢true h)

none_or : (o r : Option (List ℕ)) → is_some o ≡ false → option_or o r ≡ r
none_or None r h = refl
none_or (Some x) r h = absurd (false≢true (sym h))

-- what is found in the first list is found in both, and where nothing is, the second is looked through
pub find-here : (p : List ℕ → Bool) (xs ys : List (List ℕ)) (m : Option (List ℕ)) → m ≡ find p xs → is_some m ≡ true → find p (xs ++ ys) ≡ m
find-here p xs ys m is h = find-append p xs ys ∙ ap (λ o. option_or o (find p ys)) (sym is) ∙ some_or m (find p ys) h

pub find-later : (p : List ℕ → Bool) (xs ys : List (List ℕ)) (m : Option (List ℕ)) → m ≡ find p xs → is_some m ≡ false → find p (xs ++ ys) ≡ find p ys
find-later p xs ys m is h = find-append p xs ys ∙ ap (λ o. option_or o (find p ys)) (sym is) ∙ none_or m (find p ys) h

-- ---- cells so far

module _ {A : Type 0} (kind : List ℕ → A) where
  -- and those behind are the same after one cell, and after a row
  pub cell-added : (name : List ℕ) (row column count : ℕ) (old new start : List A) (k : A) → column < count → new ≡ old ++ k ∷ [] → k ≡ kind (name_in name row column)
      → old ++ map kind (names_along name row column (count - column)) ≡ start
      → new ++ map kind (names_along name row (column + 1) (count - (column + 1))) ≡ start
  cell-added name row column count old new start k below added is h =
      let rest = map kind (names_along name row (column + 1) (count - (column + 1))) in
      ap (λ l. l ++ rest) (added ∙ ap (λ x. old ++ x ∷ []) is) ∙ append_assoc old (kind (name_in name row column) ∷ []) rest
      ∙ ap (λ names. old ++ map kind names) (sym (along-step name row column count below)) ∙ h

  pub row-added : (spec : Contour) (row count : ℕ) (old new start : List A) → row < count → new ≡ old ++ map kind (names_along spec.name row 0 spec.columns)
      → old ++ map kind (names_from spec row (count - row)) ≡ start
      → new ++ map kind (names_from spec (row + 1) (count - (row + 1))) ≡ start
  row-added spec row count old new start below added h =
      let here = names_along spec.name row 0 spec.columns in
      let rest = names_from spec (row + 1) (count - (row + 1)) in
      ap (λ l. l ++ map kind rest) added ∙ append_assoc old (map kind here) (map kind rest)
      ∙ ap (λ l. old ++ l) (sym (map-append kind here rest)) ∙ ap (λ names. old ++ map kind names) (sym (from-step spec row count below)) ∙ h

  pub cells-end : (name : List ℕ) (row column count : ℕ) (old start : List A) → count ≤ column → old ++ map kind (names_along name row column (count - column)) ≡ start → old ≡ start
  cells-end name row column count old start past h =
      let none : count - column ≡ 0 = omega arith in
      sym (append-nil old) ∙ ap (λ n. old ++ map kind (names_along name row column n)) (sym none) ∙ h

  pub rows-end : (spec : Contour) (row count : ℕ) (old start : List A) → count ≤ row → old ++ map kind (names_from spec row (count - row)) ≡ start → old ≡ start
  rows-end spec row count old start past h =
      let none : count - row ≡ 0 = omega arith in
      sym (append-nil old) ∙ ap (λ n. old ++ map kind (names_from spec row n)) (sym none) ∙ h

-- ---- the receivers of a grid bear these names

along-grid : (grid : Grid) (row column count : ℕ) → map (λ r. r.name) (columns_from grid row column count) ≡ names_along grid.name row column count
along-grid grid row column zero = refl
along-grid grid row column (suc count) = ap (λ names. name_in grid.name row column ∷ names) (along-grid grid row (suc column) count)

from-grid : (spec : Contour) (grid : Grid) (row count : ℕ) → grid.name ≡ spec.name → grid.columns ≡ spec.columns
    → map (λ r. r.name) (rows_from grid row count) ≡ names_from spec row count
from-grid spec grid row zero name columns = refl
from-grid spec grid row (suc count) name columns =
    map-append (λ (r : Receiver). r.name) (columns_from grid row 0 grid.columns) (rows_from grid (suc row) count)
    ∙ ap (λ names. names ++ map (λ (r : Receiver). r.name) (rows_from grid (suc row) count))
    (along-grid grid row 0 grid.columns ∙ ap (λ n. names_along n row 0 grid.columns) name ∙ ap (names_along spec.name row 0) columns)
    ∙ ap (λ names. names_along spec.name row 0 spec.columns ++ names) (from-grid spec grid (suc row) count name columns)

pub names_are_of_grid : (spec : Contour) → NamesAreOfGrid spec
names_are_of_grid spec grid name columns rows = from-grid spec grid 0 grid.rows name columns ∙ ap (names_from spec 0) rows
