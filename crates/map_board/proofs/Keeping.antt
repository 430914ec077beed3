-- Rows found by name, after a change of one row and after an edit.
use Rattle.std.proofs.Common.{◌≡◌, ℕ, suc, Bool, true, false, cond, List, [], ◌∷◌, length, Some, None, refl, sym, ap, ◌∙◌}
use Rattle.std.specs.Prelude.{bytes_eq, Option, is_some, Ok, unwrap_or}
use Rattle.std.specs.Option.{option_map, option_and_then}
use Rattle.scene_parts.specs.Parts.{Receiver}
use Rattle.scene_parts.specs.declared.parts.Part.{Part}
use Rattle.scene_book.specs.Book.{Book}
use Rattle.scene_book.specs.Lists.{named}
use Rattle.scene_book.specs.Applying.{apply_of}
use Rattle.scene_book.specs.declared.edits.Edit.{Edit}
use Rattle.map_board.specs.Journal.{scene_left, book_after, newest_scene, names}
use Rattle.map_board.specs.Rows.{Row, row_named, with_row, version_out}
use Rattle.map_board.specs.Machine.{new_row, row_after, rows_after}
use Rattle.map_board.proofs.Naming.{named-map, named-is, same-name, turned}
use Rattle.map_board.proofs.Unnamed.{unnamed-stays}

abbrev name_of : Row → List ℕ
name_of row = row.receiver.name

pub none-of : {A : Type 0} (o : Option A) → is_some o ≡ false → o ≡ None
none-of None h = refl
none-of (Some x) h = absurd (cc)

-- the row of a version that is out
pub record IsOut (name : List ℕ) (rows : List Row) (v : ℕ) : Type 0 where
  pub row : Row
  pub found : row_named name rows ≡ Some row
  pub out : row.out ≡ Some v

pub row-out : (name : List ℕ) (rows : List Row) (v : ℕ) → version_out name rows ≡ Some v → IsOut name rows v
row-out name rows v out = go (row_named name rows) refl out where
  go : (o : Option Row) → row_named name rows ≡ o → option_and_then (λ row. row.out) o ≡ Some v → IsOut name rows v
  go None found h = absurd (cc)
  go (Some row) found h = record { row = row; found = found; out = h }

pub out-of : (name : List ℕ) (rows : List Row) (row : Row) → row_named name rows ≡ Some row → version_out name rows ≡ row.out
out-of name rows row found = ap (option_and_then (λ (r : Row). r.out)) found

-- ---- one row changed

module _ (name : List ℕ) (change : Row → Row) (keeps : (row : Row) → (change row).receiver ≡ row.receiver) where
  same-receiver : (row : Row) → name_of (change row) ≡ name_of row
  same-receiver row = ap (λ (r : Receiver). r.name) (keeps row)

  other-step : (other : List ℕ) (row : Row) (rows : List Row) → bytes_eq name other ≡ false → (test : Bool) → bytes_eq name row.receiver.name ≡ test
      → row_named other (with_row name change rows) ≡ row_named other rows
      → row_named other (cond test (change row ∷ rows) (row ∷ with_row name change rows)) ≡ row_named other (row ∷ rows)
  other-step other row rows away true e later =
      let d : bytes_eq other row.receiver.name ≡ false = ap (bytes_eq other) (sym (same-name name row.receiver.name e)) ∙ turned name other away in
      let c : bytes_eq other (change row).receiver.name ≡ false = ap (bytes_eq other) (same-receiver row) ∙ d in
      rw c (rw d refl)
  other-step other row rows away false e later = ap (cond (bytes_eq other row.receiver.name) (Some row)) later

  -- another row stays
  pub other-row : (other : List ℕ) (rows : List Row) → bytes_eq name other ≡ false → row_named other (with_row name change rows) ≡ row_named other rows
  other-row other [] away = refl
  other-row other (row ∷ rows) away = other-step other row rows away (bytes_eq name row.receiver.name) refl (other-row other rows away)

  this-step : (row r : Row) (rows : List Row) (test : Bool) → bytes_eq name row.receiver.name ≡ test
      → (row_named name rows ≡ Some r → row_named name (with_row name change rows) ≡ Some (change r))
      → cond test (Some row) (row_named name rows) ≡ Some r
      → row_named name (cond test (change row ∷ rows) (row ∷ with_row name change rows)) ≡ Some (change r)
  this-step row r rows true e later found =
      let is : row ≡ r = cc found in
      let c : bytes_eq name (change row).receiver.name ≡ true = ap (bytes_eq name) (same-receiver row) ∙ e in
      rw c (ap (λ x. Some (change x)) is)
  this-step row r rows false e later found = rw e (later found)

  -- the row of the name is changed
  pub this-row : (rows : List Row) (row : Row) → row_named name rows ≡ Some row → row_named name (with_row name change rows) ≡ Some (change row)
  this-row [] r found = absurd (cc found)
  this-row (row ∷ rows) r found = this-step row r rows (bytes_eq name row.receiver.name) refl (this-row rows r) found

  some-same : (a b : Row) (rest : Option Row) (test : Bool) → is_some (cond test (Some a) rest) ≡ is_some (cond test (Some b) rest)
  some-same a b rest true = refl
  some-same a b rest false = refl

  some-step : (row : Row) (more rest : Option Row) (test : Bool) → is_some more ≡ is_some rest → is_some (cond test (Some row) more) ≡ is_some (cond test (Some row) rest)
  some-step row more rest true later = refl
  some-step row more rest false later = later

  same-step : (other : List ℕ) (row : Row) (rows : List Row) (test : Bool) → is_some (row_named other (with_row name change rows)) ≡ is_some (row_named other rows)
      → is_some (row_named other (cond test (change row ∷ rows) (row ∷ with_row name change rows))) ≡ is_some (row_named other (row ∷ rows))
  same-step other row rows true later =
      ap (λ n. is_some (cond (bytes_eq other n) (Some (change row)) (row_named other rows))) (same-receiver row)
      ∙ some-same (change row) row (row_named other rows) (bytes_eq other row.receiver.name)
  same-step other row rows false later =
      some-step row (row_named other (with_row name change rows)) (row_named other rows) (bytes_eq other row.receiver.name) later

  -- the same rows are there
  pub same-rows : (other : List ℕ) (rows : List Row) → is_some (row_named other (with_row name change rows)) ≡ is_some (row_named other rows)
  same-rows other [] = refl
  same-rows other (row ∷ rows) = same-step other row rows (bytes_eq name row.receiver.name) (same-rows other rows)

  pub other-out : (other : List ℕ) (rows : List Row) → bytes_eq name other ≡ false → version_out other (with_row name change rows) ≡ version_out other rows
  other-out other rows away = ap (option_and_then (λ (r : Row). r.out)) (other-row other rows away)

-- ---- an edit

module _ (edit : Edit) (journal : List Edit) (rows : List Row) where
  abbrev now : Book
  now = newest_scene journal

  abbrev after : Receiver → Row
  after = row_after edit journal rows

  same-after : (r : Receiver) → name_of (after r) ≡ r.name
  same-after r = go (names r.name edit now) where
    old : (o : Option Row) → row_named r.name rows ≡ o → (unwrap_or o (new_row (suc (length journal)) r)).receiver.name ≡ r.name
    old None found = refl
    old (Some row) found = sym (same-name r.name row.receiver.name (named-is name_of r.name rows row found))

    go : (test : Bool) → (cond test (new_row (suc (length journal)) r) (unwrap_or (row_named r.name rows) (new_row (suc (length journal)) r))).receiver.name ≡ r.name
    go true = refl
    go false = old (row_named r.name rows) refl

  found-edited : (name : List ℕ) → row_named name (rows_after edit journal rows) ≡ option_map after (named (λ r. r.name) name (book_after edit now).receivers)
  found-edited name = named-map (λ (r : Receiver). r.name) name_of after same-after name (book_after edit now).receivers

  pub edited-some : (name : List ℕ) → is_some (row_named name (rows_after edit journal rows)) ≡ is_some (named (λ (r : Receiver). r.name) name (book_after edit now).receivers)
  edited-some name = ap (λ o. is_some o) (found-edited name) ∙ go (named (λ (r : Receiver). r.name) name (book_after edit now).receivers) where
    go : (o : Option Receiver) → is_some (option_map after o) ≡ is_some o
    go None = refl
    go (Some r) = refl

  -- a row that the edit names has no job out
  pub edited-named : (name : List ℕ) → names name edit now ≡ true → version_out name (rows_after edit journal rows) ≡ None
  edited-named name e =
      ap (option_and_then (λ (row : Row). row.out)) (found-edited name)
      ∙ go (named (λ (r : Receiver). r.name) name (book_after edit now).receivers) refl where
        go : (o : Option Receiver) → named (λ (r : Receiver). r.name) name (book_after edit now).receivers ≡ o
            → option_and_then (λ (row : Row). row.out) (option_map after o) ≡ None
        go None found = refl
        go (Some r) found =
            let n : name ≡ r.name = same-name name r.name (named-is (λ (r : Receiver). r.name) name (book_after edit now).receivers r found) in
            let t : names r.name edit now ≡ true = ap (λ n. names n edit now) (sym n) ∙ e in
            rw t

  -- one that it doesn't name is as it was
  pub edited-unnamed : (name : List ℕ) (b : Book) (old : Option Part) → apply_of edit now ≡ Ok (b, old) → names name edit now ≡ false
      → is_some (row_named name rows) ≡ is_some (named (λ (r : Receiver). r.name) name now.receivers)
      → row_named name (rows_after edit journal rows) ≡ row_named name rows
  edited-unnamed name b old accepted e filed =
      found-edited name ∙ go (named (λ (r : Receiver). r.name) name (book_after edit now).receivers) refl where
        is : book_after edit now ≡ b
        is = ap (scene_left now) accepted

        stays : named (λ (r : Receiver). r.name) name (book_after edit now).receivers ≡ named (λ (r : Receiver). r.name) name now.receivers
        stays = ap (λ (book : Book). named (λ (r : Receiver). r.name) name book.receivers) is ∙ unnamed-stays name edit now b old accepted e

        row : (r : Receiver) (o : Option Row) → row_named r.name rows ≡ o → is_some o ≡ true → names r.name edit now ≡ false → Some (after r) ≡ o
        row r None found some t = absurd (cc)
        row r (Some x) found some t = rw t (rw found)

        go : (o : Option Receiver) → named (λ (r : Receiver). r.name) name (book_after edit now).receivers ≡ o → option_map after o ≡ row_named name rows
        go None found = sym (none-of (row_named name rows) (filed ∙ (ap (λ o. is_some o) (sym stays ∙ found))))
        go (Some r) found =
            let n : name ≡ r.name = same-name name r.name (named-is (λ (r : Receiver). r.name) name (book_after edit now).receivers r found) in
            let there : is_some (row_named name rows) ≡ true = filed ∙ (ap (λ o. is_some o) (sym stays ∙ found)) in
            let t : names r.name edit now ≡ false = ap (λ n. names n edit now) (sym n) ∙ e in
            let s : is_some (row_named r.name rows) ≡ true = ap (λ n. is_some (row_named n rows)) (sym n) ∙ there in
            row r (row_named r.name rows) refl s t ∙ ap (λ n. row_named n rows) (sym n)
