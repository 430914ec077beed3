-- Receivers at their places after an edit.
use Rattle.std.proofs.Common.{◌≡◌, ℕ, zero, suc, ◌+◌, ◌*◌, ◌<◌, ◌≤◌, Bool, true, false, cond, List, [], ◌∷◌, length, Some, None, refl, sym, ap, ◌∙◌, arith, length-append}
use Rattle.std.specs.Prelude.{bytes_eq, not, nat_lt, slice_get, Option, Ok, IfSome, ◌||◌}
use Rattle.std.specs.List.{list_any, position_or_len, remove}
use Rattle.std.proofs.lemmas.Bool.{ltb-false, ltb-true}
use Rattle.std.proofs.Math.Nat.{mul-suc, mul-zero}
use Rattle.scene_parts.specs.Parts.{Receiver, Grid, globals_with}
use Rattle.scene_parts.specs.declared.parts.Part.{Part}
use Rattle.scene_parts.specs.declared.parts.Part.TheVariants as parts
use Rattle.scene_book.specs.Book.{Book, at_most, most_receivers}
use Rattle.scene_book.specs.Grid.{receivers_of, columns_from, rows_from}
use Rattle.scene_book.specs.Lists.{place_of, put_in, take_out, put_all}
use Rattle.scene_book.specs.Applying.{apply_of, grid_of, with_part, without, all_own, with_receivers}
use Rattle.scene_book.specs.declared.edits.Edit.{Edit}
use Rattle.scene_book.specs.declared.edits.Edit.TheVariants as edits
use Rattle.touch_test.specs.Touches.{names_receiver}
use Rattle.map_board.specs.declared.rows.HeldRow.{HeldRow}
use Rattle.map_board.specs.inner.Changes.{named_place, gone_from, without_place, most_more}
use Rattle.map_board.proofs.Naming.{itself}
use Rattle.map_board.proofs.Receivers.{through, first, with-put, without-removed}

-- ---- a place skipped

abbrev skip : ℕ → ℕ → ℕ
skip zero k = suc k
skip (suc p) zero = zero
skip (suc p) (suc k) = suc (skip p k)

get-remove : {A : Type 0} (xs : List A) (p k : ℕ) → p < length xs → slice_get (remove xs p) k ≡ slice_get xs (skip p k)
get-remove [] p k below = absurd (omega arith)
get-remove (x ∷ xs) zero k below = refl
get-remove (x ∷ xs) (suc p) zero below = refl
get-remove (x ∷ xs) (suc p) (suc k) below = get-remove xs p k (omega arith)

fewer : {A : Type 0} (xs : List A) (p : ℕ) → p < length xs → suc (length (remove xs p)) ≡ length xs
fewer [] p below = absurd (omega arith)
fewer (x ∷ xs) zero below = refl
fewer (x ∷ xs) (suc p) below = ap suc (fewer xs p (omega arith))

-- ---- lists of named things

module _ {A : Type 0} (name_of : A → List ℕ) where
  put-stays : (new : A) (xs : List A) (k : ℕ) (x : A) → bytes_eq (name_of new) (name_of x) ≡ false → slice_get (put_in name_of new xs) k ≡ Some x → slice_get xs k ≡ Some x
  put-stays new [] zero x other there = absurd (let same : new ≡ x = cc there in cc (other, ap (λ y. bytes_eq (name_of new) (name_of y)) (sym same), itself (name_of new)))
  put-stays new [] (suc k) x other there = absurd (cc there)
  put-stays new (y ∷ xs) k x other there = go (bytes_eq (name_of new) (name_of y)) k there (λ j at. put-stays new xs j x other at) where
    go : (test : Bool) (k : ℕ) → slice_get (cond test (new ∷ xs) (y ∷ put_in name_of new xs)) k ≡ Some x
        → ((j : ℕ) → slice_get (put_in name_of new xs) j ≡ Some x → slice_get xs j ≡ Some x) → slice_get (y ∷ xs) k ≡ Some x
    go true zero there later = absurd (let same : new ≡ x = cc there in cc (other, ap (λ z. bytes_eq (name_of new) (name_of z)) (sym same), itself (name_of new)))
    go true (suc k) there later = there
    go false zero there later = there
    go false (suc k) there later = later k there

  all-stays : (news xs : List A) (k : ℕ) (x : A) → list_any (λ new. bytes_eq (name_of new) (name_of x)) news ≡ false
      → slice_get (put_all name_of news xs) k ≡ Some x → slice_get xs k ≡ Some x
  all-stays [] xs k x none there = there
  all-stays (new ∷ news) xs k x none there =
      put-stays new xs k x (one (bytes_eq (name_of new) (name_of x)) (list_any (λ y. bytes_eq (name_of y) (name_of x)) news) none)
      (all-stays news (put_in name_of new xs) k x (rest (bytes_eq (name_of new) (name_of x)) (list_any (λ y. bytes_eq (name_of y) (name_of x)) news) none) there) where
        one : (a b : Bool) → (a || b) ≡ false → a ≡ false
        one true b h = absurd (cc h)
        one false b h = refl

        rest : (a b : Bool) → (a || b) ≡ false → b ≡ false
        rest true b h = absurd (cc h)
        rest false b h = h

  put-longer : (new : A) (xs : List A) → length xs ≤ length (put_in name_of new xs)
  put-longer new [] = omega arith
  put-longer new (x ∷ xs) = go (bytes_eq (name_of new) (name_of x)) (put-longer new xs) where
    go : (test : Bool) → length xs ≤ length (put_in name_of new xs) → length (x ∷ xs) ≤ length (cond test (new ∷ xs) (x ∷ put_in name_of new xs))
    go true rest = omega arith
    go false rest = omega (arith, rest)

  pub put-one-more : (new : A) (xs : List A) → length (put_in name_of new xs) ≤ suc (length xs)
  put-one-more new [] = omega arith
  put-one-more new (x ∷ xs) = go (bytes_eq (name_of new) (name_of x)) (put-one-more new xs) where
    go : (test : Bool) → length (put_in name_of new xs) ≤ suc (length xs) → length (cond test (new ∷ xs) (x ∷ put_in name_of new xs)) ≤ suc (length (x ∷ xs))
    go true rest = omega arith
    go false rest = omega (arith, rest)

  all-longer : (news xs : List A) → length xs ≤ length (put_all name_of news xs)
  all-longer [] xs = omega arith
  all-longer (new ∷ news) xs =
      let one = put-longer new xs in
      let rest = all-longer news (put_in name_of new xs) in
      omega (arith, one, rest)

  all-few : (news xs : List A) → length (put_all name_of news xs) ≤ length xs + length news
  all-few [] xs = omega arith
  all-few (new ∷ news) xs =
      let one = put-one-more new xs in
      let rest = all-few news (put_in name_of new xs) in
      omega (arith, one, rest)

  -- what is taken out stands at the place of its name
  abbrev at_name : List ℕ → A → Bool
  at_name name x = bytes_eq name (name_of x)

  more : (n : ℕ) → 1 + n ≡ suc n
  more n = omega arith

  taken-at : (name : List ℕ) (xs : List A) → position_or_len (at_name name) xs < length xs → take_out name_of name xs ≡ remove xs (position_or_len (at_name name) xs)
  taken-at name [] below = absurd (omega arith)
  taken-at name (x ∷ xs) below = go (bytes_eq name (name_of x)) below (taken-at name xs) where
    go : (test : Bool) → cond (not test) (1 + position_or_len (at_name name) xs) 0 < suc (length xs)
        → (position_or_len (at_name name) xs < length xs → take_out name_of name xs ≡ remove xs (position_or_len (at_name name) xs))
        → cond test xs (x ∷ take_out name_of name xs) ≡ remove (x ∷ xs) (cond (not test) (1 + position_or_len (at_name name) xs) 0)
    go true below rest = refl
    go false below rest =
        ap (λ ys. x ∷ ys) (rest (omega arith)) ∙ ap (remove (x ∷ xs)) (sym (more (position_or_len (at_name name) xs)))

  taken-nowhere : (name : List ℕ) (xs : List A) → length xs ≤ position_or_len (at_name name) xs → take_out name_of name xs ≡ xs
  taken-nowhere name [] past = refl
  taken-nowhere name (x ∷ xs) past = go (bytes_eq name (name_of x)) past (taken-nowhere name xs) where
    go : (test : Bool) → suc (length xs) ≤ cond (not test) (1 + position_or_len (at_name name) xs) 0
        → (length xs ≤ position_or_len (at_name name) xs → take_out name_of name xs ≡ xs) → cond test xs (x ∷ take_out name_of name xs) ≡ x ∷ xs
    go true past rest = absurd (omega arith)
    go false past rest = ap (λ ys. x ∷ ys) (rest (omega arith))

  record Taken (name : List ℕ) (xs : List A) (place : Option ℕ) : Type 0 where
    within : IfSome place (λ p. p < length xs)
    is : take_out name_of name xs ≡ without_place place xs

  taken-place : (name : List ℕ) (xs : List A) → Taken name xs (place_of name_of name xs)
  taken-place name xs = go (nat_lt (position_or_len (at_name name) xs) (length xs)) refl where
    go : (test : Bool) → nat_lt (position_or_len (at_name name) xs) (length xs) ≡ test → Taken name xs (cond test (Some (position_or_len (at_name name) xs)) None)
    go true e =
        let below = ltb-true (position_or_len (at_name name) xs) (length xs) e in record { within = below; is = taken-at name xs below }
    go false e = record { within = tt; is = taken-nowhere name xs (ltb-false (position_or_len (at_name name) xs) (length xs) e) }

-- ---- the receivers of a scene after an edit

abbrev pub receivers_after : Edit → Option Part → List Receiver → List Receiver
receivers_after (edits.Put (parts.Receiver r)) old rs = put_in (λ r. r.name) r rs
receivers_after (edits.Remove name) (Some (parts.Receiver r)) rs = take_out (λ r. r.name) name rs
receivers_after (edits.Grid grid) old rs = put_all (λ r. r.name) (receivers_of grid) rs
receivers_after edit old rs = rs

put-receivers : (part : Part) (old : Option Part) (a : Book) → (with_part part a).receivers ≡ receivers_after (edits.Put part) old a.receivers
put-receivers (parts.Receiver r) old a = refl
put-receivers part old a = refl

left-receivers : (name : List ℕ) (part : Part) (a : Book) → (without name part a).receivers ≡ receivers_after (edits.Remove name) (Some part) a.receivers
left-receivers name (parts.Receiver r) a = refl
left-receivers name part a = refl

pub accepted-receivers : (edit : Edit) (a b : Book) (old : Option Part) → apply_of edit a ≡ Ok (b, old) → b.receivers ≡ receivers_after edit old a.receivers
unfolding apply_of grid_of
accepted-receivers (edits.Put part) a b old e =
    let put = with-put part a b old e in ap (λ (book : Book). book.receivers) (sym put.1) ∙ put-receivers part old a
accepted-receivers (edits.Remove name) a b old e =
    let removed = without-removed name a b old e in
    ap (λ (book : Book). book.receivers) (sym removed.2)
    ∙ (left-receivers name removed.0 a ∙ ap (λ o. receivers_after (edits.Remove name) o a.receivers) (sym removed.1))
accepted-receivers (edits.Grid grid) a b old e =
    let news = put_all (λ (x : Receiver). x.name) (receivers_of grid) a.receivers in
    let s = through (at_most _ most_receivers _) _ (b, old) e in
    let t = through (all_own a (receivers_of grid)) _ (b, old) s.1 in
    let u = through (at_most _ most_receivers (length news)) (Ok (with_receivers a news, None)) (b, old) t.1 in
    ap (λ (book : Book). book.receivers) (sym (first (with_receivers a news, None) (b, old) _ refl u.1))
accepted-receivers (edits.Set setting) a b old e =
    ap (λ (book : Book). book.receivers) (sym (first (record a { globals = globals_with setting a.globals }, None) (b, old) _ refl e))

-- ---- a receiver that the edit doesn't name stands where it stood, or one place before where one was removed

pub record Stays (gone : Option ℕ) (olds : List Receiver) (k : ℕ) (r : Receiver) : Type 0 where
  pub place : ℕ
  pub at : slice_get olds place ≡ Some r
  pub there : (hs : List HeldRow) → length hs ≡ length olds → slice_get (without_place gone hs) k ≡ slice_get hs place

one-fails : (a b : Bool) → not (a || b) ≡ true → a ≡ false
one-fails true b h = absurd (cc h)
one-fails false b h = refl

unmoved : (olds : List Receiver) (k : ℕ) (r : Receiver) → slice_get olds k ≡ Some r → Stays None olds k r
unmoved olds k r at = record { place = k; at = at; there = λ hs count. refl }

moved : (gone : Option ℕ) (olds : List Receiver) (k : ℕ) (r : Receiver) → IfSome gone (λ p. p < length olds) → slice_get (without_place gone olds) k ≡ Some r → Stays gone olds k r
moved None olds k r within at = unmoved olds k r at
moved (Some p) olds k r within at = record {
  place = skip p k;
  at = sym (get-remove olds p k within) ∙ at;
  there = λ hs count. get-remove hs p k (omega (arith, count, within));
}

pub stays : (edit : Edit) (old : Option Part) (olds : List Receiver) (k : ℕ) (r : Receiver) → slice_get (receivers_after edit old olds) k ≡ Some r
    → not (names_receiver r.name edit old) ≡ true → Stays (gone_from (named_place edit olds) edit old) olds k r
stays (edits.Put (parts.Receiver new)) old olds k r at unnamed =
    unmoved olds k r (put-stays (λ (x : Receiver). x.name) new olds k r (one-fails (bytes_eq new.name r.name) _ unnamed) at)
stays (edits.Remove name) (Some (parts.Receiver x)) olds k r at unnamed =
    let out = taken-place (λ (y : Receiver). y.name) name olds in
    moved (place_of (λ (y : Receiver). y.name) name olds) olds k r out.within (ap (λ (rs : List Receiver). slice_get rs k) (sym out.is) ∙ at)
stays (edits.Grid grid) old olds k r at unnamed =
    unmoved olds k r (all-stays (λ (x : Receiver). x.name) (receivers_of grid) olds k r (one-fails _ _ unnamed) at)
stays edit old olds k r at unnamed = unmoved olds k r at

-- ---- how many there are

pub gone-within : (edit : Edit) (old : Option Part) (olds : List Receiver) → IfSome (gone_from (named_place edit olds) edit old) (λ p. p < length olds)
gone-within (edits.Remove name) (Some (parts.Receiver x)) olds = (taken-place (λ (y : Receiver). y.name) name olds).within
gone-within edit old olds = tt

without-length : {A B : Type 0} (place : Option ℕ) (xs : List A) (ys : List B) → length xs ≡ length ys → IfSome place (λ p. p < length xs)
    → length (without_place place xs) ≡ length (without_place place ys)
without-length None xs ys count within = count
without-length (Some p) xs ys count within = omega (arith, count, fewer xs p within, fewer ys p (omega (arith, count, within)))

-- what is left has places among the new ones
pub left-few : (edit : Edit) (old : Option Part) (olds : List Receiver) → length (without_place (gone_from (named_place edit olds) edit old) olds) ≤ length (receivers_after edit old olds)
left-few (edits.Put (parts.Receiver new)) old olds = put-longer (λ (x : Receiver). x.name) new olds
left-few (edits.Remove name) (Some (parts.Receiver x)) olds =
    let out = taken-place (λ (y : Receiver). y.name) name olds in omega (arith, ap length out.is)
left-few (edits.Grid grid) old olds = all-longer (λ (x : Receiver). x.name) (receivers_of grid) olds
left-few edit old olds = omega arith

pub rows-left : (edit : Edit) (old : Option Part) (olds : List Receiver) (hs : List HeldRow) → length hs ≡ length olds
    → length (without_place (gone_from (named_place edit olds) edit old) hs) ≤ length (receivers_after edit old olds)
rows-left edit old olds hs count =
    let within = gone-within edit old olds in
    let same = without-length (gone_from (named_place edit olds) edit old) olds hs (sym count) within in
    omega (arith, same, left-few edit old olds)

columns-count : (grid : Grid) (row column count : ℕ) → length (columns_from grid row column count) ≡ count
columns-count grid row column zero = refl
columns-count grid row column (suc count) = ap suc (columns-count grid row (suc column) count)

rows-count : (grid : Grid) (row count : ℕ) → length (rows_from grid row count) ≡ grid.columns * count
rows-count grid row zero = sym (mul-zero grid.columns)
rows-count grid row (suc count) =
    let one = columns-count grid row 0 grid.columns in
    let rest = rows-count grid (suc row) count in
    omega (arith, length-append (columns_from grid row 0 grid.columns) (rows_from grid (suc row) count), one, rest, mul-suc grid.columns count)

-- a grid has as many receivers as columns times rows
grid-count : (grid : Grid) → length (receivers_of grid) ≡ grid.columns * grid.rows
grid-count grid = rows-count grid 0 grid.rows

-- an edit adds few
pub added-few : (edit : Edit) (old : Option Part) (olds : List Receiver) → length (receivers_after edit old olds) ≤ most_receivers → length olds ≤ most_receivers
    → length (receivers_after edit old olds) ≤ length olds + most_more edit (length olds)
added-few (edits.Put (parts.Receiver new)) old olds few before = let one = put-one-more (λ (x : Receiver). x.name) new olds in omega (arith, one)
added-few (edits.Remove name) (Some (parts.Receiver x)) olds few before =
    let out = taken-place (λ (y : Receiver). y.name) name olds in
    fewer-left (place_of (λ (y : Receiver). y.name) name olds) out.within (ap length out.is) where
      fewer-left : (place : Option ℕ) → IfSome place (λ p. p < length olds) → length (take_out (λ (y : Receiver). y.name) name olds) ≡ length (without_place place olds)
          → length (take_out (λ (y : Receiver). y.name) name olds) ≤ length olds + 0
      fewer-left None within is = omega (arith, is)
      fewer-left (Some p) within is = omega (arith, is, fewer olds p within)
added-few (edits.Grid grid) old olds few before =
    let added = all-few (λ (x : Receiver). x.name) (receivers_of grid) olds in
    omega (arith, few, before, added, grid-count grid)
added-few edit old olds few before = omega arith
