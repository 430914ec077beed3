-- An edit that puts one receiver and changes nothing else: no other row changes.
use Rattle.std.proofs.Common.{◌≡◌, ℕ, zero, suc, ◌+◌, ◌<◌, ◌≤◌, Bool, true, false, cond, List, [], ◌∷◌, length, Some, None, refl, sym, ap, ◌∙◌, subst, arith, ◌⊎◌, inl, inr}
use Rattle.std.specs.Prelude.{bytes_eq, slice_get, nat_lt, not, Option, IfSome, IsSomeAnd, ◌||◌}
use Rattle.std.specs.List.{position_or_len}
use Rattle.std.specs.Option.{option_map}
use Rattle.std.proofs.lemmas.Bool.{ltb-true, cases_lt}
use Rattle.std.proofs.lemmas.List.Folds.{find_at}
use Rattle.scene_parts.specs.Parts.{Receiver}
use Rattle.scene_parts.specs.declared.parts.Part.{Part}
use Rattle.scene_parts.specs.declared.parts.Part.TheVariants as parts
use Rattle.scene_book.specs.Lists.{named, place_of, put_in, AreApart}
use Rattle.scene_book.specs.declared.edits.Edit.{Edit}
use Rattle.scene_book.specs.declared.edits.Edit.TheVariants as edits
use Rattle.touch_test.specs.Touches.{names_receiver, old_part}
use Rattle.touch_test.proofs.Edits.{answers-old}
use Rattle.map_board.specs.declared.rows.HeldRow.{HeldRow}
use Rattle.map_board.specs.declared.edits.renewing.Change.{Change}
use Rattle.map_board.specs.Boards.{row_of}
use Rattle.map_board.specs.inner.Boards.{RowHolds, EachHolds, IsEmpty}
use Rattle.map_board.specs.inner.Changes.{scene_before, scene_after, is_unnamed, changes_receivers_alone, gone_from, named_place, without_place, put_place, placed, IsChange, IsFresh, IsRowAfter}
use Rattle.map_board.proofs.Naming.{named-is, same-name, turned}
use Rattle.map_board.proofs.Places.{none-here}
use Rattle.map_board.proofs.Receivers.{put-apart}
use Rattle.map_board.proofs.Staying.{receivers_after, put-one-more}
use Rattle.map_board.proofs.Carrying.{placed-there, placed-other, placed-few, placed-longer, placed-within, some-item, left, news-are, count, has-row, few-left}
use Rattle.map_board.proofs.Untouched.{stays-right}

-- ---- the place of a name

abbrev first_of : List ℕ → List Receiver → ℕ
first_of name rs = position_or_len (λ (x : Receiver). bytes_eq name x.name) rs

first-at : (name : List ℕ) (rs : List Receiver) (k : ℕ) (r : Receiver) → AreApart (λ (x : Receiver). x.name) rs → slice_get rs k ≡ Some r → bytes_eq name r.name ≡ true
    → position_or_len (λ (x : Receiver). bytes_eq name x.name) rs ≡ k
first-at name [] k r apart at same = absurd (cc at)
first-at name (x ∷ rs) zero r apart at same =
    let is : x ≡ r = cc at in
    let e : bytes_eq name x.name ≡ true = ap (λ (y : Receiver). bytes_eq name y.name) is ∙ same in
    ap (λ test. cond (not test) (1 + position_or_len (λ (y : Receiver). bytes_eq name y.name) rs) 0) e
first-at name (x ∷ rs) (suc k) r apart at same =
    let other : bytes_eq x.name name ≡ false = ap (bytes_eq x.name) (same-name name r.name same) ∙ none-here x.name rs k r apart.0 at in
    let rest = first-at name rs k r apart.1 at same in
    ap (λ test. cond (not test) (1 + position_or_len (λ (y : Receiver). bytes_eq name y.name) rs) 0) (turned x.name name other) ∙ omega (arith, rest)

record Placed (name : List ℕ) (rs : List Receiver) (p : ℕ) : Type 0 where
  first : position_or_len (λ (x : Receiver). bytes_eq name x.name) rs ≡ p
  within : p < length rs

found-place : (name : List ℕ) (rs : List Receiver) (p : ℕ) → place_of (λ (x : Receiver). x.name) name rs ≡ Some p → Placed name rs p
found-place name rs p found = go (nat_lt (first_of name rs) (length rs)) refl found where
  go : (test : Bool) → nat_lt (first_of name rs) (length rs) ≡ test → cond test (Some (first_of name rs)) None ≡ Some p → Placed name rs p
  go true e is =
      let same : first_of name rs ≡ p = cc is in
      record { first = same; within = subst (λ n. n < length rs) same (ltb-true (first_of name rs) (length rs) e) }
  go false e is = absurd (cc is)

-- what is put at the place of another makes the list no longer
put-there : (new : Receiver) (rs : List Receiver) → position_or_len (λ (x : Receiver). bytes_eq new.name x.name) (put_in (λ (x : Receiver). x.name) new rs) < length rs
    → length (put_in (λ (x : Receiver). x.name) new rs) ≤ length rs
put-there new [] below = absurd (omega (arith, below))
put-there new (x ∷ rs) below = go (bytes_eq new.name x.name) refl (put-there new rs) below where
  go : (test : Bool) → bytes_eq new.name x.name ≡ test
      → (first_of new.name (put_in (λ (y : Receiver). y.name) new rs) < length rs → length (put_in (λ (y : Receiver). y.name) new rs) ≤ length rs)
      → first_of new.name (cond test (new ∷ rs) (x ∷ put_in (λ (y : Receiver). y.name) new rs)) < suc (length rs)
      → length (cond test (new ∷ rs) (x ∷ put_in (λ (y : Receiver). y.name) new rs)) ≤ suc (length rs)
  go true e rest below = omega arith
  go false e rest below =
      let later : 1 + first_of new.name (put_in (λ (y : Receiver). y.name) new rs) < suc (length rs) =
      subst (λ test. cond (not test) (1 + first_of new.name (put_in (λ (y : Receiver). y.name) new rs)) 0 < suc (length rs)) e below in
      let few = rest (omega (arith, later)) in
      omega (arith, few)

-- ---- the edit

record Alone (edit : Edit) (old : Option Part) (news : List Receiver) (p : ℕ) : Type 0 where
  new : Receiver
  is : edit ≡ edits.Put (parts.Receiver new)
  alone : changes_receivers_alone edit old ≡ true
  at : place_of (λ (x : Receiver). x.name) new.name news ≡ Some p

put-alone : (edit : Edit) (old : Option Part) (news : List Receiver) (p : ℕ) → put_place edit old news ≡ Some p → Alone edit old news p
put-alone (edits.Put (parts.Receiver r)) None news p found = record { new = r; is = refl; alone = refl; at = found }
put-alone (edits.Put (parts.Receiver r)) (Some (parts.Receiver y)) news p found = record { new = r; is = refl; alone = refl; at = found }
put-alone edit old news p found = absurd (cc found)

-- who is named bears the new receiver's name
named-new : (new r : Receiver) (receivers : List Receiver) (found : Option Receiver) → named (λ (x : Receiver). x.name) new.name receivers ≡ found
    → names_receiver r.name (edits.Put (parts.Receiver new)) (option_map parts.Receiver found) ≡ true → bytes_eq new.name r.name ≡ true
named-new new r receivers None is names = one (bytes_eq new.name r.name) names where
  one : (b : Bool) → (b || false) ≡ true → b ≡ true
  one true h = refl
  one false h = absurd (cc h)
named-new new r receivers (Some y) is names =
    let same : new.name ≡ y.name = same-name new.name y.name (named-is (λ (x : Receiver). x.name) new.name receivers y is) in
    one (bytes_eq new.name r.name) (ap (λ n. bytes_eq new.name r.name || (bytes_eq n r.name || false)) same ∙ names) where
      one : (b : Bool) → (b || (b || false)) ≡ true → b ≡ true
      one true h = refl
      one false h = absurd (cc h)

not-false : (b : Bool) → not b ≡ false → b ≡ true
not-false true h = refl
not-false false h = absurd (cc h)

-- ---- the rows

module _ (change : Change) (is : IsChange change) (rows : List HeldRow) (apart : AreApart (λ r. r.name) (scene_before change).receivers)
    (each : EachHolds change.past.value (scene_before change).receivers rows) (p : ℕ)
    (found : put_place change.logged.edit change.logged.old (scene_after change).receivers ≡ Some p) where
  abbrev news : List Receiver
  news = (scene_after change).receivers

  abbrev olds : List Receiver
  olds = (scene_before change).receivers

  one-put : Alone change.logged.edit change.logged.old news p
  one-put = put-alone change.logged.edit change.logged.old news p found

  here : Placed one-put.new.name news p
  here = found-place one-put.new.name news p one-put.at

  news-put : news ≡ put_in (λ (x : Receiver). x.name) one-put.new olds
  news-put = news-are change is rows apart each ∙ ap (λ (e : Edit). receivers_after e change.logged.old olds) one-put.is

  news-apart : AreApart (λ (x : Receiver). x.name) news
  news-apart = subst (AreApart (λ (x : Receiver). x.name)) (sym news-put) (put-apart (λ (x : Receiver). x.name) one-put.new olds apart)

  left-all : left change is rows apart each ≡ rows
  left-all = ap (λ (e : Edit). without_place (gone_from (named_place e olds) e change.logged.old) rows) one-put.is

  pub place-below : p < length news
  place-below = here.within

  pub place-upto : p ≤ length (left change is rows apart each)
  place-upto =
      let more = put-one-more (λ (x : Receiver). x.name) one-put.new olds in
      omega (arith, here.within, ap length news-put, more, ap length left-all, count change is rows apart each)

  -- a receiver that the edit names stands at the place
  named-there : (k : ℕ) (r : Receiver) → slice_get news k ≡ Some r → is_unnamed change r ≡ false → k ≡ p
  named-there k r at named_is =
      let old : old_part change.logged.edit (scene_before change) ≡ change.logged.old =
      answers-old change.logged.edit (scene_before change) (scene_after change) change.logged.old is.accepted in
      let names : names_receiver r.name change.logged.edit (old_part change.logged.edit (scene_before change)) ≡ true =
      ap (names_receiver r.name change.logged.edit) old ∙ not-false (names_receiver r.name change.logged.edit change.logged.old) named_is in
      let as_put : names_receiver r.name (edits.Put (parts.Receiver one-put.new)) (old_part (edits.Put (parts.Receiver one-put.new)) (scene_before change)) ≡ true =
      subst (λ (e : Edit). names_receiver r.name e (old_part e (scene_before change)) ≡ true) one-put.is names in
      let same = named-new one-put.new r olds (named (λ (x : Receiver). x.name) one-put.new.name olds) refl as_put in
      sym (first-at one-put.new.name news k r news-apart at same) ∙ here.first

  -- and who stands there is named
  there-named : (r : Receiver) → slice_get news p ≡ Some r → is_unnamed change r ≡ true → ⊥
  there-named r at unnamed =
      let first : named (λ (x : Receiver). x.name) one-put.new.name news ≡ Some r =
      find_at (λ (x : Receiver). bytes_eq one-put.new.name x.name) news ∙ (ap (slice_get news) here.first ∙ at) in
      let same = named-is (λ (x : Receiver). x.name) one-put.new.name news r first in
      clash (bytes_eq one-put.new.name r.name) _ same (subst (λ (e : Edit). not (names_receiver r.name e change.logged.old) ≡ true) one-put.is unnamed) where
        clash : (a b : Bool) → a ≡ true → not (a || b) ≡ true → ⊥
        clash true b is none = absurd (cc none)
        clash false b is none = absurd (cc is)

  module _ (fresh : HeldRow) (anew : IsFresh change.version fresh) where
    abbrev pub made : List HeldRow
    made = placed p fresh (left change is rows apart each)

    pub many : length made ≡ length news
    many =
        let few = placed-few p (length news) fresh (left change is rows apart each) (few-left change is rows apart each) here.within place-upto in
        omega (arith, few, whole (cases_lt p (length olds))) where
          whole : (p < length olds) ⊎ (length olds ≤ p) → length news ≤ length made
          whole (inl below) =
              let first : position_or_len (λ (x : Receiver). bytes_eq one-put.new.name x.name) (put_in (λ (x : Receiver). x.name) one-put.new olds) ≡ p =
              ap (position_or_len (λ (x : Receiver). bytes_eq one-put.new.name x.name)) (sym news-put) ∙ here.first in
              let few = put-there one-put.new olds (omega (arith, first, below)) in
              omega (arith, few, ap length news-put, placed-longer p fresh (left change is rows apart each), ap length left-all, count change is rows apart each)
          whole (inr past) =
              let more = put-one-more (λ (x : Receiver). x.name) one-put.new olds in
              let within = placed-within p fresh (left change is rows apart each) place-upto in
              omega (arith, more, ap length news-put, within, past)

    pub are : (k : ℕ) (r : Receiver) → slice_get news k ≡ Some r → IsSomeAnd (slice_get made k) (IsRowAfter change r (slice_get (left change is rows apart each) k))
    are k r at = by_name (is_unnamed change r) refl where
      by_name : (test : Bool) → is_unnamed change r ≡ test → IsSomeAnd (slice_get made k) (IsRowAfter change r (slice_get (left change is rows apart each) k))
      by_name false named_is =
          let same = named-there k r at named_is in
          let there : slice_get made k ≡ Some fresh = ap (slice_get made) same ∙ placed-there p fresh (left change is rows apart each) place-upto in
          subst (λ o. IsSomeAnd o (IsRowAfter change r (slice_get (left change is rows apart each) k))) (sym there) (record {
            anew = λ n. anew;
            same = λ u. absurd (cc (u, named_is));
            holds = λ u. absurd (cc (u, named_is));
            empty = λ was. anew.empty;
          })
      by_name true unnamed = by_place (cases_lt k p) where
        beside : (p < k) ⊎ (k < p) → IsSomeAnd (slice_get made k) (IsRowAfter change r (slice_get (left change is rows apart each) k))
        beside apart_from =
            let row = some-item (RowHolds change.past.value r) (left change is rows apart each) k (has-row change is rows apart each k r at unnamed) in
            let there : slice_get made k ≡ Some row.item = placed-other p k fresh (left change is rows apart each) place-upto apart_from ∙ row.there in
            subst (λ o. IsSomeAnd o (IsRowAfter change r (slice_get (left change is rows apart each) k))) (sym there) (record {
              anew = λ n. absurd (cc (n, unnamed));
              same = λ u. subst (λ o. IsSomeAnd o (λ (old : HeldRow). row_of r row.item ≡ row_of r old)) (sym row.there) refl;
              holds = λ u. stays-right change is r unnamed one-put.alone row.item row.holds;
              empty = λ was. subst (λ o. IfSome o IsEmpty) row.there was;
            })

        by_place : (k < p) ⊎ (p ≤ k) → IsSomeAnd (slice_get made k) (IsRowAfter change r (slice_get (left change is rows apart each) k))
        by_place (inl before) = beside (inr before)
        by_place (inr from) = past (cases_lt p k) from where
          past : (p < k) ⊎ (k ≤ p) → p ≤ k → IsSomeAnd (slice_get made k) (IsRowAfter change r (slice_get (left change is rows apart each) k))
          past (inl behind) from = beside (inl behind)
          past (inr upto) from =
              let same : k ≡ p = omega (arith, upto, from) in
              absurd (there-named r (ap (slice_get news) (sym same) ∙ at) unnamed)
