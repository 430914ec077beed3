-- Rows at their places beside receivers.
use Rattle.std.proofs.Common.{◌≡◌, ℕ, zero, suc, ◌+◌, ◌<◌, Bool, true, false, cond, List, [], ◌∷◌, length, map, get_or, set, Some, None, refl, sym, ap, ◌∙◌, subst, arith}
use Rattle.std.specs.Prelude.{bytes_eq, Option, slice_get, not, ◌&&◌, ◌||◌, count_by}
use Rattle.std.specs.List.{list_any}
use Rattle.std.specs.Option.{option_map}
use Rattle.std.proofs.lemmas.List.Elements.{All-set}
use Rattle.std.proofs.lemmas.List.Sums.{sum_by-cons}
use Rattle.std.proofs.lemmas.Option.{slice_get-map, get_or_from_slice_get}
use Rattle.scene_parts.specs.Parts.{Receiver}
use Rattle.scene_book.specs.Book.{Book}
use Rattle.scene_book.specs.Lists.{NoneNamed, AreApart}
use Rattle.scene_book.specs.declared.edits.Edit.{Edit}
use Rattle.map_board.specs.declared.edits.log.Log.{Log}
use Rattle.map_board.specs.declared.edits.namings.Naming.{Naming}
use Rattle.map_board.specs.declared.rows.HeldRow.{HeldRow}
use Rattle.map_board.specs.declared.rows.KeptLevels.{KeptLevels}
use Rattle.map_board.specs.Rows.{Row, row_named, with_row, shown_kept, shown_of, shown_since, is_current, is_out, is_needy}
use Rattle.map_board.specs.Boards.{kept_of, row_of, rows_of, is_unsettled}
use Rattle.map_board.specs.inner.Boards.{shown_by, held_shown, is_held_needy, is_held_out, is_held_unsettled, ByIsRight, RowHolds, EachHolds, IsOutSince, IsBoard}
use Rattle.map_board.proofs.Naming.{turned, itself}

-- ---- what stands at a place

pub record At (journal : List Edit) (rs : List Receiver) (hs : List HeldRow) (i : ℕ) : Type 0 where
  pub r : Receiver
  pub held : HeldRow
  pub receiver : slice_get rs i ≡ Some r
  pub there : slice_get hs i ≡ Some held
  pub row : slice_get (rows_of rs hs) i ≡ Some (row_of r held)
  pub holds : RowHolds journal r held

-- a row at a place is that of the receiver and the held row there
pub at-place : (journal : List Edit) (rs : List Receiver) (hs : List HeldRow) (i : ℕ) (row : Row) → EachHolds journal rs hs
    → slice_get (rows_of rs hs) i ≡ Some row → At journal rs hs i
at-place journal [] hs i row each found = absurd (cc found)
at-place journal (r ∷ rs) [] i row each found = absurd (cc found)
at-place journal (r ∷ rs) (h ∷ hs) zero row each found =
    record { r = r; held = h; receiver = refl; there = refl; row = refl; holds = each.0 }
at-place journal (r ∷ rs) (h ∷ hs) (suc i) row each found =
    let k = at-place journal rs hs i row each.1 found in
    record { r = k.r; held = k.held; receiver = k.receiver; there = k.there; row = k.row; holds = k.holds }

pub each-lengths : (journal : List Edit) (rs : List Receiver) (hs : List HeldRow) → EachHolds journal rs hs → length hs ≡ length rs
each-lengths journal [] [] each = refl
each-lengths journal [] (h ∷ hs) each = absurd each
each-lengths journal (r ∷ rs) [] each = absurd each
each-lengths journal (r ∷ rs) (h ∷ hs) each = let e = each-lengths journal rs hs each.1 in omega (arith, e)

pub rows-lengths : (journal : List Edit) (rs : List Receiver) (hs : List HeldRow) → EachHolds journal rs hs → length (rows_of rs hs) ≡ length rs
rows-lengths journal [] hs each = refl
rows-lengths journal (r ∷ rs) [] each = absurd each
rows-lengths journal (r ∷ rs) (h ∷ hs) each = let e = rows-lengths journal rs hs each.1 in omega (arith, e)

-- a row changed at a place
pub each-set : (journal : List Edit) (rs : List Receiver) (hs : List HeldRow) (i : ℕ) (r : Receiver) (new : HeldRow) → EachHolds journal rs hs
    → slice_get rs i ≡ Some r → RowHolds journal r new → EachHolds journal rs (set hs i new)
each-set journal [] hs i r new each found holds = absurd (cc found)
each-set journal (x ∷ rs) [] i r new each found holds = absurd each
each-set journal (x ∷ rs) (h ∷ hs) zero r new each found holds =
    let is : x ≡ r = cc found in (subst (λ (y : Receiver). RowHolds journal y new) (sym is) holds, each.1)
each-set journal (x ∷ rs) (h ∷ hs) (suc i) r new each found holds = (each.0, each-set journal rs hs i r new each.1 found holds)

pub board-set : (version : ℕ) (journal : List Edit) (scene : Book) (hs : List HeldRow) (log : Log) (namings : List Naming) (i : ℕ) (r : Receiver) (new : HeldRow)
    → IsBoard version journal scene hs log namings → slice_get scene.receivers i ≡ Some r → RowHolds journal r new → IsOutSince log.start new
    → IsBoard version journal scene (set hs i new) log namings
board-set version journal scene hs log namings i r new board receiver holds since = record {
  newest = board.newest;
  shows = board.shows;
  few = board.few;
  apart = board.apart;
  each = each-set journal scene.receivers hs i r new board.each receiver holds;
  accepted = board.accepted;
  logged = board.logged;
  reaches = All-set (IsOutSince log.start) hs i new since board.reaches;
  named = board.named;
}

pub none-here : (name : List ℕ) (rs : List Receiver) (i : ℕ) (r : Receiver) → NoneNamed (λ r. r.name) name rs → slice_get rs i ≡ Some r → bytes_eq name r.name ≡ false
none-here name [] i r none found = absurd (cc found)
none-here name (x ∷ rs) zero r none found = let is : x ≡ r = cc found in ap (λ (y : Receiver). bytes_eq name y.name) (sym is) ∙ none.0
none-here name (x ∷ rs) (suc i) r none found = none-here name rs i r none.1 found

-- it is the row of its receiver's name
pub row-at : (rs : List Receiver) (hs : List HeldRow) (i : ℕ) (r : Receiver) (held : HeldRow) → AreApart (λ r. r.name) rs
    → slice_get rs i ≡ Some r → slice_get hs i ≡ Some held → row_named r.name (rows_of rs hs) ≡ Some (row_of r held)
row-at [] hs i r held apart receiver there = absurd (cc receiver)
row-at (x ∷ rs) [] i r held apart receiver there = absurd (cc there)
row-at (x ∷ rs) (h ∷ hs) zero r held apart receiver there =
    let is : x ≡ r = cc receiver in
    let was : h ≡ held = cc there in
    let e : bytes_eq r.name x.name ≡ true = ap (λ (y : Receiver). bytes_eq r.name y.name) is ∙ itself r.name in
    rw e (λ i. Some (row_of (is i) (was i)))
row-at (x ∷ rs) (h ∷ hs) (suc i) r held apart receiver there =
    let e : bytes_eq r.name x.name ≡ false = turned x.name r.name (none-here x.name rs i r apart.0 receiver) in
    rw e (row-at rs hs i r held apart.1 receiver there)

-- a change at a place is the change of the row of that name
pub rows-set : (rs : List Receiver) (hs : List HeldRow) (i : ℕ) (r : Receiver) (held new : HeldRow) (change : Row → Row) → AreApart (λ r. r.name) rs
    → slice_get rs i ≡ Some r → slice_get hs i ≡ Some held → row_of r new ≡ change (row_of r held)
    → rows_of rs (set hs i new) ≡ with_row r.name change (rows_of rs hs)
rows-set [] hs i r held new change apart receiver there is = absurd (cc receiver)
rows-set (x ∷ rs) [] i r held new change apart receiver there is = absurd (cc there)
rows-set (x ∷ rs) (h ∷ hs) zero r held new change apart receiver there is =
    let same : x ≡ r = cc receiver in
    let was : h ≡ held = cc there in
    let e : bytes_eq r.name x.name ≡ true = ap (λ (y : Receiver). bytes_eq r.name y.name) same ∙ itself r.name in
    let changed : row_of x new ≡ change (row_of x h) =
    ap (λ (y : Receiver). row_of y new) same ∙ (is ∙ (λ i. change (row_of (sym same i) (sym was i)))) in
    rw e (λ i. changed i ∷ rows_of rs hs)
rows-set (x ∷ rs) (h ∷ hs) (suc i) r held new change apart receiver there is =
    let e : bytes_eq r.name x.name ≡ false = turned x.name r.name (none-here x.name rs i r apart.0 receiver) in
    let rest = rows-set rs hs i r held new change apart.1 receiver there is in
    rw e (λ i. row_of x h ∷ rest i)

-- ---- what held rows answer

shown-kept : (journal : List Edit) (r : Receiver) (since : ℕ) (kept : Option KeptLevels) (out : Option ℕ) → ByIsRight journal r kept
    → shown_kept journal (record { receiver = r; since = since; kept = option_map kept_of kept; out = out }) (option_map kept_of kept) ≡ shown_by since kept
shown-kept journal r since None out by = refl
shown-kept journal r since (Some kept) out by = ap (shown_since (kept_of kept)) (sym by)

pub held-shown : (journal : List Edit) (r : Receiver) (held : HeldRow) → RowHolds journal r held → shown_of journal (row_of r held) ≡ held_shown held
held-shown journal r held holds = shown-kept journal r held.since held.kept held.out holds.by

pub held-needy : (journal : List Edit) (r : Receiver) (held : HeldRow) → RowHolds journal r held → is_needy journal (row_of r held) ≡ is_held_needy held
held-needy journal r held holds =
    ap (λ shown. not (is_current shown) && not (is_held_out held)) (held-shown journal r held holds)

pub any-held : (journal : List Edit) (rs : List Receiver) (hs : List HeldRow) (p : Row → Bool) (q : HeldRow → Bool)
    → ((r : Receiver) (h : HeldRow) → RowHolds journal r h → p (row_of r h) ≡ q h) → EachHolds journal rs hs
    → list_any p (rows_of rs hs) ≡ list_any q hs
any-held journal [] [] p q same each = refl
any-held journal [] (h ∷ hs) p q same each = absurd each
any-held journal (r ∷ rs) [] p q same each = absurd each
any-held journal (r ∷ rs) (h ∷ hs) p q same each =
    let one = same r h each.0 in
    let rest = any-held journal rs hs p q same each.1 in
    λ i. one i || rest i

pub any-needy : (journal : List Edit) (rs : List Receiver) (hs : List HeldRow) → EachHolds journal rs hs
    → list_any (is_needy journal) (rows_of rs hs) ≡ list_any is_held_needy hs
any-needy journal rs hs each = any-held journal rs hs (is_needy journal) is_held_needy (held-needy journal) each

pub any-unsettled : (journal : List Edit) (rs : List Receiver) (hs : List HeldRow) → EachHolds journal rs hs
    → list_any (is_unsettled journal) (rows_of rs hs) ≡ list_any is_held_unsettled hs
any-unsettled journal rs hs each =
    any-held journal rs hs (is_unsettled journal) is_held_unsettled (λ r h holds. ap (λ needy. needy || is_held_out h) (held-needy journal r h holds)) each

-- the held row at a place, as the row there
pub held-at : (journal : List Edit) (rs : List Receiver) (hs : List HeldRow) (i : ℕ) → EachHolds journal rs hs → i < length (rows_of rs hs) → At journal rs hs i
held-at journal [] hs i each below = absurd (omega arith)
held-at journal (r ∷ rs) [] i each below = absurd (omega arith)
held-at journal (r ∷ rs) (h ∷ hs) zero each below =
    record { r = r; held = h; receiver = refl; there = refl; row = refl; holds = each.0 }
held-at journal (r ∷ rs) (h ∷ hs) (suc i) each below =
    let k = held-at journal rs hs i each.1 (omega arith) in
    record { r = k.r; held = k.held; receiver = k.receiver; there = k.there; row = k.row; holds = k.holds }

pub shown-at : (journal : List Edit) (rs : List Receiver) (hs : List HeldRow) (i : ℕ) (x : HeldRow) → EachHolds journal rs hs → i < length (rows_of rs hs)
    → x ≡ get_or hs i x → slice_get (map (shown_of journal) (rows_of rs hs)) i ≡ Some (held_shown x)
shown-at journal rs hs i x each below is =
    let at = held-at journal rs hs i each below in
    let item : x ≡ at.held = is ∙ get_or_from_slice_get hs i at.held x at.there in
    slice_get-map (shown_of journal) (rows_of rs hs) i
    ∙ (ap (option_map (shown_of journal)) at.row
    ∙ (ap (λ shown. Some shown) (held-shown journal at.r at.held at.holds) ∙ ap (λ h. Some (held_shown h)) (sym item)))

pub count-held : (journal : List Edit) (rs : List Receiver) (hs : List HeldRow) → EachHolds journal rs hs → count_by is_out (rows_of rs hs) ≡ count_by is_held_out hs
count-held journal [] [] each = refl
count-held journal [] (h ∷ hs) each = absurd each
count-held journal (r ∷ rs) [] each = absurd each
count-held journal (r ∷ rs) (h ∷ hs) each =
    sum_by-cons (λ row. cond (is_out row) 1 0) (row_of r h) (rows_of rs hs)
    ∙ (ap (λ n. cond (is_held_out h) 1 0 + n) (count-held journal rs hs each.1)
    ∙ sym (sum_by-cons (λ x. cond (is_held_out x) 1 0) h hs))
