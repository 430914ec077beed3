-- The noted edits that name a receiver are those of the journal.
use Rattle.std.proofs.Common.{◌≡◌, ℕ, zero, suc, ◌+◌, ◌<◌, ◌≤◌, Bool, true, false, cond, List, [], ◌∷◌, ◌++◌, take, drop, Some, None, refl, sym, ap, ◌∙◌, arith, rules, tests, zero-add}
use Rattle.std.specs.Prelude.{nat_lt, bytes_eq, Option, find, ◌||◌, ◌&&◌}
use Rattle.std.specs.List.{list_any}
use Rattle.std.specs.Option.{option_map, option_map_or, option_and_then, option_to_list}
use Rattle.scene_parts.specs.Parts.{Receiver}
use Rattle.scene_parts.specs.declared.parts.Part.{Part}
use Rattle.scene_parts.specs.declared.parts.Part.TheVariants as parts
use Rattle.scene_book.specs.Book.{Book, empty_book}
use Rattle.scene_book.specs.Lists.{named}
use Rattle.scene_book.specs.Grid.{receivers_of}
use Rattle.scene_book.specs.Applying.{replaced, part_named}
use Rattle.scene_book.specs.declared.edits.Edit.{Edit}
use Rattle.scene_book.specs.declared.edits.Edit.TheVariants as edits
use Rattle.touch_test.specs.Touches.{old_part, is_receiver}
use Rattle.touch_test.proofs.Lists.{or_false}
use Rattle.map_board.specs.declared.edits.namings.NamedReceivers.{NamedReceivers}
use Rattle.map_board.specs.declared.edits.namings.Naming.{Naming}
use Rattle.map_board.specs.Journal.{book_after, book_after_all, first_from, first_naming, names}
use Rattle.map_board.specs.inner.Namings.{named_part, naming_of, noted, namings_from, namings_of}
use Rattle.map_board.specs.inner.FirstNaming.{has_name, names_after, first_noted}
use Rattle.map_board.proofs.Naming.{named-is, same-name}

-- ---- one edit

abbrev has : List ℕ → Option NamedReceivers → Bool
has name o = option_map_or (has_name name) o false

part-names : (name : List ℕ) (part : Part) → is_receiver name part ≡ has name (named_part part)
part-names name (parts.Receiver r) = refl
part-names name part = refl

old-names : (name : List ℕ) (old : Option Part) → list_any (is_receiver name) (option_to_list old) ≡ has name (option_and_then named_part old)
old-names name None = refl
old-names name (Some part) = or_false (is_receiver name part) ∙ part-names name part

-- a part that a put replaces is a receiver of that name exactly where the new one is
or-replaced : (a b : Bool) → b ≡ a → (a || (b || false)) ≡ a
or-replaced true b same = refl
or-replaced false b same = or_false b ∙ same

replaced-names : (name : List ℕ) (part : Part) (book : Book)
    → (is_receiver name part || list_any (is_receiver name) (option_to_list (replaced part book))) ≡ is_receiver name part
replaced-names name (parts.Receiver r) book = go (named (λ (x : Receiver). x.name) r.name book.receivers) refl where
  go : (o : Option Receiver) → named (λ (x : Receiver). x.name) r.name book.receivers ≡ o
      → (bytes_eq r.name name || list_any (is_receiver name) (option_to_list (option_map parts.Receiver o))) ≡ bytes_eq r.name name
  go None is = or_false (bytes_eq r.name name)
  go (Some x) is =
      let same : r.name ≡ x.name = same-name r.name x.name (named-is (λ (y : Receiver). y.name) r.name book.receivers x is) in
      or-replaced (bytes_eq r.name name) (bytes_eq x.name name) (ap (λ n. bytes_eq n name) (sym same))
replaced-names name part book = grind arith

-- what is noted of an edit names those receivers that the edit names
noted-names : (name : List ℕ) (edit : Edit) (book : Book) → names name edit book ≡ has name (naming_of edit (old_part edit book))
noted-names name (edits.Put part) book = replaced-names name part book ∙ part-names name part
noted-names name (edits.Remove gone) book = old-names name (part_named book gone)
noted-names name (edits.Grid grid) book = or_false (list_any (λ r. bytes_eq r.name name) (receivers_of grid))
noted-names name (edits.Set setting) book = refl

-- ---- edits in a row

abbrev version_of : Naming → ℕ
version_of naming = naming.version

step-noted : (v : ℕ) (name : List ℕ) (count : ℕ) (o : Option NamedReceivers) (rest : List Naming) → v < count
    → option_map version_of (find (names_after v name) (noted count o ++ rest)) ≡ cond (has name o) (Some count) (first_noted v name rest)
step-noted v name count None rest later = refl
step-noted v name count (Some receivers) rest later =
    let after : nat_lt v count ≡ true = search (rules, tests, later) in
    ap (λ t. option_map version_of (cond (t && has_name name receivers) (Some (record { version = count; receivers = receivers })) (find (names_after v name) rest))) after
    ∙ go (has_name name receivers) where
      go : (test : Bool) → option_map version_of (cond test (Some (record { version = count; receivers = receivers })) (find (names_after v name) rest))
          ≡ cond test (Some count) (first_noted v name rest)
      go true = refl
      go false = refl

step-past : (v : ℕ) (name : List ℕ) (count : ℕ) (o : Option NamedReceivers) (rest : List Naming) → count ≤ v
    → find (names_after v name) (noted count o ++ rest) ≡ find (names_after v name) rest
step-past v name count None rest before = refl
step-past v name count (Some receivers) rest before =
    let not_after : nat_lt v count ≡ false = search (rules, tests, before) in
    ap (λ t. cond (t && has_name name receivers) (Some (record { version = count; receivers = receivers })) (find (names_after v name) rest)) not_after

from-noted : (v : ℕ) (name : List ℕ) (es : List Edit) (count : ℕ) (book : Book) → v ≤ count
    → first_noted v name (namings_from count book es) ≡ first_from (names name) count book es
from-noted v name [] count book before = refl
from-noted v name (e ∷ es) count book before =
    step-noted v name (suc count) (naming_of e (old_part e book)) (namings_from (suc count) (book_after e book) es) (omega arith)
    ∙ ((λ i. cond (sym (noted-names name e book) i) (Some (suc count)) (from-noted v name es (suc count) (book_after e book) (omega arith) i)))

past-noted : (name : List ℕ) (k : ℕ) (es : List Edit) (count v : ℕ) (book : Book) → v ≡ count + k
    → first_noted v name (namings_from count book es) ≡ first_from (names name) v (book_after_all (take k es) book) (drop k es)
past-noted name zero es count v book is =
    let same : v ≡ count = omega arith in
    from-noted v name es count book (omega arith) ∙ ap (λ n. first_from (names name) n book es) (sym same)
past-noted name (suc k) [] count v book is = refl
past-noted name (suc k) (e ∷ es) count v book is =
    ap (option_map version_of) (step-past v name (suc count) (naming_of e (old_part e book)) (namings_from (suc count) (book_after e book) es) (omega arith))
    ∙ past-noted name k es (suc count) v (book_after e book) (omega arith)

-- the first noted edit after a version that names a receiver is the first of the journal
pub noted-first : (journal : List Edit) (version : ℕ) (name : List ℕ) → first_noted version name (namings_of journal) ≡ first_naming journal version name
noted-first journal version name = past-noted name version journal 0 version empty_book (sym (zero-add version))
