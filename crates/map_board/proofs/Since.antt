-- Bundles of an earlier version, with the marks of all edits since.
use Rattle.std.proofs.Common.{◌≡◌, ℕ, suc, ◌≤◌, Bool, true, false, cond, List, [], ◌∷◌, ◌++◌, length, take, drop, map, Some, None, refl, sym, ap, ◌∙◌, subst, arith, append_assoc, length-append, length-take}
use Rattle.std.specs.Prelude.{bytes_eq, Option, Contains, is_some, is_none, ◌||◌}
use Rattle.std.specs.Option.{option_map}
use Rattle.std.proofs.lemmas.List.{append-nil, take-append-drop, take_all}
use Rattle.scene_parts.specs.Parts.{Source, Receiver}
use Rattle.scene_book.specs.Book.{Book, empty_book}
use Rattle.scene_book.specs.Lists.{named}
use Rattle.scene_book.specs.declared.edits.Edit.{Edit}
use Rattle.path_calc.specs.Bundles.{Bundle, bundle_of}
use Rattle.path_calc.specs.Levels.{Levels}
use Rattle.path_calc.specs.Show.{sources_within, bundles_of}
use Rattle.path_cache.specs.Refreshed.{unmarked}
use Rattle.touch_test.specs.Touches.{bundled, old_part, edit_touches_any, touches_receiver}
use Rattle.touch_test.proofs.Edits.{bundled-traced}
use Rattle.touch_test.proofs.Lists.{found-in}
use Rattle.map_board.specs.Journal.{book_after, book_after_all, scene_at, newest_scene, first_from, first_after, first_touching, touches, AreAccepted}
use Rattle.map_board.specs.Rows.{Kept}
use Rattle.map_board.specs.Due.{source_within, touches_source, is_due}
use Rattle.map_board.specs.inner.Held.{no_marks}
use Rattle.map_board.specs.inner.Log.{entries_from, entries_after}
use Rattle.map_board.specs.inner.Marks.{marks_after}
use Rattle.map_board.specs.inner.Later.{marks_after_all, first_entry_touching}
use Rattle.map_board.proofs.Journals.{newest-more, none-after, through}
use Rattle.map_board.proofs.Naming.{named-map}
use Rattle.map_board.proofs.Logging.{accepted-after}
use Rattle.map_board.proofs.Unmarked.{first-other}
use Rattle.map_board.proofs.Apart.{SourcesAreApart, newest-apart, within-apart, bundles-apart, named-in}
use Rattle.map_board.proofs.Caching.{AreRight, are-more, bundles-stay}

-- ---- edits in a row

all-more : (es : List Edit) (journal : List Edit) → AreAccepted (newest_scene journal) es → (r : Receiver) (kept : Option Kept)
    → ((of : Kept) → kept ≡ Some of → of.version ≤ length journal) → (bundles : List Bundle) (marks : List Bool) → AreRight journal r kept bundles marks
    → AreRight (journal ++ es) r kept bundles (marks_after_all (entries_from (newest_scene journal) es) r bundles marks)
all-more [] journal accepted r kept past bundles marks right = subst (λ (j : List Edit). AreRight j r kept bundles marks) (sym (append-nil journal)) right
all-more (e ∷ es) journal accepted r kept past bundles marks right =
    let a : Book = newest_scene journal in
    let next : newest_scene (journal ++ e ∷ []) ≡ book_after e a = newest-more journal e in
    let one = are-more e journal (book_after e a) (old_part e a) accepted.0 r kept past bundles marks right in
    let rest = all-more es (journal ++ e ∷ []) (subst (λ (book : Book). AreAccepted book es) (sym next) accepted.1) r kept
    (λ of is. omega (arith, past of is, length-append journal (e ∷ []))) bundles (marks_after e (old_part e a) r bundles marks) one in
    subst (λ (x : List Edit × Book). AreRight x.0 r kept bundles (marks_after_all (entries_from x.1 es) r bundles (marks_after e (old_part e a) r bundles marks)))
    (λ i. (append_assoc journal (e ∷ []) es i, next i)) rest

-- bundles that were right at a version are right in the newest scene, with the marks of the edits since
pub right-later : (journal : List Edit) (v : ℕ) → v ≤ length journal → AreAccepted empty_book journal → (r : Receiver) (kept : Option Kept)
    → ((of : Kept) → kept ≡ Some of → of.version ≤ v) → (bundles : List Bundle) (marks : List Bool) → AreRight (take v journal) r kept bundles marks
    → AreRight journal r kept bundles (marks_after_all (entries_after journal v) r bundles marks)
right-later journal v within accepted r kept past bundles marks right =
    subst (λ (j : List Edit). AreRight j r kept bundles (marks_after_all (entries_after journal v) r bundles marks)) (take-append-drop v journal)
    (all-more (drop v journal) (take v journal) (accepted-after journal v accepted) r kept
    (λ of is. omega (arith, past of is, within, length-take v journal)) bundles marks right)

-- ---- the first of them that touches the receiver

entries-touching : (es : List Edit) (book : Book) (count : ℕ) → AreAccepted book es → (r : Receiver) (bundles : List Bundle) → bundles ≡ bundles_of book r
    → first_entry_touching r bundles count (entries_from book es) ≡ first_from (touches r) count book es
entries-touching [] book count accepted r bundles are = refl
entries-touching (e ∷ es) book count accepted r bundles are =
    go (touches_receiver e book r) refl (entries-touching es (book_after e book) (suc count) accepted.1 r bundles) where
      same : edit_touches_any e (old_part e book) book.globals r (map (bundled r) bundles) ≡ touches_receiver e book r
      same =
          ap (λ bs. edit_touches_any e (old_part e book) book.globals r (map (bundled r) bs)) are
          ∙ ap (edit_touches_any e (old_part e book) book.globals r) (bundled-traced book r)

      go : (test : Bool) → touches_receiver e book r ≡ test
          → (bundles ≡ bundles_of (book_after e book) r
          → first_entry_touching r bundles (suc count) (entries_from (book_after e book) es) ≡ first_from (touches r) (suc count) (book_after e book) es)
          → first_entry_touching r bundles count (entries_from book (e ∷ es)) ≡ cond test (Some (suc count)) (first_from (touches r) (suc count) (book_after e book) es)
      go true is later = ap (λ t. cond t (Some (suc count)) (first_entry_touching r bundles (suc count) (entries_from (book_after e book) es))) (same ∙ is)
      go false is later =
          ap (λ t. cond t (Some (suc count)) (first_entry_touching r bundles (suc count) (entries_from (book_after e book) es))) (same ∙ is)
          ∙ later (are ∙ bundles-stay e book (book_after e book) (old_part e book) r accepted.0 is)

pub touching-later : (journal : List Edit) (v : ℕ) → AreAccepted empty_book journal → (r : Receiver) (bundles : List Bundle) → bundles ≡ bundles_of (scene_at journal v) r
    → first_entry_touching r bundles v (entries_after journal v) ≡ first_touching journal v r
touching-later journal v accepted r bundles are = entries-touching (drop v journal) (scene_at journal v) v (accepted-after journal v accepted) r bundles are

-- where none touches it, its bundles stay
bundles-through : (es : List Edit) (book : Book) (count : ℕ) → AreAccepted book es → (r : Receiver) → first_from (touches r) count book es ≡ None
    → bundles_of book r ≡ bundles_of (book_after_all es book) r
bundles-through [] book count accepted r none = refl
bundles-through (e ∷ es) book count accepted r none =
    go (touches_receiver e book r) refl none (bundles-through es (book_after e book) (suc count) accepted.1 r) where
      go : (test : Bool) → touches_receiver e book r ≡ test → cond test (Some (suc count)) (first_from (touches r) (suc count) (book_after e book) es) ≡ None
          → (first_from (touches r) (suc count) (book_after e book) es ≡ None → bundles_of (book_after e book) r ≡ bundles_of (book_after_all es (book_after e book)) r)
          → bundles_of book r ≡ bundles_of (book_after_all es (book_after e book)) r
      go true is none later = absurd (cc none)
      go false is none later =
          bundles-stay e book (book_after e book) (old_part e book) r accepted.0 is
          ∙ later none

pub fresh-later : (journal : List Edit) (v : ℕ) → AreAccepted empty_book journal → (r : Receiver) → first_touching journal v r ≡ None
    → bundles_of (scene_at journal v) r ≡ bundles_of (newest_scene journal) r
fresh-later journal v accepted r none =
    bundles-through (drop v journal) (scene_at journal v) v (accepted-after journal v accepted) r none
    ∙ ap (λ book. bundles_of book r) (through journal v)

-- ---- the bundles of an answer

unmarked-all : (name : List ℕ) (bundles : List Bundle) → unmarked name bundles (no_marks bundles) ≡ named (λ b. b.source) name bundles
unmarked-all name [] = refl
unmarked-all name (b ∷ bs) = go (bytes_eq name b.source) refl (unmarked-all name bs) where
  go : (test : Bool) → bytes_eq name b.source ≡ test → unmarked name bs (no_marks bs) ≡ named (λ x. x.source) name bs → unmarked name (b ∷ bs) (false ∷ no_marks bs) ≡ cond test (Some b) (named (λ b. b.source) name bs)
  go true is later = rw is refl
  go false is later = first-other name b bs false (no_marks bs) is ∙ later

-- that of a name is the bundle of the source of that name, where that is within reach
unmarked-of : (book : Book) (r : Receiver) (name : List ℕ) → unmarked name (bundles_of book r) (no_marks (bundles_of book r))
    ≡ option_map (λ s. bundle_of book s r) (source_within book r name)
unmarked-of book r name =
    unmarked-all name (bundles_of book r)
    ∙ named-map (λ (s : Source). s.name) (λ (b : Bundle). b.source) (λ s. bundle_of book s r) (λ s. refl) name (sources_within book r)

some-of : {A B : Type 0} (f : A → B) (o : Option A) (b : B) → option_map f o ≡ Some b → is_some o ≡ true
some-of f None b h = absurd (cc h)
some-of f (Some a) b h = refl

length-map-all : {A B : Type 0} (f : A → B) (xs : List A) → length (map f xs) ≡ length xs
length-map-all f [] = refl
length-map-all f (x ∷ xs) = let rest = length-map-all f xs in omega arith

pub answer-right : (journal : List Edit) (v : ℕ) (levels : Levels) (r : Receiver) → v ≡ length journal → length (bundles_of (newest_scene journal) r) ≤ 128
    → AreRight journal r (Some (record { version = v; levels = levels })) (bundles_of (newest_scene journal) r) (no_marks (bundles_of (newest_scene journal) r))
answer-right journal v levels r newest few = record {
  can = record {
    one_each = length-map-all (λ (b : Bundle). false) bundles;
    few = few;
    apart = bundles-apart book r apart;
  };
  stand = λ source bundle inside found.
      let here = unmarked-at source inside in
      let both : Some bundle ≡ Some (bundle_of book source r) = sym found ∙ here in
      cc both;
  within = λ name bundle found. some-of (λ s. bundle_of book s r) (source_within book r name) bundle (sym (unmarked-of book r name) ∙ found);
  due = λ source inside. ap (λ o. is_none o) (unmarked-at source inside) ∙ sym (not-due source inside);
} where
  book : Book
  book = newest_scene journal

  bundles : List Bundle
  bundles = bundles_of (newest_scene journal) r

  apart : SourcesAreApart (newest_scene journal)
  apart = newest-apart journal

  there : (source : Source) → Contains (sources_within (newest_scene journal) r) source → source_within (newest_scene journal) r source.name ≡ Some source
  there source inside =
      named-in (λ (s : Source). s.name) source (sources_within (newest_scene journal) r) (within-apart (newest_scene journal) r apart)
      (found-in source (sources_within (newest_scene journal) r) inside)

  unmarked-at : (source : Source) → Contains (sources_within (newest_scene journal) r) source
      → unmarked source.name (bundles_of (newest_scene journal) r) (no_marks (bundles_of (newest_scene journal) r)) ≡ Some (bundle_of (newest_scene journal) source r)
  unmarked-at source inside =
      unmarked-of (newest_scene journal) r source.name ∙ ap (option_map (λ s. bundle_of (newest_scene journal) s r)) (there source inside)

  all-of : scene_at journal v ≡ newest_scene journal
  all-of = ap (λ es. book_after_all es empty_book) (take_all v journal (omega (arith, newest)))

  not-due : (source : Source) → Contains (sources_within (newest_scene journal) r) source
      → is_due journal (Some (record { version = v; levels = levels })) r source ≡ false
  not-due source inside =
      (λ i. is_none (source_within (all-of i) r source.name) || is_some (first_after (touches_source r source.name) journal (newest i)))
      ∙ (λ i. is_none (there source inside i) || is_some (none-after (touches_source r source.name) journal i))
