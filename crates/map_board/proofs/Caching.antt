-- Kept bundles that are right stay so after one more edit, with its marks.
use Rattle.std.proofs.Common.{◌≡◌, ℕ, suc, ◌≤◌, Bool, true, false, cond, List, [], ◌∷◌, ◌++◌, length, drop, map, Some, None, refl, sym, ap, ◌∙◌, subst}
use Rattle.std.specs.Prelude.{Option, Result, Ok, Err, Contains, is_some, is_none, ◌||◌}
use Rattle.std.specs.List.{list_any}
use Rattle.std.specs.Option.{option_map_or}
use Rattle.scene_geom.proofs.Blocking.{uncrossed_is_unblocked}
use Rattle.scene_parts.specs.Parts.{Source, Receiver}
use Rattle.scene_parts.specs.declared.parts.Part.{Part}
use Rattle.scene_book.specs.Book.{Book}
use Rattle.scene_book.specs.Applying.{apply_of}
use Rattle.scene_book.specs.declared.edits.Edit.{Edit}
use Rattle.scene_book.specs.declared.edits.EditFault.{EditFault}
use Rattle.scene_book.proofs.EditLemmas.{accepted-changes}
use Rattle.path_calc.specs.Bundles.{Bundle, bundle_of}
use Rattle.path_calc.specs.Show.{sources_within, bundles_of}
use Rattle.path_cache.specs.Refreshed.{CanRefresh, Stand, is_wanted, unmarked}
use Rattle.touch_test.specs.Touches.{traced, bundled, old_part, changed_parts, is_set, edit_touches, touches_path, is_source_within, names_receiver, touches_receiver}
use Rattle.touch_test.specs.Laws.{PathStays, UntouchedPathsStay, UntouchedReceiversStay}
use Rattle.touch_test.proofs.Untouched.{untouched-paths-stay, untouched-receivers-stay}
use Rattle.touch_test.proofs.Edits.{answers-old}
use Rattle.touch_test.proofs.Lists.{In, neither, fails-at, in-map, map-agrees, contains, found-in}
use Rattle.map_board.specs.declared.rows.caches.Cache.{Cache}
use Rattle.map_board.specs.Journal.{scene_left, book_after, book_after_all, scene_at, newest_scene, first_from, first_after, first_touching, touches}
use Rattle.map_board.specs.Rows.{Kept}
use Rattle.map_board.specs.Due.{source_within, touches_source, is_due}
use Rattle.map_board.specs.inner.Held.{AreWithin}
use Rattle.map_board.specs.inner.Marks.{marks_after}
use Rattle.map_board.specs.inner.Boards.{CacheIsRight}
use Rattle.map_board.proofs.Naming.{named-is, same-name}
use Rattle.map_board.proofs.Keeping.{none-of}
use Rattle.map_board.proofs.Journals.{newest-more, at-more, through, some-more}
use Rattle.map_board.proofs.Unmarked.{left, length-marks, unmarked-after}
use Rattle.map_board.proofs.Ordered.{ordered-more}
use Rattle.map_board.proofs.Apart.{found-named, some-named, same-thing, within-apart, newest-apart, accepted-apart}

path-stays : UntouchedPathsStay
path-stays = untouched-paths-stay uncrossed_is_unblocked accepted-changes

receiver-stays : UntouchedReceiversStay
receiver-stays = untouched-receivers-stay uncrossed_is_unblocked accepted-changes

-- ---- a source within reach, by its name

record Found (book : Book) (r : Receiver) (name : List ℕ) : Type 0 where
  source : Source
  is : source_within book r name ≡ Some source
  inside : In source (sources_within book r)
  named_so : source.name ≡ name

found-source : (book : Book) (r : Receiver) (name : List ℕ) (s : Source) → source_within book r name ≡ Some s → Found book r name
found-source book r name s is = record {
  source = s;
  is = is;
  inside = found-named (λ (x : Source). x.name) name (sources_within book r) s is;
  named_so = sym (same-name name s.name (named-is (λ (x : Source). x.name) name (sources_within book r) s is));
}

found : (book : Book) (r : Receiver) (name : List ℕ) → is_some (source_within book r name) ≡ true → Found book r name
found book r name some = go (source_within book r name) refl some where
  go : (o : Option Source) → source_within book r name ≡ o → is_some o ≡ true → Found book r name
  go None is some = absurd (cc some)
  go (Some s) is some = found-source book r name s is

is-within : (book : Book) (r : Receiver) (name : List ℕ) (s : Source) → In s (sources_within book r) → s.name ≡ name → is_some (source_within book r name) ≡ true
is-within book r name s inside same =
    ap (λ n. is_some (source_within book r n)) (sym same) ∙ some-named (λ (x : Source). x.name) s (sources_within book r) inside

-- ---- a source whose path no edit touches stays within reach

stays-one : (r : Receiver) (name : List ℕ) (e : Edit) (book : Book) → is_some (source_within book r name) ≡ true → touches_source r name e book ≡ false
    → is_some (source_within (book_after e book) r name) ≡ true
stays-one r name e book some untouched = go (apply_of e book) refl where
  f : Found book r name
  f = found book r name some

  path : touches_path e book r f.source ≡ false
  path = sym (ap (λ o. option_map_or (touches_path e book r) o false) f.is) ∙ untouched

  go : (o : Result (Book × Option Part) EditFault) → apply_of e book ≡ o → is_some (source_within (scene_left book o) r name) ≡ true
  go (Err fault) is = some
  go (Ok after) is =
      let stays = path-stays e book after.0 after.1 f.source r is (contains f.source (sources_within book r) f.inside) path in
      is-within after.0 r name f.source (found-in f.source (sources_within after.0 r) stays.within) f.named_so

stays-all : (r : Receiver) (name : List ℕ) (count : ℕ) (book : Book) (es : List Edit) → is_some (source_within book r name) ≡ true
    → first_from (touches_source r name) count book es ≡ None → is_some (source_within (book_after_all es book) r name) ≡ true
stays-all r name count book [] some none = some
stays-all r name count book (e ∷ es) some none = go (touches_source r name e book) refl none (stays-all r name (suc count) (book_after e book) es) where
  go : (test : Bool) → touches_source r name e book ≡ test → cond test (Some (suc count)) (first_from (touches_source r name) (suc count) (book_after e book) es) ≡ None
      → (is_some (source_within (book_after e book) r name) ≡ true → first_from (touches_source r name) (suc count) (book_after e book) es ≡ None
      → is_some (source_within (book_after_all es (book_after e book)) r name) ≡ true)
      → is_some (source_within (book_after_all es (book_after e book)) r name) ≡ true
  go true is none later = absurd (cc none)
  go false is none later = later (stays-one r name e book some is) none

-- one that isn't within reach in the newest scene is due
due-beyond : (journal : List Edit) (of : Kept) (r : Receiver) (s : Source) → source_within (newest_scene journal) r s.name ≡ None
    → is_due journal (Some of) r s ≡ true
due-beyond journal of r s beyond =
    go (source_within (scene_at journal of.version) r s.name) refl (first_after (touches_source r s.name) journal of.version) refl where
      go : (o : Option Source) → source_within (scene_at journal of.version) r s.name ≡ o
          → (f : Option ℕ) → first_after (touches_source r s.name) journal of.version ≡ f → (is_none o || is_some f) ≡ true
      go None is f first = refl
      go (Some x) is (Some k) first = refl
      go (Some x) is None first =
          let some = stays-all r s.name of.version (scene_at journal of.version) (drop of.version journal) (ap (λ o. is_some o) is) first in
          let still : is_some (source_within (newest_scene journal) r s.name) ≡ true = ap (λ book. is_some (source_within book r s.name)) (sym (through journal of.version)) ∙ some in
          absurd (cc (still, beyond))

or-again : (a b c : Bool) → (a || (b || c)) ≡ ((a || b) || c)
or-again true b c = refl
or-again false b c = refl

-- with one edit more, it is due where it was, or where the edit touches its path
due-more : (journal : List Edit) (e : Edit) (of : Kept) (r : Receiver) (s : Source) → of.version ≤ length journal
    → is_due (journal ++ e ∷ []) (Some of) r s ≡ (is_due journal (Some of) r s || touches_source r s.name e (newest_scene journal))
due-more journal e of r s past =
    (λ i. is_none (source_within (at-more journal e of.version past i) r s.name) || some-more (touches_source r s.name) journal e of.version past i)
    ∙ or-again (is_none (source_within (scene_at journal of.version) r s.name)) (is_some (first_after (touches_source r s.name) journal of.version))
    (touches_source r s.name e (newest_scene journal))

-- ---- one edit more

-- an unmarked bundle that the marks of an edit leave: it was unmarked, it is the scene's, of a source within reach whose
-- path stays
record IsLeft (a b : Book) (r : Receiver) (bundles : List Bundle) (marks : List Bool) (name : List ℕ) (bundle : Bundle) : Type 0 where
  here : Found a r name
  before : unmarked name bundles marks ≡ Some bundle
  is : bundle ≡ bundle_of a here.source r
  path : PathStays a b here.source r

left-some : (touch : Bundle → Bool) (o : Option Bundle) (bundle : Bundle) → left touch o ≡ Some bundle → (o ≡ Some bundle) × (touch bundle ≡ false)
left-some touch None bundle h = absurd (cc h)
left-some touch (Some x) bundle h = go (touch x) refl h where
  go : (test : Bool) → touch x ≡ test → cond test None (Some x) ≡ Some bundle → (Some x ≡ Some bundle) × (touch bundle ≡ false)
  go true e h = absurd (cc h)
  go false e h = let is : x ≡ bundle = cc h in (h, ap touch (sym is) ∙ e)

none-cond : (test : Bool) (x : Bundle) → is_none (cond test None (Some x)) ≡ test
none-cond true x = refl
none-cond false x = refl

-- bundles and marks are right for a row in the newest scene
pub record AreRight (journal : List Edit) (r : Receiver) (kept : Option Kept) (bundles : List Bundle) (marks : List Bool) : Type 0 where
  pub can : CanRefresh bundles marks
  pub stand : Stand (newest_scene journal) r bundles marks
  pub within : AreWithin (newest_scene journal) r bundles marks
  pub due : (source : Source) → Contains (sources_within (newest_scene journal) r) source
      → is_wanted bundles marks source ≡ is_due journal kept r source

module _ (edit : Edit) (journal : List Edit) (b : Book) (old : Option Part) (accepted : apply_of edit (newest_scene journal) ≡ Ok (b, old)) (r : Receiver) (kept : Option Kept)
    (past : (of : Kept) → kept ≡ Some of → of.version ≤ length journal) (bundles : List Bundle) (marks : List Bool) (right : AreRight journal r kept bundles marks) where
  abbrev a : Book
  a = newest_scene journal

  abbrev marked : List Bool
  marked = marks_after edit old r bundles marks

  abbrev touch : Bundle → Bool
  touch bundle = edit_touches edit old (bundled r bundle)

  abbrev grown : List Edit
  grown = journal ++ edit ∷ []

  now : newest_scene grown ≡ b
  now = newest-more journal edit ∙ ap (scene_left a) accepted

  touch-is : (s : Source) → touch (bundle_of a s r) ≡ touches_path edit a r s
  touch-is s = ap (λ (o : Option Part). edit_touches edit o (traced a r s)) (sym (answers-old edit a b old accepted))

  is-left : (name : List ℕ) (bundle : Bundle) → unmarked name bundles marked ≡ Some bundle → IsLeft a b r bundles marks name bundle
  is-left name bundle h =
      let k = left-some touch (unmarked name bundles marks) bundle (sym (unmarked-after touch name bundles marks right.can.apart) ∙ h) in
      let f = found a r name (right.within name bundle k.0) in
      let c = contains f.source (sources_within a r) f.inside in
      let is = right.stand f.source bundle c (ap (λ n. unmarked n bundles marks) f.named_so ∙ k.0) in
      let path : touches_path edit a r f.source ≡ false = sym (touch-is f.source) ∙ (ap touch (sym is) ∙ k.1) in
      record { here = f; before = k.0; is = is; path = path-stays edit a b old f.source r accepted c path }

  can-more : CanRefresh bundles marked
  can-more = record {
    one_each = length-marks touch bundles marks right.can.one_each;
    few = right.can.few;
    apart = right.can.apart;
  }

  stand-more : Stand b r bundles marked
  stand-more source bundle inside h =
      let k = is-left source.name bundle h in
      let same : k.here.source ≡ source =
      same-thing (λ (s : Source). s.name) k.here.source source (sources_within b r) (within-apart b r (accepted-apart edit a b old accepted (newest-apart journal)))
      (found-in k.here.source (sources_within b r) k.path.within) (found-in source (sources_within b r) inside) k.here.named_so in
      k.is ∙ (k.path.bundle ∙ ap (λ s. bundle_of b s r) same)

  within-more : AreWithin b r bundles marked
  within-more name bundle h =
      let k = is-left name bundle h in
      is-within b r name k.here.source (found-in k.here.source (sources_within b r) k.path.within) k.here.named_so

  -- of a source within reach before the edit
  due-here : (source s : Source) (of : Kept) → kept ≡ Some of → source_within a r source.name ≡ Some s
      → is_none (unmarked source.name bundles marks) ≡ is_due journal (Some of) r source
  unfolding found-source
  due-here source s of is there =
      let f = found-source a r source.name s there in
      ap (λ n. is_none (unmarked n bundles marks)) (sym f.named_so)
      ∙ (right.due s (contains s (sources_within a r) f.inside)
      ∙ (ap (λ k. is_due journal k r s) is
      ∙ ap (λ n. is_none (source_within (scene_at journal of.version) r n) || is_some (first_after (touches_source r n) journal of.version)) f.named_so))

  wanted-here : (source s : Source) (of : Kept) → kept ≡ Some of → source_within a r source.name ≡ Some s → (u : Option Bundle) → unmarked source.name bundles marks ≡ u
      → is_none (left touch u) ≡ (is_due journal (Some of) r source || touches_path edit a r s)
  unfolding found-source
  wanted-here source s of is there None e =
      let d : true ≡ is_due journal (Some of) r source = sym (ap (λ o. is_none o) e) ∙ due-here source s of is there in
      ap (λ x. x || touches_path edit a r s) d
  wanted-here source s of is there (Some bundle) e =
      let f = found-source a r source.name s there in
      let d : false ≡ is_due journal (Some of) r source = sym (ap (λ o. is_none o) e) ∙ due-here source s of is there in
      let same : bundle ≡ bundle_of a s r = right.stand s bundle (contains s (sources_within a r) f.inside) (ap (λ n. unmarked n bundles marks) f.named_so ∙ e) in
      none-cond (touch bundle) bundle ∙ (ap touch same ∙ (touch-is s ∙ ap (λ x. x || touches_path edit a r s) d))

  none-within : (name : List ℕ) → source_within a r name ≡ None → (u : Option Bundle) → unmarked name bundles marks ≡ u → is_none (left touch u) ≡ true
  none-within name beyond None e = refl
  none-within name beyond (Some bundle) e = absurd (cc (right.within name bundle e, beyond))

  by-source : (source : Source) (of : Kept) → kept ≡ Some of → (o : Option Source) → source_within a r source.name ≡ o
      → is_none (left touch (unmarked source.name bundles marks)) ≡ (is_due journal (Some of) r source || option_map_or (touches_path edit a r) o false)
  by-source source of is None beyond =
      none-within source.name beyond (unmarked source.name bundles marks) refl
      ∙ ap (λ x. x || false) (sym (due-beyond journal of r source beyond))
  by-source source of is (Some s) there = wanted-here source s of is there (unmarked source.name bundles marks) refl

  none-kept : (source : Source) → kept ≡ None → (u : Option Bundle) → unmarked source.name bundles marks ≡ u → is_none (left touch u) ≡ true
  none-kept source is None e = refl
  none-kept source is (Some bundle) e =
      let f = found a r source.name (right.within source.name bundle e) in
      let d : is_wanted bundles marks f.source ≡ true = right.due f.source (contains f.source (sources_within a r) f.inside) ∙ ap (λ k. is_due journal k r f.source) is in
      let u : unmarked f.source.name bundles marks ≡ Some bundle = ap (λ n. unmarked n bundles marks) f.named_so ∙ e in
      absurd (cc (d, u))

  due-after : (source : Source) (k : Option Kept) → kept ≡ k → is_none (left touch (unmarked source.name bundles marks)) ≡ is_due grown k r source
  due-after source None is = none-kept source is (unmarked source.name bundles marks) refl
  due-after source (Some of) is = by-source source of is (source_within a r source.name) refl ∙ sym (due-more journal edit of r source (past of is))

  wanted-after : (source : Source) → is_wanted bundles marked source ≡ is_due grown kept r source
  wanted-after source = ap (λ o. is_none o) (unmarked-after touch source.name bundles marks right.can.apart) ∙ due-after source kept refl

  -- they are so with one edit more, where they have its marks
  pub are-more : AreRight (journal ++ edit ∷ []) r kept bundles (marks_after edit old r bundles marks)
  are-more = record {
    can = can-more;
    stand = subst (λ (book : Book). Stand book r bundles marked) (sym now) stand-more;
    within = subst (λ (book : Book). AreWithin book r bundles marked) (sym now) within-more;
    due = λ source inside. wanted-after source;
  }

-- where an accepted edit doesn't touch the receiver, its bundles are the same
pub bundles-stay : (edit : Edit) (a b : Book) (old : Option Part) (r : Receiver) → apply_of edit a ≡ Ok (b, old) → touches_receiver edit a r ≡ false
    → bundles_of a r ≡ bundles_of b r
bundles-stay edit a b old r accepted h =
    let parts : Option Part = old_part edit a in
    let reached : Bool = list_any (is_source_within a.globals.reach r) (changed_parts edit parts) in
    let last = neither ((is_set edit || names_receiver r.name edit parts) || reached)
    (list_any (edit_touches edit parts) (map (traced a r) (sources_within a r))) h in
    map-agrees (λ s. bundle_of a s r) (λ s. bundle_of b s r) (sources_within a r) (λ s i.
    (path-stays edit a b old s r accepted (contains s (sources_within a r) i)
    (fails-at (edit_touches edit parts) (traced a r s) (map (traced a r) (sources_within a r)) (in-map (traced a r) s (sources_within a r) i) last.1)).bundle)
    ∙ ap (map (λ (s : Source). bundle_of b s r)) (receiver-stays edit a b old r accepted h).sources

-- bundles that are right for a journal are so with one edit more, where they have its marks
pub right-more : (edit : Edit) (journal : List Edit) (b : Book) (old : Option Part) → apply_of edit (newest_scene journal) ≡ Ok (b, old)
    → (r : Receiver) (kept : Option Kept) → ((of : Kept) → kept ≡ Some of → of.version ≤ length journal) → (cache more : Cache) → CacheIsRight journal r kept cache
    → more.bundles.items ≡ cache.bundles.items → more.order ≡ cache.order → more.marks.items ≡ marks_after edit old r cache.bundles.items cache.marks.items
    → CacheIsRight (journal ++ edit ∷ []) r kept more
right-more edit journal b old accepted r kept past cache more right same order set =
    let before : AreRight journal r kept cache.bundles.items cache.marks.items =
    record { can = right.can; stand = right.stand; within = right.within; due = right.due } in
    let all = subst (λ (x : List Bundle × List Bool). AreRight (journal ++ edit ∷ []) r kept x.0 x.1) (λ i. (sym same i, sym set i))
    (are-more edit journal b old accepted r kept past cache.bundles.items cache.marks.items before) in
    record {
      can = all.can;
      stand = all.stand;
      within = all.within;
      ordered = ordered-more journal edit cache more order same right.ordered;
      due = all.due;
      fresh = λ of is none.
          let more = some-more (touches r) journal edit of.version (past of is) in
          let both : (is_some (first_touching journal of.version r) || touches_receiver edit (newest_scene journal) r) ≡ false = sym more ∙ ap (λ o. is_some o) none in
          let apart = neither (is_some (first_touching journal of.version r)) (touches_receiver edit (newest_scene journal) r) both in
          same ∙ (right.fresh of is (none-of (first_touching journal of.version r) apart.0)
          ∙ (bundles-stay edit (newest_scene journal) b old r accepted apart.1
          ∙ ap (λ book. bundles_of book r) (sym (newest-more journal edit ∙ ap (scene_left (newest_scene journal)) accepted))));
    }
