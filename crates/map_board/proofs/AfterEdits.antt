-- Rows after an edit: made anew, or gone over to the scene after it.
use Rattle.std.proofs.Common.{◌≡◌, ℕ, suc, ◌≤◌, Bool, true, cond, List, [], length, Some, None, refl, sym, ap, ◌∙◌, subst, arith}
use Rattle.std.specs.Prelude.{Option, IfSome, IsSomeAnd, is_some, not}
use Rattle.std.specs.Option.{option_map, option_or}
use Rattle.scene_parts.specs.Parts.{Source, Receiver}
use Rattle.scene_book.specs.declared.edits.Edit.{Edit}
use Rattle.path_calc.specs.Bundles.{Bundle}
use Rattle.path_calc.specs.Show.{bundles_of}
use Rattle.path_cache.specs.Refreshed.{CanRefresh, Stand, is_wanted}
use Rattle.path_cache.specs.Standing.{AreOfEach}
use Rattle.touch_test.specs.Touches.{names_receiver, touches_receiver}
use Rattle.touch_test.proofs.Edits.{answers-old}
use Rattle.map_board.specs.declared.rows.caches.Cache.{Cache}
use Rattle.map_board.specs.declared.rows.KeptLevels.{KeptLevels}
use Rattle.map_board.specs.declared.rows.HeldRow.{HeldRow}
use Rattle.map_board.specs.declared.edits.renewing.Change.{Change}
use Rattle.map_board.specs.Journal.{scene_at, newest_scene, names, touches, first_touching}
use Rattle.map_board.specs.Rows.{Kept}
use Rattle.map_board.specs.inner.Held.{AreWithin}
use Rattle.map_board.specs.Facts.{RowIsRight}
use Rattle.map_board.specs.Machine.{new_row}
use Rattle.map_board.specs.inner.Marks.{marks_after}
use Rattle.map_board.specs.Boards.{kept_of, row_of}
use Rattle.map_board.specs.inner.Boards.{CacheIsRight, CacheIsThere, ByIsRight, RowHolds, HasNone, IsEmpty}
use Rattle.map_board.specs.inner.Changes.{scene_before, scene_after, journal_after, IsChange, IsFresh, IsRowAfter, NamesNone}
use Rattle.map_board.proofs.Journals.{newest-more, first-more}
use Rattle.map_board.proofs.RowsRight.{new-right, more-right}
use Rattle.map_board.proofs.Caching.{right-more}

module _ (change : Change) (is : IsChange change) where
  abbrev past : List Edit
  past = change.past.value

  abbrev edit : Edit
  edit = change.logged.edit

  -- what names a receiver, by the old part that was answered
  pub names-as : (name : List ℕ) → names name edit (scene_before change) ≡ names_receiver name edit change.logged.old
  names-as name = ap (names_receiver name edit) (answers-old edit (scene_before change) (scene_after change) change.logged.old is.accepted)

  pub newest-after : newest_scene (journal_after change) ≡ scene_after change
  newest-after = newest-more past edit

  -- ---- a row made anew

  no-bundles : (r : Receiver) (cache : Cache) → HasNone cache → CacheIsRight (journal_after change) r None cache
  no-bundles r cache none = record {
    can = subst (λ (x : List Bundle × List Bool). CanRefresh x.0 x.1) (λ i. (sym none_kept i, sym none_marked i))
        (record { one_each = refl; few = omega arith; apart = tt });
    stand = subst (λ (x : List Bundle × List Bool). Stand (newest_scene (journal_after change)) r x.0 x.1) (λ i. (sym none_kept i, sym none_marked i))
        (λ source bundle inside none. absurd (cc none));
    within = subst (λ (x : List Bundle × List Bool). AreWithin (newest_scene (journal_after change)) r x.0 x.1) (λ i. (sym none_kept i, sym none_marked i))
        (λ name bundle none. absurd (cc none));
    ordered = subst (λ (o : Option ℕ). IfSome o (λ v. (v ≤ length (journal_after change)) × AreOfEach (scene_at (journal_after change) v).sources cache.bundles.items))
        (sym none.2) tt;
    due = λ source inside. none_due source;
    fresh = λ of none. absurd (cc none);
  } where
    none_kept : cache.bundles.items ≡ []
    none_kept = none.0

    none_marked : cache.marks.items ≡ []
    none_marked = none.1

    none_due : (source : Source) → is_wanted cache.bundles.items cache.marks.items source ≡ true
    none_due source = (λ i. is_wanted (none_kept i) (none_marked i) source)

  pub fresh-row : (r : Receiver) (held : HeldRow) → IsFresh change.version held → row_of r held ≡ new_row (suc (length past)) r
  fresh-row r held fresh = λ i. record {
    receiver = r;
    since = (fresh.since ∙ is.version) i;
    kept = option_map kept_of (fresh.empty.kept i);
    out = fresh.empty.out i;
  }

  -- an empty row holds, where it was put early enough
  empty-right : (r : Receiver) (held : HeldRow) → IsEmpty held → RowIsRight (journal_after change) (row_of r held) → RowHolds (journal_after change) r held
  empty-right r held empty right = record {
    right = right;
    by = subst (ByIsRight (journal_after change) r) (sym empty.kept) tt;
    bundles = subst (λ (x : Option KeptLevels × Option ℕ). CacheIsThere (journal_after change) r (option_map kept_of x.0) x.1 held.cache) (λ i. (sym empty.kept i, sym empty.out i))
        (there held.cache empty.bundles);
    stale = λ version kept out. absurd (cc (out, empty.out));
  } where
    there : (cache : Option Cache) → IsSomeAnd cache HasNone → IsSomeAnd cache (CacheIsRight (journal_after change) r None)
    there None empty = empty
    there (Some cache) empty = no-bundles r cache empty

  pub fresh-holds : (r : Receiver) (held : HeldRow) → IsFresh change.version held → RowHolds (journal_after change) r held
  fresh-holds r held fresh = empty-right r held fresh.empty (subst (RowIsRight (journal_after change)) (sym (fresh-row r held fresh)) (new-right past edit r))

  -- ---- an empty row that the edit doesn't name

  pub empty-after : (r : Receiver) (held : HeldRow) → NamesNone edit change.logged.old → RowHolds past r held → IsEmpty held
      → IsRowAfter change r (Some held) held
  empty-after r held none holds empty = record {
    anew = λ named. absurd (cc (named, ap not (none r.name)));
    same = λ unnamed. refl;
    holds = λ unnamed. empty-right r held empty (more-right past edit (row_of r held) holds.right);
    empty = λ was. empty;
  }

  -- ---- kept levels

  -- the first edit that touches, with this one more
  first-now : (r : Receiver) (v : ℕ) → v ≤ length past
      → first_touching (journal_after change) v r ≡ option_or (first_touching past v r) (cond (touches r edit (scene_before change)) (Some (suc (length past))) None)
  first-now r v before = first-more (touches r) past edit v before

  -- one that was stale stays so
  stale-by : (r : Receiver) (levels : KeptLevels) (v : ℕ) → levels.version ≤ length past → levels.by ≡ first_touching past levels.version r → levels.by ≡ Some v
      → levels.by ≡ first_touching (journal_after change) levels.version r
  stale-by r levels v before by some =
      some ∙ sym (first-now r levels.version before
      ∙ ap (λ o. option_or o (cond (touches r edit (scene_before change)) (Some (suc (length past))) None)) (sym by ∙ some))

  pub stale-still : (r : Receiver) (levels : KeptLevels) → levels.version ≤ length past → levels.by ≡ first_touching past levels.version r → is_some levels.by ≡ true
      → levels.by ≡ first_touching (journal_after change) levels.version r
  stale-still r levels before by some = go levels.by refl some where
    go : (o : Option ℕ) → levels.by ≡ o → is_some o ≡ true → levels.by ≡ first_touching (journal_after change) levels.version r
    go None is_by some = absurd (cc some)
    go (Some v) is_by some = stale-by r levels v before by is_by

  -- one that was current is so, unless this one touches it
  pub current-by : (r : Receiver) (levels : KeptLevels) → levels.version ≤ length past → levels.by ≡ first_touching past levels.version r → levels.by ≡ None
      → (touched : Bool) → touched ≡ touches_receiver edit (scene_before change) r
      → cond touched (Some change.version) None ≡ first_touching (journal_after change) levels.version r
  current-by r levels before by none touched tests =
      (λ i. cond (tests i) (Some (is.version i)) None)
      ∙ sym (first-now r levels.version before
      ∙ ap (λ o. option_or o (cond (touches r edit (scene_before change)) (Some (suc (length past))) None)) (sym by ∙ none))

  -- ---- a row that stays

  module _ (r : Receiver) (held : HeldRow) (holds : RowHolds past r held) where
    more-row : (more : HeldRow) → row_of r more ≡ row_of r held → RowIsRight (journal_after change) (row_of r more)
    more-row more same = subst (RowIsRight (journal_after change)) (sym same) (more-right past edit (row_of r held) holds.right)

    -- without bundles it is out
    out-of : held.cache ≡ None → is_some held.out ≡ true
    out-of none = go held.out holds.bundles where
      go : (out : Option ℕ) → CacheIsThere past r (option_map kept_of held.kept) out held.cache → is_some out ≡ true
      go None there = absurd (subst (λ (o : Option Cache). IsSomeAnd o (CacheIsRight past r (option_map kept_of held.kept))) none there)
      go (Some v) there = refl

    -- and with them it isn't
    free-of : (cache : Cache) → held.cache ≡ Some cache → held.out ≡ None
    free-of cache some = go held.out refl holds.bundles where
      go : (out : Option ℕ) → held.out ≡ out → CacheIsThere past r (option_map kept_of held.kept) out held.cache → held.out ≡ None
      go None is_out there = is_out
      go (Some v) is_out there = absurd (cc (some, there))

    pub right-of : (cache : Cache) → held.cache ≡ Some cache → CacheIsRight past r (option_map kept_of held.kept) cache
    right-of cache some =
        subst (λ (o : Option Cache). IsSomeAnd o (CacheIsRight past r (option_map kept_of held.kept))) some
        (subst (λ (o : Option ℕ). CacheIsThere past r (option_map kept_of held.kept) o held.cache) (free-of cache some) holds.bundles)

    pub kept-past : (levels : KeptLevels) → held.kept ≡ Some levels → levels.version ≤ length past
    kept-past levels kept = (holds.right.kept (kept_of levels) (ap (option_map kept_of) kept)).past

    pub kept-by : (levels : KeptLevels) → held.kept ≡ Some levels → levels.by ≡ first_touching past levels.version r
    kept-by levels kept = subst (ByIsRight past r) kept holds.by

    pub kept-fresh : (cache : Cache) → held.cache ≡ Some cache → (levels : KeptLevels) → held.kept ≡ Some levels → levels.by ≡ None
        → cache.bundles.items ≡ bundles_of (scene_before change) r
    kept-fresh cache some levels kept none =
        (right-of cache some).fresh (kept_of levels) (ap (option_map kept_of) kept) (sym (kept-by levels kept) ∙ none)

    -- while it is out, it keeps what it knows
    pub out-holds : held.cache ≡ None → RowHolds (journal_after change) r (record { since = held.since; kept = held.kept; out = held.out; cache = None })
    out-holds none = record {
      right = more-row (record { since = held.since; kept = held.kept; out = held.out; cache = None }) refl;
      by = by held.kept refl;
      bundles = there held.out (out-of none);
      stale = holds.stale;
    } where
      there : (out : Option ℕ) → is_some out ≡ true → CacheIsThere (journal_after change) r (option_map kept_of held.kept) out None
      there None some = absurd (cc some)
      there (Some v) some = refl

      stale : (levels : KeptLevels) (out : Option ℕ) → held.kept ≡ Some levels → held.out ≡ out → is_some out ≡ true → is_some levels.by ≡ true
      stale levels None kept is_out some = absurd (cc some)
      stale levels (Some v) kept is_out some = holds.stale v levels is_out kept

      by : (kept : Option KeptLevels) → held.kept ≡ kept → ByIsRight (journal_after change) r kept
      by None kept = tt
      by (Some levels) kept = stale-still r levels (kept-past levels kept) (kept-by levels kept) (stale levels held.out kept refl (out-of none))

    -- with its bundles, it gets their marks
    pub marked-holds : (kept : Option KeptLevels) (cache more : Cache) → held.cache ≡ Some cache → option_map kept_of kept ≡ option_map kept_of held.kept → ByIsRight (journal_after change) r kept
        → more.bundles.items ≡ cache.bundles.items → more.order ≡ cache.order → more.marks.items ≡ marks_after edit change.logged.old r cache.bundles.items cache.marks.items
        → RowHolds (journal_after change) r (record { since = held.since; kept = kept; out = held.out; cache = Some more })
    marked-holds kept cache more some levels by bundles order marks = record {
      right = more-row (record { since = held.since; kept = kept; out = held.out; cache = Some more }) (λ i. record { receiver = r; since = held.since; kept = levels i; out = held.out });
      by = by;
      bundles = subst (λ (o : Option ℕ). CacheIsThere (journal_after change) r (option_map kept_of kept) o (Some more)) (sym (free-of cache some)) right;
      stale = λ v of out. absurd (cc (out, free-of cache some));
    } where
      right : CacheIsRight (journal_after change) r (option_map kept_of kept) more
      right =
          subst (λ (k : Option Kept). CacheIsRight (journal_after change) r k more) (sym levels)
          (right-more edit past (scene_after change) change.logged.old is.accepted r (option_map kept_of held.kept)
          (λ of some_of. (holds.right.kept of some_of).past) cache more (right-of cache some) bundles order marks)
