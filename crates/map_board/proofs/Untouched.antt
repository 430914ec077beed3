-- Rows that an edit of receivers alone leaves as they are.
use Rattle.std.proofs.Common.{◌≡◌, ℕ, Bool, true, false, List, [], ◌∷◌, length, Some, None, refl, sym, ap, ◌∙◌, subst, arith}
use Rattle.std.specs.Prelude.{Option, not, is_some, ◌||◌}
use Rattle.std.specs.List.{list_any}
use Rattle.scene_parts.specs.Parts.{Receiver}
use Rattle.scene_parts.specs.declared.parts.Part.{Part}
use Rattle.scene_parts.specs.declared.parts.Part.TheVariants as parts
use Rattle.scene_book.specs.declared.edits.Edit.{Edit}
use Rattle.scene_book.specs.declared.edits.Edit.TheVariants as edits
use Rattle.path_calc.specs.Bundles.{Bundle}
use Rattle.path_calc.specs.Show.{bundles_of}
use Rattle.touch_test.specs.Touches.{TracedPath, bundled, edit_touches, is_set, names_receiver, is_source_within, changed_parts, touches_receiver}
use Rattle.map_board.specs.declared.rows.caches.Cache.{Cache}
use Rattle.map_board.specs.declared.rows.KeptLevels.{KeptLevels}
use Rattle.map_board.specs.declared.rows.HeldRow.{HeldRow}
use Rattle.map_board.specs.declared.edits.renewing.Change.{Change}
use Rattle.map_board.specs.inner.Marks.{marks_after, touches_one}
use Rattle.map_board.specs.inner.Boards.{ByIsRight, RowHolds}
use Rattle.map_board.specs.inner.Changes.{scene_before, journal_after, is_unnamed, changes_receivers_alone, IsChange}
use Rattle.map_board.proofs.AfterEdits.{stale-still, current-by, right-of, kept-past, kept-by, out-holds, marked-holds}
use Rattle.map_board.proofs.Touched.{beside-is}

-- ---- what such an edit touches

touches-names : (edit : Edit) (old : Option Part) (path : TracedPath) → changes_receivers_alone edit old ≡ true → edit_touches edit old path ≡ names_receiver path.receiver edit old
touches-names (edits.Put (parts.Receiver r)) None path alone = refl
touches-names (edits.Put (parts.Receiver r)) (Some (parts.Receiver x)) path alone = refl
touches-names (edits.Remove name) None path alone = refl
touches-names (edits.Remove name) (Some (parts.Receiver x)) path alone = refl
touches-names (edits.Grid grid) None path alone = refl
touches-names (edits.Grid grid) (Some (parts.Receiver x)) path alone = refl
touches-names edit old path alone = absurd (cc alone)

no-source : (edit : Edit) (old : Option Part) (reach : ℕ) (r : Receiver) → changes_receivers_alone edit old ≡ true
    → list_any (is_source_within reach r) (changed_parts edit old) ≡ false
no-source (edits.Put (parts.Receiver x)) None reach r alone = refl
no-source (edits.Put (parts.Receiver x)) (Some (parts.Receiver y)) reach r alone = refl
no-source (edits.Remove name) None reach r alone = refl
no-source (edits.Remove name) (Some (parts.Receiver x)) reach r alone = refl
no-source (edits.Grid grid) None reach r alone = refl
no-source (edits.Grid grid) (Some (parts.Receiver x)) reach r alone = refl
no-source edit old reach r alone = absurd (cc alone)

not-set : (edit : Edit) (old : Option Part) → changes_receivers_alone edit old ≡ true → is_set edit ≡ false
not-set (edits.Set setting) old alone = absurd (cc alone)
not-set edit old alone = refl

fails : (b : Bool) → not b ≡ true → b ≡ false
fails true h = absurd (cc h)
fails false h = refl

or-false : (b : Bool) → (b || false) ≡ b
or-false true = refl
or-false false = refl

-- ---- a receiver that it doesn't name

module _ (change : Change) (is : IsChange change) (r : Receiver) (unnamed : is_unnamed change r ≡ true)
    (alone : changes_receivers_alone change.logged.edit change.logged.old ≡ true) where
  abbrev edit : Edit
  edit = change.logged.edit

  abbrev old : Option Part
  old = change.logged.old

  other-name : names_receiver r.name edit old ≡ false
  other-name = fails (names_receiver r.name edit old) unnamed

  path-untouched : (bundle : Bundle) → edit_touches edit old (bundled r bundle) ≡ false
  path-untouched bundle = touches-names edit old (bundled r bundle) alone ∙ other-name

  none-touched : (bundles : List Bundle) → touches_one edit old r bundles ≡ false
  none-touched [] = refl
  none-touched (bundle ∷ bundles) = λ i. path-untouched bundle i || none-touched bundles i

  marks-stay : (bundles : List Bundle) (marks : List Bool) → length marks ≡ length bundles → marks_after edit old r bundles marks ≡ marks
  marks-stay [] [] count = refl
  marks-stay [] (mark ∷ marks) count = absurd (omega (arith, count))
  marks-stay (bundle ∷ bundles) [] count = absurd (omega (arith, count))
  marks-stay (bundle ∷ bundles) (mark ∷ marks) count =
      let one : (mark || edit_touches edit old (bundled r bundle)) ≡ mark = ap (λ touched. mark || touched) (path-untouched bundle) ∙ or-false mark in
      λ i. one i ∷ marks-stay bundles marks (omega (arith, count)) i

  untouched : touches_receiver edit (scene_before change) r ≡ false
  untouched =
      sym (beside-is change r false is (sym (none-touched (bundles_of (scene_before change) r))))
      ∙ (λ i. not-set edit old alone i || other-name i || no-source edit old change.globals.reach r alone i || false)

  module _ (held : HeldRow) (holds : RowHolds change.past.value r held) where
    by-stays : (kept : Option KeptLevels) → held.kept ≡ kept → ByIsRight (journal_after change) r kept
    by-stays None kept = tt
    by-stays (Some levels) kept = go levels.by refl where
      go : (by : Option ℕ) → levels.by ≡ by → ByIsRight (journal_after change) r (Some levels)
      go None none = none ∙ current-by change is r levels (kept-past change is r held holds levels kept) (kept-by change is r held holds levels kept) none false (sym untouched)
      go (Some v) some = stale-still change is r levels (kept-past change is r held holds levels kept) (kept-by change is r held holds levels kept) (ap (λ o. is_some o) some)

    -- its row holds after the edit as it is
    pub stays-right : RowHolds (journal_after change) r held
    stays-right = go held.cache refl where
      go : (cache : Option Cache) → held.cache ≡ cache → RowHolds (journal_after change) r held
      go None none =
          subst (RowHolds (journal_after change) r) (λ i. record { since = held.since; kept = held.kept; out = held.out; cache = sym none i })
          (out-holds change is r held holds none)
      go (Some cache) some =
          let count = (right-of change is r held holds cache some).can.one_each in
          subst (RowHolds (journal_after change) r) (λ i. record { since = held.since; kept = held.kept; out = held.out; cache = sym some i })
          (marked-holds change is r held holds held.kept cache cache some refl (by-stays held.kept refl) refl refl
          (sym (marks-stay cache.bundles.items cache.marks.items (omega (arith, count)))))
