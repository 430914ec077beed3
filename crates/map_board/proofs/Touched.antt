-- An edit touches a receiver where it touches one of its paths, or the receiver beside them.
use Rattle.std.proofs.Common.{◌≡◌, Bool, true, false, List, [], ◌∷◌, map, refl, ap, sym, ◌∙◌}
use Rattle.std.specs.Prelude.{◌||◌}
use Rattle.std.specs.List.{list_any}
use Rattle.scene_parts.specs.Parts.{Receiver}
use Rattle.path_calc.specs.Bundles.{Bundle}
use Rattle.path_calc.specs.Show.{bundles_of}
use Rattle.touch_test.specs.Touches.{TracedPath, bundled, edit_touches, is_set, names_receiver, is_source_within, changed_parts, touches_receiver}
use Rattle.touch_test.proofs.Edits.{row-touched}
use Rattle.map_board.specs.declared.edits.renewing.Change.{Change}
use Rattle.map_board.specs.inner.Changes.{scene_before, scene_after, touches_a_path, IsChange}

-- where it is known whether it touches a path
abbrev beside : Change → Receiver → Bool → Bool
beside change r one =
    is_set change.logged.edit
    || names_receiver r.name change.logged.edit change.logged.old
    || list_any (is_source_within change.globals.reach r) (changed_parts change.logged.edit change.logged.old)
    || one

last-of : (a b c : Bool) → true ≡ (a || b || c || true)
last-of true b c = refl
last-of false true c = refl
last-of false false true = refl
last-of false false false = refl

by-a-path : (change : Change) (r : Receiver) → true ≡ beside change r true
by-a-path change r =
    last-of (is_set change.logged.edit) (names_receiver r.name change.logged.edit change.logged.old)
    (list_any (is_source_within change.globals.reach r) (changed_parts change.logged.edit change.logged.old))

any-mapped : (test : TracedPath → Bool) (f : Bundle → TracedPath) (bs : List Bundle) → list_any test (map f bs) ≡ list_any (λ b. test (f b)) bs
any-mapped test f [] = refl
any-mapped test f (b ∷ bs) = ap (λ (rest : Bool). test (f b) || rest) (any-mapped test f bs)

module _ (change : Change) (r : Receiver) (one : Bool) (is : IsChange change) (known : one ≡ touches_a_path change r) where
  pub beside-is : beside change r one ≡ touches_receiver change.logged.edit (scene_before change) r
  beside-is =
      let bundles = bundles_of (scene_before change) r in
      ap (beside change r) (known ∙ sym (any-mapped (edit_touches change.logged.edit change.logged.old) (bundled r) bundles))
      ∙ row-touched change.logged.edit (scene_before change) (scene_after change) change.logged.old change.globals r bundles is.accepted is.globals refl

  pub touched-by-path : one ≡ true → one ≡ touches_receiver change.logged.edit (scene_before change) r
  touched-by-path e =
      e ∙ (by-a-path change r ∙ (ap (beside change r) (sym e) ∙ beside-is))

  pub touched-beside : (found : Bool) → found ≡ beside change r false → one ≡ false → found ≡ touches_receiver change.logged.edit (scene_before change) r
  touched-beside found rest e = rest ∙ (ap (beside change r) (sym e) ∙ beside-is)
