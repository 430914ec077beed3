-- Rows whose bundles are noted to stand as the sources of a version's scene do.
use Rattle.std.proofs.Common.{◌≡◌, ℕ, suc, ◌<◌, ◌≤◌, ◌⊎◌, inl, inr, Bool, true, false, if◌then◌else◌, List, [], ◌∷◌, ◌++◌, length, Some, None, refl, sym, ap, ◌∙◌, subst, arith, length-append}
use Rattle.std.specs.Prelude.{Option, Ok, IfSome, IsSomeAnd}
use Rattle.std.proofs.lemmas.Bool.{cases_lt}
use Rattle.std.proofs.lemmas.List.{take_all}
use Rattle.scene_parts.specs.declared.parts.Part.{Part}
use Rattle.scene_book.specs.Book.{Book, empty_book}
use Rattle.scene_book.specs.Applying.{apply_of}
use Rattle.scene_book.specs.declared.edits.Edit.{Edit}
use Rattle.path_calc.specs.Bundles.{Bundle}
use Rattle.path_cache.specs.Standing.{AreOfEach}
use Rattle.map_board.specs.declared.rows.caches.Cache.{Cache}
use Rattle.map_board.specs.Journal.{book_after_all, scene_at, newest_scene, scene_left}
use Rattle.map_board.specs.inner.Sources.{LeavesSourceNames}
use Rattle.map_board.specs.inner.Standing.{source_names, NamesStand, IsOrdered}
use Rattle.map_board.proofs.Journals.{newest-more, at-more}

-- a version is noted where something holds
pub noted-if : (holds : Bool) (version : ℕ) (told : Option ℕ) (P : Type 0) → told ≡ (if holds then Some version else None) → (holds ≡ true → P)
    → IfSome told (λ v. (v ≡ version) × P)
noted-if holds version told P is has = subst (λ (o : Option ℕ). IfSome o (λ v. (v ≡ version) × P)) (sym is) (go holds refl) where
  go : (test : Bool) → holds ≡ test → IfSome (if test then Some version else None) (λ v. (v ≡ version) × P)
  go true e = (refl, has e)
  go false e = tt

-- what is noted holds with one edit more
pub ordered-more : (journal : List Edit) (e : Edit) (cache more : Cache) → more.order ≡ cache.order → more.bundles.items ≡ cache.bundles.items
    → IsOrdered journal cache → IsOrdered (journal ++ e ∷ []) more
ordered-more journal e cache more same bundles ordered =
    subst (λ (o : Option ℕ). IfSome o (λ v. (v ≤ length (journal ++ e ∷ [])) × AreOfEach (scene_at (journal ++ e ∷ []) v).sources more.bundles.items)) (sym same)
    (go cache.order ordered) where
      go : (o : Option ℕ) → IfSome o (λ v. (v ≤ length journal) × AreOfEach (scene_at journal v).sources cache.bundles.items)
          → IfSome o (λ v. (v ≤ length (journal ++ e ∷ [])) × AreOfEach (scene_at (journal ++ e ∷ []) v).sources more.bundles.items)
      go None h = tt
      go (Some v) h = (
        omega (arith, h.0, length-append journal (e ∷ [])),
        subst (λ (x : Book × List Bundle). AreOfEach x.0.sources x.1) (λ i. (sym (at-more journal e v h.0) i, sym bundles i)) h.1,
      )

-- what comes back is noted with its version
pub ordered-back : (journal : List Edit) (version : ℕ) (scene : Book) (bundles : List Bundle) (cache : Cache) → version ≤ length journal
    → scene ≡ scene_at journal version → cache.bundles.items ≡ bundles → IfSome cache.order (λ v. (v ≡ version) × AreOfEach scene.sources bundles)
    → IsOrdered journal cache
ordered-back journal version scene bundles cache past at same order = go cache.order order where
  go : (o : Option ℕ) → IfSome o (λ v. (v ≡ version) × AreOfEach scene.sources bundles)
      → IfSome o (λ v. (v ≤ length journal) × AreOfEach (scene_at journal v).sources cache.bundles.items)
  go None h = tt
  go (Some v) h = (
    omega (arith, h.0, past),
    subst (λ (x : ℕ × List Bundle). AreOfEach (scene_at journal x.0).sources x.1) (λ i. (sym h.0 i, sym same i))
        (subst (λ (b : Book). AreOfEach b.sources bundles) at h.1),
  )

-- and holds of the newest scene, where the names of its sources stand since then
pub ordered-newest : (journal : List Edit) (scene : Book) (since : ℕ) (cache : Cache) → scene ≡ newest_scene journal → NamesStand journal since
    → IsOrdered journal cache → IsSomeAnd cache.order (λ v. since ≤ v) → AreOfEach scene.sources cache.bundles.items
ordered-newest journal scene since cache shows names ordered known = go cache.order ordered known where
  go : (o : Option ℕ) → IfSome o (λ v. (v ≤ length journal) × AreOfEach (scene_at journal v).sources cache.bundles.items) → IsSomeAnd o (λ v. since ≤ v)
      → AreOfEach scene.sources cache.bundles.items
  go None h known = absurd known
  go (Some v) h known = h.1 ∙ (names v known h.0 ∙ ap source_names (sym shows))

-- ---- names of sources that stand

module _ (journal : List Edit) (e : Edit) (old : Option Part) (after : Book) (accepted : apply_of e (newest_scene journal) ≡ Ok (after, old)) where
  abbrev grown : List Edit
  grown = journal ++ e ∷ []

  now : newest_scene grown ≡ after
  now = newest-more journal e ∙ ap (scene_left (newest_scene journal)) accepted

  last : (version : ℕ) → length grown ≤ version → scene_at grown version ≡ newest_scene grown
  last version past = ap (λ es. book_after_all es empty_book) (take_all version grown past)

  -- an edit that leaves them
  pub names-more : (since : ℕ) → LeavesSourceNames e old → NamesStand journal since → NamesStand (journal ++ e ∷ []) since
  names-more since leaves stand version from to = go (cases_lt version (length grown)) where
    go : (version < length grown) ⊎ (length grown ≤ version) → source_names (scene_at grown version) ≡ source_names (newest_scene grown)
    go (inl before) =
        let past : version ≤ length journal = omega (arith, before, length-append journal (e ∷ [])) in
        ap source_names (at-more journal e version past)
        ∙ (stand version from past ∙ (sym (leaves (newest_scene journal) after accepted) ∙ ap source_names (sym now)))
    go (inr past) = ap source_names (last version past)

  -- since its own version they stand after any edit
  pub names-anew : NamesStand (journal ++ e ∷ []) (suc (length journal))
  names-anew version from to = ap source_names (last version (omega (arith, from, length-append journal (e ∷ []))))

  -- so they do since the version that is told
  pub names-after : (since told version : ℕ) → version ≡ suc (length journal) → (told ≡ version) ⊎ ((told ≡ since) × LeavesSourceNames e old) → NamesStand journal since
      → NamesStand (journal ++ e ∷ []) told
  names-after since told version newest (inl anew) stand = subst (NamesStand grown) (sym (anew ∙ newest)) names-anew
  names-after since told version newest (inr same) stand = subst (NamesStand grown) (sym same.0) (names-more since same.1 stand)
