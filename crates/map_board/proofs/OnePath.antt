-- Marks by an edit that touches the paths from one source, where its bundle stands at a known place.
use Rattle.std.proofs.Common.{◌≡◌, ℕ, zero, suc, Bool, true, false, List, [], ◌∷◌, length, map, set, Some, None, refl, sym, ap, ◌∙◌, subst, arith}
use Rattle.std.specs.Prelude.{bytes_eq, slice_get, IsSomeAnd, Option, ◌||◌}
use Rattle.std.specs.List.{zip, list_any}
use Rattle.scene_parts.specs.Parts.{Receiver}
use Rattle.scene_parts.specs.declared.parts.Part.{Part}
use Rattle.scene_book.specs.declared.edits.Edit.{Edit}
use Rattle.touch_test.specs.Touches.{bundled}
use Rattle.scene_book.specs.Lists.{NoneNamed, AreApart}
use Rattle.path_calc.specs.Bundles.{Bundle}
use Rattle.map_board.specs.inner.Marks.{is_from, marks_from, marks_after, touches_one, TouchesFrom}
use Rattle.map_board.proofs.Naming.{turned, itself}

or-same : (m t : Bool) → t ≡ false → m ≡ (m || t)
or-same true t plain = refl
or-same false t plain = sym plain

or-set : (m t : Bool) → t ≡ true → true ≡ (m || t)
or-set true t set = refl
or-set false t set = sym set

-- where none bears the name, the marks stay
none-from : (name : List ℕ) (bs : List Bundle) (ms : List Bool) → NoneNamed (λ (b : Bundle). b.source) name bs → length ms ≡ length bs → ms ≡ marks_from name bs ms
none-from name [] [] none same = refl
none-from name [] (m ∷ ms) none same = absurd (omega (arith, same))
none-from name (b ∷ bs) [] none same = absurd (omega (arith, same))
none-from name (b ∷ bs) (m ∷ ms) none same =
    λ i. or-same m (bytes_eq name b.source) none.0 i ∷ none-from name bs ms none.1 (omega (arith, same)) i

-- one that stands among those of which none bears a name doesn't
not-named : (name : List ℕ) (bs : List Bundle) (k : ℕ) (b : Bundle) → NoneNamed (λ (b : Bundle). b.source) name bs → slice_get bs k ≡ Some b → bytes_eq name b.source ≡ false
not-named name [] k b none there = absurd (cc there)
not-named name (x ∷ xs) zero b none there =
    let is : x ≡ b = cc there in ap (λ (y : Bundle). bytes_eq name y.source) (sym is) ∙ none.0
not-named name (x ∷ xs) (suc k) b none there = not-named name xs k b none.1 there

-- that bundle's mark is set, and no other
pub marked-at : (bs : List Bundle) (ms : List Bool) (k : ℕ) (b : Bundle) → AreApart (λ (b : Bundle). b.source) bs → length ms ≡ length bs → slice_get bs k ≡ Some b
    → set ms k true ≡ marks_from b.source bs ms
marked-at [] ms k b apart same there = absurd (cc there)
marked-at (x ∷ xs) [] k b apart same there = absurd (omega (arith, same))
marked-at (x ∷ xs) (m ∷ ms) zero b apart same there =
    let is : x ≡ b = cc there in
    let named : bytes_eq b.source x.source ≡ true = ap (λ (y : Bundle). bytes_eq b.source y.source) is ∙ itself b.source in
    let none : NoneNamed (λ (b : Bundle). b.source) b.source xs = subst (λ (y : Bundle). NoneNamed (λ (b : Bundle). b.source) y.source xs) is apart.0 in
    λ i. or-set m (bytes_eq b.source x.source) named i ∷ none-from b.source xs ms none (omega (arith, same)) i
marked-at (x ∷ xs) (m ∷ ms) (suc k) b apart same there =
    let other : bytes_eq b.source x.source ≡ false = turned x.source b.source (not-named x.source xs k b apart.0 there) in
    λ i. or-same m (bytes_eq b.source x.source) other i ∷ marked-at xs ms k b apart.1 (omega (arith, same)) there i

any-step : (t rest : Bool) → rest ≡ true → (t || rest) ≡ true
any-step true rest some = refl
any-step false rest some = some

any-here : (t rest : Bool) → t ≡ true → (t || rest) ≡ true
any-here true rest some = refl
any-here false rest some = absurd (cc some)

-- there is one
pub one-at : (bs : List Bundle) (k : ℕ) (b : Bundle) → slice_get bs k ≡ Some b → list_any (is_from b.source) bs ≡ true
one-at [] k b there = absurd (cc there)
one-at (x ∷ xs) zero b there =
    let is : x ≡ b = cc there in
    any-here (bytes_eq b.source x.source) (list_any (is_from b.source) xs) (ap (λ (y : Bundle). bytes_eq b.source y.source) is ∙ itself b.source)
one-at (x ∷ xs) (suc k) b there = any-step (bytes_eq b.source x.source) (list_any (is_from b.source) xs) (one-at xs k b there)

-- ---- by an edit that touches the paths from that source

module _ (edit : Edit) (old : Option Part) (r : Receiver) (bs : List Bundle) (k : ℕ) (touched : IsSomeAnd (slice_get bs k) (λ b. TouchesFrom b.source edit old)) where
  pub one-marked : (ms : List Bool) → AreApart (λ (b : Bundle). b.source) bs → length ms ≡ length bs → set ms k true ≡ marks_after edit old r bs ms
  one-marked ms apart same = go (slice_get bs k) refl touched where
    go : (o : Option Bundle) → slice_get bs k ≡ o → IsSomeAnd o (λ b. TouchesFrom b.source edit old) → set ms k true ≡ marks_after edit old r bs ms
    go None there h = absurd h
    go (Some b) there h =
        marked-at bs ms k b apart same there
        ∙ (λ i. map (λ (kept : Bundle × Bool). kept.1 || sym (h (bundled r kept.0)) i) (zip bs ms))

  pub one-is-touched : true ≡ touches_one edit old r bs
  one-is-touched = go (slice_get bs k) refl touched where
    go : (o : Option Bundle) → slice_get bs k ≡ o → IsSomeAnd o (λ b. TouchesFrom b.source edit old) → true ≡ touches_one edit old r bs
    go None there h = absurd h
    go (Some b) there h =
        sym (one-at bs k b there)
        ∙ (λ i. list_any (λ (bundle : Bundle). sym (h (bundled r bundle)) i) bs)
