-- Scenes lead to scenes.
use Rattle.std.proofs.lemmas.List.Elements.{All-nil, All-cons, All-head, All-tail}
use Rattle.std.proofs.Common.{◌≡◌, ℕ, ◌+◌, ◌≤◌, refl, sym, subst, arith, Bool, true, false, cond, List, [], ◌∷◌, length}
use Rattle.std.specs.Prelude.{bytes_eq, Option, Some, None, IfSome, unwrap_or, All}
use Rattle.scene_parts.specs.Parts.{Setting, Globals, IsSetting, AreGlobals, IsReach, IsGroundFactor, IsWeatherFactor, globals_with, sides_of}
use Rattle.scene_parts.specs.declared.parts.Part.{Part}
use Rattle.scene_parts.specs.declared.parts.Part.TheVariants as parts
use Rattle.scene_book.specs.declared.edits.Edit.TheVariants as edits
use Rattle.scene_book.specs.Lists.{named, put_in, take_out, total}
use Rattle.scene_book.specs.Book.{Book, IsWithin, empty_book, with_setting}
use Rattle.scene_book.specs.Grid.{receivers_of}
use Rattle.scene_book.specs.Applying.{name_of, with_part, without}
use Rattle.scene_book.specs.Orders.{Shuffled, SameParts}
use Rattle.scene_book.specs.Orders.Shuffled.{same, under, exchange, after}
use Rattle.scene_book.proofs.ListLemmas.{length-take_out}
use Rattle.scene_undo.specs.Scenes.{HasOneNameSpace, IsScene, IsEdit}
use Rattle.scene_undo.specs.Laws.{SceneIsKept}
use Rattle.scene_undo.proofs.Maps.{shuffled-length, shuffled-total}
use Rattle.scene_undo.proofs.Spaces.{IsMap, one-from, one-to, put-map, take-map, same-map}
use Rattle.scene_undo.proofs.Accepting.{put-accepted, remove-accepted, grid-accepted, set-accepted, put-within, puts_in}
use Rattle.scene_undo.proofs.Grids.{all-kin, grid-map}

-- ---- what holds of every thing of a list

module _ {A : Type 0} (P : A → Type 0) where
  pub all-shuffled : (xs ys : List A) → Shuffled xs ys → All P xs → All P ys
  all-shuffled _ _ (same xs) all = all
  all-shuffled _ _ (under x {xs} {ys} h) all =
      All-cons P x ys (All-head P x xs all) (all-shuffled xs ys h (All-tail P x xs all))
  all-shuffled _ _ (exchange x y xs) all =
      let rest : All P (y ∷ xs) = All-tail P x (y ∷ xs) all in
      All-cons P y (x ∷ xs) (All-head P y xs rest) (All-cons P x xs (All-head P x (y ∷ xs) all) (All-tail P y xs rest))
  all-shuffled _ _ (after {xs} {ys} {zs} h k) all = all-shuffled ys zs k (all-shuffled xs ys h all)

module _ {A : Type 0} (P : A → Type 0) (name_of : A → List ℕ) where
  pub all-put : (new : A) (xs : List A) → P new → All P xs → All P (put_in name_of new xs)
  all-put new [] is all = All-cons P new [] is (All-nil P)
  all-put new (x ∷ xs) is all =
      by (bytes_eq (name_of new) (name_of x)) (all-put new xs is (All-tail P x xs all))
    where
      by : (t : Bool) → All P (put_in name_of new xs) → All P (cond t (new ∷ xs) (x ∷ put_in name_of new xs))
      by true rest = All-cons P new xs is (All-tail P x xs all)
      by false rest = All-cons P x (put_in name_of new xs) (All-head P x xs all) rest

  pub all-take : (gone : List ℕ) (xs : List A) → All P xs → All P (take_out name_of gone xs)
  all-take gone [] all = all
  all-take gone (x ∷ xs) all = by (bytes_eq gone (name_of x)) (all-take gone xs (All-tail P x xs all))
    where
      by : (t : Bool) → All P (take_out name_of gone xs) → All P (cond t xs (x ∷ take_out name_of gone xs))
      by true rest = All-tail P x xs all
      by false rest = All-cons P x (take_out name_of gone xs) (All-head P x xs all) rest

  pub all-found : (name : List ℕ) (x : A) (xs : List A) → named name_of name xs ≡ Some x → All P xs → P x
  all-found name x [] e all = cc
  all-found name x (y ∷ ys) e all =
      by (bytes_eq name (name_of y)) (λ found. all-found name x ys found (All-tail P y ys all)) e
    where
      by : (t : Bool) → (named name_of name ys ≡ Some x → P x) → cond t (Some y) (named name_of name ys) ≡ Some x → P x
      by true later e = let is : y ≡ x = cc in subst P is (All-head P y ys all)
      by false later e = later e

total-take : {A : Type 0} (name_of : A → List ℕ) (f : A → ℕ) (gone : List ℕ) (xs : List A)
    → total f (take_out name_of gone xs) ≤ total f xs
total-take name_of f gone [] = omega arith
total-take name_of f gone (x ∷ xs) = by (bytes_eq gone (name_of x)) (total-take name_of f gone xs)
  where
    by : (t : Bool) → total f (take_out name_of gone xs) ≤ total f xs
        → total f (cond t xs (x ∷ take_out name_of gone xs)) ≤ f x + total f xs
    by true less = omega arith
    by false less = omega arith

-- ---- the limits

take-within : (gone : List ℕ) (part : Part) (a : Book) → IsWithin a → IsWithin (without gone part a)
take-within gone (parts.Obstacle o) a h =
    omega (arith, h, length-take_out (λ x. x.name) gone a.obstacles, total-take (λ x. x.name) (λ x. length (sides_of x)) gone a.obstacles)
take-within gone part a h = omega (arith, h, length-take_out)

-- no order changes the counts
pub same-within : (a b : Book) → SameParts a b → IsWithin a → IsWithin b
same-within a b h within =
    omega (arith, within, h, shuffled-length, shuffled-total (λ x. length (sides_of x)) a.obstacles b.obstacles h.lists.obstacles)

-- ---- globals

pub put-globals : (part : Part) (a : Book) → (with_part part a).globals ≡ a.globals
put-globals (parts.Source s) a = refl
put-globals part a = refl

pub take-globals : (gone : List ℕ) (part : Part) (a : Book) → (without gone part a).globals ≡ a.globals
take-globals gone (parts.Source s) a = refl
take-globals gone part a = refl

either : (P : ℕ → Type 0) (given : Option ℕ) (old : ℕ) → IfSome given P → P old → P (unwrap_or given old)
either P None old is was = was
either P (Some n) old is was = is

set-globals : (setting : Setting) (globals : Globals) → IsSetting setting → AreGlobals globals → AreGlobals (globals_with setting globals)
set-globals setting globals is was = record {
  reach = either IsReach setting.reach globals.reach is.reach was.reach;
  ground_factor = either IsGroundFactor setting.g globals.g is.ground_factor was.ground_factor;
  c0 = either IsWeatherFactor setting.c0 globals.c0 is.c0 was.c0;
}

-- ---- scenes

pub scene-map : (a : Book) → IsScene a → IsMap a
scene-map a is = record { apart = is.apart; one = one-from a is.one }

pub empty-scene : IsScene empty_book
empty-scene = search (All-nil, within, one, globals)
  where
    within : IsWithin empty_book
    within = omega arith

    one : HasOneNameSpace empty_book
    one name = omega arith

    globals : AreGlobals empty_book.globals
    globals = omega arith

-- a scene in another order is a scene
pub scene-same : (a b : Book) → SameParts a b → IsScene a → IsScene b
scene-same a b h is =
    let map = same-map a b h (scene-map a is) in
    search (same-within a b h is.within, map.0, one-to b map.0.one, all-shuffled, subst AreGlobals (sym h.globals) is.globals)

-- a scene with a part put into it or taken out of it, where it is within the limits and each name is borne by one part alone
scene-put : (part : Part) (a : Book) → IsEdit (edits.Put part) → IsScene a → IsWithin (with_part part a) → IsMap (with_part part a)
    → IsScene (with_part part a)
scene-put (parts.Source s) a is-edit is within map = search (one-to (with_part (parts.Source s) a) map.one)
scene-put part a is-edit is within map = search (one-to (with_part part a) map.one, all-put)

scene-taken : (gone : List ℕ) (part : Part) (a : Book) → IsScene a → IsWithin (without gone part a) → IsMap (without gone part a)
    → IsScene (without gone part a)
scene-taken gone (parts.Source s) a is within map = search (one-to (without gone (parts.Source s) a) map.one)
scene-taken gone part a is within map = search (one-to (without gone part a) map.one, all-take)

pub scene-kept : SceneIsKept
scene-kept (edits.Put part) a b old is-edit is e =
    let put = put-accepted part a b old e in
    subst IsScene put.made
    (scene-put part a is-edit is (put-within part a is.within put.room) (put-map part a (scene-map a is) put.kin))
scene-kept (edits.Remove name) a b old is-edit is e =
    let removed = remove-accepted name a b old e in
    subst IsScene removed.made
    (scene-taken name removed.part a is (take-within name removed.part a is.within)
    (take-map name removed.part a (scene-map a is) removed.found))
scene-kept (edits.Grid grid) a b old is-edit is e =
    let put = grid-accepted grid a b old e in
    let map : IsMap (puts_in (receivers_of grid) a) =
    grid-map (receivers_of grid) a (scene-map a is) (all-kin a (receivers_of grid) put.own) in
    let within : IsWithin (puts_in (receivers_of grid) a) = omega (arith, is.within, put.room) in
    subst IsScene put.made (search (within, map, one-to (puts_in (receivers_of grid) a) map.one, is))
scene-kept (edits.Set setting) a b old is-edit is e =
    let within : IsWithin (with_setting setting a) = omega (arith, is.within) in
    subst IsScene (set-accepted setting a b old e) (search (within, is.one, set-globals setting a.globals is-edit is.globals, is))
