-- Scenes of the same parts, whatever their orders.
use Rattle.std.specs.Prelude.{◌≡◌, List, ◌∷◌}
use Rattle.scene_book.specs.Book.{Book, OfEachSlot}

-- two lists with the same members, each as often, in any order
pub data Shuffled {A : Type 0} : List A → List A → Type 0 where
  same : (xs : List A) → Shuffled xs xs
  under : (x : A) {xs ys : List A} → Shuffled xs ys → Shuffled (x ∷ xs) (x ∷ ys)
  exchange : (x y : A) (xs : List A) → Shuffled (x ∷ y ∷ xs) (y ∷ x ∷ xs)
  after : {xs ys zs : List A} → Shuffled xs ys → Shuffled ys zs → Shuffled xs zs

-- the same parts in each list, and the same globals
pub record SameParts (a b : Book) : Type 0 where
  pub lists : OfEachSlot (λ A slot. Shuffled (slot.list_of a) (slot.list_of b))
  pub globals : b.globals ≡ a.globals
