-- Sums of formulas: how they go on, by what their intervals are known, and where they are sound.
use Rattle.std.proofs.Common.{◌≡◌, refl, sym, ap, ◌∙◌, List, [], ◌∷◌}
use Rattle.std.specs.Prelude.{map}
use Rattle.fix_interval.specs.Interval.{Interval}
use Rattle.fix_interval.specs.Tree.{Tree, Known, Add, IsSound, enc}
use Rattle.fix_interval.specs.Values.{add_of}
use Rattle.path_shape.specs.Forms.{plus_all}

-- a sum goes on from what is known of it
pub plus_all-known : (total : Tree) (terms : List Tree) → enc (plus_all total terms) ≡ enc (plus_all (Known (enc total)) terms)
plus_all-known total [] = refl
plus_all-known total (term ∷ terms) =
    plus_all-known (Add total term) terms ∙ sym (plus_all-known (Add (Known (enc total)) term) terms)

-- the sum of a known total and known terms
sum_of : Interval → List Interval → Interval
sum_of total [] = total
sum_of total (term ∷ terms) = sum_of (add_of total term) terms

enc-plus_all : (total : Tree) (terms : List Tree) → enc (plus_all total terms) ≡ sum_of (enc total) (map enc terms)
unfolding sum_of
enc-plus_all total [] = refl
enc-plus_all total (term ∷ terms) = enc-plus_all (Add total term) terms

-- terms of the same intervals have the same sum
pub same-sum : (total total' : Tree) (terms terms' : List Tree) → enc total ≡ enc total' → map enc terms ≡ map enc terms'
    → enc (plus_all total terms) ≡ enc (plus_all total' terms')
same-sum total total' terms terms' e f =
    enc-plus_all total terms
    ∙ ap (λ (i : Interval). sum_of i (map enc terms)) e
    ∙ ap (sum_of (enc total')) f
    ∙ sym (enc-plus_all total' terms')

same-map : {X : Type 0} (f g : X → Tree) → ((x : X) → enc (f x) ≡ enc (g x)) → (xs : List X) → map enc (map f xs) ≡ map enc (map g xs)
same-map f g same [] = refl
same-map f g same (x ∷ xs) = rw (same x, same-map f g same xs)

pub same-plus_all : {X : Type 0} (total total' : Tree) (f g : X → Tree) → enc total ≡ enc total' → ((x : X) → enc (f x) ≡ enc (g x)) → (xs : List X)
    → enc (plus_all total (map f xs)) ≡ enc (plus_all total' (map g xs))
same-plus_all total total' f g e same xs = same-sum total total' (map f xs) (map g xs) e (same-map f g same xs)

pub sound-sum : {X : Type 0} (f : X → Tree) → ((x : X) → IsSound (f x)) → (total : Tree) → IsSound total → (xs : List X) → IsSound (plus_all total (map f xs))
sound-sum f each total h [] = h
sound-sum f each total h (x ∷ xs) = sound-sum f each (Add total (f x)) (h, each x) xs
