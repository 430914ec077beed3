-- What may be kept for a receiver has one proof at most, as a field that holds it wants.
use Rattle.std.specs.Prelude.{◌≡◌, ℕ, Bool, List, [], ◌∷◌}
use Rattle.std.specs.Coded.{×_prop, Unit-prop, le_prop}
use Rattle.std.proofs.Props.{props}
use Rattle.scene_book.specs.Lists.{AreApart, NoneNamed}
use Rattle.path_calc.specs.Bundles.{Bundle}
use Rattle.path_cache.specs.Refreshed.{CanRefresh}

-- that no thing bears a name has one proof at most
NoneNamed-prop : {A : Type 0} (f : A → List ℕ) (name : List ℕ) (things : List A) → IsProp (NoneNamed f name things)
NoneNamed-prop f name [] = Unit-prop
NoneNamed-prop f name (thing ∷ things) = ×_prop (Prim.hlevel props) (NoneNamed-prop f name things)

-- so has that no two things bear one name
AreApart-prop : {A : Type 0} (f : A → List ℕ) (things : List A) → IsProp (AreApart f things)
AreApart-prop f [] = Unit-prop
AreApart-prop f (thing ∷ things) = ×_prop (NoneNamed-prop f (f thing) things) (AreApart-prop f things)

-- and so has what may be kept
pub CanRefresh-prop : (kept : List Bundle) (marks : List Bool) → IsProp (CanRefresh kept marks)
CanRefresh-prop kept marks g h =
    let one_each : g.one_each ≡ h.one_each = Prim.hlevel props in
    let few = le_prop g.few h.few in
    let apart = AreApart-prop (λ bundle. bundle.source) kept g.apart h.apart in
    λ i. record { one_each = one_each i; few = few i; apart = apart i }
