-- Lists that count where a test holds, and else are none.
use Rattle.std.proofs.Common.{◌≡◌, List, [], ◌∷◌, map, filter, ap}
use Rattle.std.specs.Prelude.{Bool, true, false, if◌then◌else◌}

-- a list, or none
abbrev pub where_true : {A : Type 0} → Bool → List A → List A
where_true test xs = if test then xs else []

pub none-counted : {A : Type 0} (test : Bool) (none : List A) → none ≡ [] → none ≡ where_true test []
none-counted true none e = e
none-counted false none e = e

-- a crossing before others, which counts as its obstacle does
pub more-counted : {X A : Type 0} (counts : X → Bool) (edge : X → A) (test : Bool) (x : X) (others : List X) (edges : List A) → counts x ≡ test
    → map edge (filter counts others) ≡ where_true test edges → map edge (filter counts (x ∷ others)) ≡ where_true test (edge x ∷ edges)
more-counted counts edge true x others edges e h = rw e (ap (λ ys. edge x ∷ ys) h)
more-counted counts edge false x others edges e h = rw e h
