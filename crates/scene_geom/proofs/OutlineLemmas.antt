-- The sides of an outline, one after another.
use Rattle.std.proofs.Common.{◌≡◌, ℕ, suc, ◌+◌, ◌<◌, ◌≤◌, ap, sym, ◌∙◌, refl, List, [], ◌∷◌, ◌++◌, length, get_or, drop, drop-cons, add-one}
use Rattle.std.specs.Prelude.{ℤ, ◌-ℤ◌, map}
use Rattle.std.specs.List.{fold}
use Rattle.std.specs.Int.{int_max, int_min}
use Rattle.std.proofs.lemmas.List.{drop_all}
use Rattle.scene_geom.specs.declared.plan.Pt.{Pt}
use Rattle.scene_geom.specs.Point.{orient_of}
use Rattle.scene_geom.specs.Outline.{sides_along, extent_of}

-- the sides that are left at a corner, and what they are after the next side
pub sides-step : (first corner next : Pt) (rest : List Pt) (i : ℕ) → next ≡ get_or rest i next → i < length rest
    → sides_along (corner ∷ (drop i rest ++ first ∷ [])) ≡ record { from = corner; to = next } ∷ sides_along (next ∷ (drop (i + 1) rest ++ first ∷ []))
sides-step first corner next rest i e h =
    rw (drop-cons rest i next, add-one)
    (ap (λ (p : Pt). sides_along (corner ∷ (p ∷ (drop (suc i) rest ++ first ∷ [])))) (sym e))

-- the numbers that are left at a place, and a fold over them
pub map-step : (f : Pt → ℤ) (next : Pt) (rest : List Pt) (i : ℕ) → next ≡ get_or rest i next → i < length rest
    → map f (drop i rest) ≡ f next ∷ map f (drop (i + 1) rest)
map-step f next rest i e h =
    rw (drop-cons rest i next, add-one) (ap (λ (p : Pt). f p ∷ map f (drop (suc i) rest)) (sym e))

pub fold-step : (op : ℤ → ℤ → ℤ) (m m' h total : ℤ) (hs hs' : List ℤ) → hs ≡ h ∷ hs' → m' ≡ op m h → fold op m hs ≡ total → fold op m' hs' ≡ total
fold-step op m m' h total hs hs' e f g = ap (λ (a : ℤ). fold op a hs') f ∙ sym (ap (fold op m) e) ∙ g

pub fold-end : (op : ℤ → ℤ → ℤ) (f : Pt → ℤ) (m total : ℤ) (rest : List Pt) (i : ℕ) → length rest ≤ i → fold op m (map f (drop i rest)) ≡ total → m ≡ total
fold-end op f m total rest i h g = rw (drop_all i rest h) at g

pub spread-cons : (points : List Pt) (first : Pt) (rest : List Pt) (p q : Pt) (greatest least high : ℤ) → points ≡ first ∷ rest → high ≡ orient_of p q first
    → greatest ≡ fold int_max high (map (orient_of p q) rest) → least ≡ fold int_min high (map (orient_of p q) rest) → greatest -ℤ least ≡ extent_of points p q
spread-cons points first rest p q greatest least high e h g l = rw (e, ← h, ← g, ← l) refl

pub sides-last : (first corner : Pt) (rest : List Pt) (i : ℕ) → length rest ≤ i
    → sides_along (corner ∷ (drop i rest ++ first ∷ [])) ≡ record { from = corner; to = first } ∷ []
sides-last first corner rest i h = rw (drop_all i rest h) refl
