-- The marks of bundles none of which an edit touches.
use Rattle.std.proofs.Common.{◌≡◌, Bool, true, false, List, [], ◌∷◌, length, map, refl, ap, ◌∙◌, arith}
use Rattle.std.specs.Prelude.{◌||◌}
use Rattle.std.specs.List.{zip, list_any}
use Rattle.path_calc.specs.Bundles.{Bundle}

or_nothing : (m : Bool) → (m || false) ≡ m
or_nothing true = refl
or_nothing false = refl

neither : (b c : Bool) → (b || c) ≡ false → (b ≡ false) × (c ≡ false)
neither true c h = cc
neither false c h = (refl, h)

pub marks-stay : (touch : Bundle → Bool) (bundles : List Bundle) (marks : List Bool) → length marks ≡ length bundles → list_any touch bundles ≡ false
    → map (λ (kept : Bundle × Bool). kept.1 || touch kept.0) (zip bundles marks) ≡ marks
marks-stay touch [] [] same none = refl
marks-stay touch [] (m ∷ marks) same none = absurd (omega arith)
marks-stay touch (x ∷ bundles) [] same none = absurd (omega arith)
marks-stay touch (x ∷ bundles) (m ∷ marks) same none =
    let both = neither (touch x) (list_any touch bundles) none in
    ap (λ (b : Bool). (m || b) ∷ map (λ (kept : Bundle × Bool). kept.1 || touch kept.0) (zip bundles marks)) both.0
    ∙ ap (λ (b : Bool). b ∷ map (λ (kept : Bundle × Bool). kept.1 || touch kept.0) (zip bundles marks)) (or_nothing m)
    ∙ ap (λ (rest : List Bool). m ∷ rest) (marks-stay touch bundles marks (omega arith) both.1)
