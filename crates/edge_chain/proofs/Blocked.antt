-- The segments of a chain, one after another.
use Rattle.std.proofs.Common.{◌≡◌, ℕ, ◌+◌, ◌<◌, ◌≤◌, Bool, true, false, ap, sym, refl, ◌∙◌, List, [], ◌∷◌, ◌++◌, length, get_or, drop}
use Rattle.std.specs.Prelude.{◌||◌}
use Rattle.std.specs.List.{list_any}
use Rattle.scene_geom.specs.declared.plan.Pt.{Pt}
use Rattle.scene_geom.specs.declared.plan.Side.{Side}
use Rattle.scene_geom.specs.Crossing.{blocks_of}
use Rattle.scene_geom.specs.Outline.{sides_along}
use Rattle.scene_geom.proofs.OutlineLemmas.{sides-step, sides-last}

-- whether a side blocks one of some segments
abbrev pub any_blocked : Side → List Side → Bool
any_blocked side segments = list_any (λ segment. blocks_of side segment.from segment.to) segments

-- the segments that are left at a point
abbrev pub left_at : Pt → List Pt → ℕ → Pt → List Side
left_at from chain i r = sides_along (from ∷ (drop i chain ++ r ∷ []))

pub any-step : (side : Side) (from r next : Pt) (chain : List Pt) (i : ℕ) → next ≡ get_or chain i next → i < length chain
    → any_blocked side (left_at from chain i r) ≡ (blocks_of side from next || any_blocked side (left_at next chain (i + 1) r))
any-step side from r next chain i is below = ap (any_blocked side) (sides-step r from next chain i is below)

pub any-last : (side : Side) (from r : Pt) (chain : List Pt) (i : ℕ) → length chain ≤ i → any_blocked side (left_at from chain i r) ≡ blocks_of side from r
any-last side from r chain i past = ap (any_blocked side) (sides-last r from chain i past) ∙ alone (blocks_of side from r) where
  alone : (b : Bool) → (b || false) ≡ b
  alone true = refl
  alone false = refl

-- what is known of all segments, where the next one is blocked and where it isn't
pub next-blocked : (side : Side) (from r next : Pt) (chain : List Pt) (i : ℕ) (total test : Bool) → any_blocked side (left_at from chain i r) ≡ total
    → next ≡ get_or chain i next → i < length chain → test ≡ blocks_of side from next → test ≡ true → true ≡ total
next-blocked side from r next chain i total test all is below e true_is =
    ap (λ t. t || any_blocked side (left_at next chain (i + 1) r)) (sym true_is ∙ e) ∙ sym (any-step side from r next chain i is below) ∙ all

pub next-passed : (side : Side) (from r next : Pt) (chain : List Pt) (i : ℕ) (total test : Bool) → any_blocked side (left_at from chain i r) ≡ total
    → next ≡ get_or chain i next → i < length chain → test ≡ blocks_of side from next → test ≡ false → any_blocked side (left_at next chain (i + 1) r) ≡ total
next-passed side from r next chain i total test all is below e false_is =
    ap (λ t. t || any_blocked side (left_at next chain (i + 1) r)) (sym false_is ∙ e) ∙ sym (any-step side from r next chain i is below) ∙ all
