-- Laws of chains.
use Rattle.std.specs.Prelude.{◌≡◌, ◌↔◌, ℕ, ◌+◌, ◌≤◌, ◌-ℤ◌, unsigned_abs, List, [], ◌∷◌, ◌++◌}
use Rattle.scene_geom.specs.declared.plan.Pt.{Pt}
use Rattle.edge_chain.specs.declared.hand.Hand.{Hand}
use Rattle.edge_chain.specs.Chain.{IsChain, points_beside}

-- two lists that are the chain of the same points are one list
abbrev pub OneChain : Type 0
OneChain = (points : List Pt) (s r : Pt) (hand : Hand) (a b : List Pt)
    → IsChain points s r hand a → IsChain points s r hand b → a ≡ b

-- a chain has no point exactly where none lies strictly on the hand
abbrev pub EmptyWhereNone : Type 0
EmptyWhereNone = (points : List Pt) (s r : Pt) (hand : Hand) (chain : List Pt)
    → IsChain points s r hand chain → (chain ≡ []) ↔ (points_beside points s r hand ≡ [])

-- how far a line of points leads along both axes of the plan together, there and back alike, in mm
abbrev pub way_along_axes : List Pt → ℕ
way_along_axes (a ∷ b ∷ rest) = (unsigned_abs (b.x -ℤ a.x) + unsigned_abs (b.y -ℤ a.y)) + way_along_axes (b ∷ rest)
way_along_axes ends = 0

-- however many points a chain has, it leads no farther than 6 times as far as the plan is wide
abbrev pub ChainsAreShort : Type 0
ChainsAreShort = (points : List Pt) (s r : Pt) (hand : Hand) (chain : List Pt)
    → IsChain points s r hand chain → way_along_axes (s ∷ (chain ++ r ∷ [])) ≤ 48000000
