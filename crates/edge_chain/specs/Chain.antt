-- The way round the sides of obstacles (ISO 9613-2, 7.4, equation 13): a string stretched from a source S to a receiver
-- R round all points strictly on one hand of the line from S to R. It is told by the list of points at which it turns,
-- the chain. Nothing here says how it is found: a list is a chain where it passes the tests below.
use Rattle.std.specs.Prelude.{◌≡◌, ℕ, zero, suc, ℤ, pos, neg_ℤ, int_lt, Bool, true, not, ◌&&◌, List, [], ◌∷◌, ◌++◌, length, map, filter, flat_map, find, All, Contains, unwrap_or}
use Rattle.std.specs.List.{list_all, list_any}
use Rattle.scene_geom.specs.declared.plan.Pt.{Pt}
use Rattle.scene_geom.specs.declared.plan.Side.{Side}
use Rattle.scene_geom.specs.Point.{orient_of}
use Rattle.scene_geom.specs.Crossing.{blocks_of}
use Rattle.scene_geom.specs.Outline.{sides_along}
use Rattle.edge_chain.specs.declared.hand.Hand.{Hand}
use Rattle.edge_chain.specs.declared.hand.Hand.TheVariants.{Left, Right}

-- ---- hands

-- how far p lies to a hand of the line from a to b, times the length of that way
abbrev pub off_line : Hand → Pt → Pt → Pt → ℤ
off_line Left a b p = orient_of a b p
off_line Right a b p = neg_ℤ (orient_of a b p)

-- whether p lies strictly on a hand of the line from a to b
abbrev pub is_beside : Hand → Pt → Pt → Pt → Bool
is_beside hand a b p = int_lt (pos 0) (off_line hand a b p)

-- the points that lie strictly on a hand of the line from S to R
abbrev pub points_beside : List Pt → Pt → Pt → Hand → List Pt
points_beside points s r hand = filter (is_beside hand s r) points

-- ---- chains

-- the segments of a chain: from S to its first point, on from point to point, and from its last point to R. Where the
-- chain has no point, the one segment leads from S to R
abbrev pub segments_of : List Pt → Pt → Pt → List Side
segments_of chain s r = sides_along (s ∷ (chain ++ r ∷ []))

-- whether a line of points turns strictly away from a hand at each point between its ends
abbrev pub turns_away : Hand → List Pt → Bool
turns_away hand (a ∷ b ∷ c ∷ rest) = int_lt (off_line hand a b c) (pos 0) && turns_away hand (b ∷ c ∷ rest)
turns_away hand ends = true

-- whether none of some points lies strictly on a hand of a segment
abbrev pub is_outermost : Hand → List Pt → Side → Bool
is_outermost hand points side = list_all (λ p. not (is_beside hand side.from side.to p)) points

-- whether the string from S by way of a list of points to R is stretched round the points beside: it turns strictly
-- away from the hand at each point of the list, and none of the points beside, nor S nor R, is strictly outside of it
abbrev pub is_stretched : List Pt → Pt → Pt → Hand → List Pt → Bool
is_stretched beside s r hand chain =
    turns_away hand (s ∷ (chain ++ r ∷ []))
    && list_all (is_outermost hand (s ∷ r ∷ beside)) (segments_of chain s r)

-- a list is the chain of points on a hand of the line from S to R
pub record IsChain (points : List Pt) (s r : Pt) (hand : Hand) (chain : List Pt) : Type 0 where
  pub members : All (Contains (points_beside points s r hand)) chain
  pub stretched : is_stretched (points_beside points s r hand) s r hand chain ≡ true

-- whether a side blocks a segment of a chain, so that the chain is no path where the side is in the way
abbrev pub blocks_chain : List Pt → Pt → Pt → Side → Bool
blocks_chain chain s r side = list_any (λ segment. blocks_of side segment.from segment.to) (segments_of chain s r)

-- ---- the chain as a value

-- all lists of at most n points out of some
abbrev pub lists_over : ℕ → List Pt → List (List Pt)
lists_over zero points = [] ∷ []
lists_over (suc n) points = [] ∷ flat_map (λ p. map (λ rest. p ∷ rest) (lists_over n points)) points

-- the one list over the points strictly on the hand that is stretched round them
unfoldable pub chain_of : List Pt → Pt → Pt → Hand → List Pt
chain_of points s r hand =
    let beside = points_beside points s r hand in
    unwrap_or (find (is_stretched beside s r hand) (lists_over (length beside) beside)) []
