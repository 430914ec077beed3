-- What the bands of a path share, as the code keeps it, and the
-- greatest of intervals that are found one after another.
use Rattle.std.specs.Prelude.{◌≡◌, ℕ, pos, suc, List, [], ◌∷◌, ◌++◌, map, filter, drop, Bool, false, ◌&&◌, Option, Some, None, IsSome, IsSomeAnd, unwrap_or, slice_get}
use Rattle.std.specs.List.{All}
use Rattle.fix_interval.specs.Interval.{Interval, IsInterval}
use Rattle.fix_interval.specs.Values.{max_of, mul_of, less_of, pick_of}
use Rattle.fix_interval.specs.declared.truth.Truth.{Truth}
use Rattle.fix_interval.specs.declared.truth.Truth.TheVariants.{Sure, Never, Unsure}
use Rattle.fix_interval.specs.Tree.{Known, Const, Add, Sub, Mul, Root, enc}
use Rattle.scene_geom.specs.declared.band.Band.{Band}
use Rattle.scene_parts.specs.declared.screening.edge.Edge.{Edge}
use Rattle.path_shape.specs.declared.path.Path.{Path}
use Rattle.term_barrier.specs.declared.single.passage.EdgePassage.{EdgePassage}
use Rattle.term_barrier.specs.declared.single.SingleDiffraction.{SingleDiffraction}
use Rattle.term_barrier.specs.declared.pair.DoubleDiffraction.{DoubleDiffraction}
use Rattle.term_barrier.specs.declared.pair.edge_pair.EdgePair.{EdgePair}
use Rattle.term_barrier.specs.Diffraction.{whole, at_one_edge, three_and, attenuation, single_limit, double_limit}
use Rattle.term_barrier.specs.Edges.{FitsEdge, across, beside, place, rest, rise, distance_to, source_to_edge, single_difference, single_k, single_argument, where_convex, pair_attenuation}
use Rattle.term_barrier.specs.inner.Reaching.{two_edges}
use Rattle.term_barrier.specs.Screening.{edges_in, is_above, edges_above, marked, pairs_of, less_ground, grazing}

-- ---- edges

-- how a path passes an edge
abbrev pub passage_of : Path → Edge → EdgePassage
passage_of path edge = record {
  edge = edge;
  place = enc (place edge);
  rest = enc (rest edge);
  before = enc (distance_to (Known path.dp) edge);
  behind = enc (Sub (Known path.dp) (distance_to (Known path.dp) edge));
  height = enc (Const (pos edge.h) 1000);
  over_source = enc (rise edge.h path.hs);
  over_receiver = enc (rise edge.h path.hr);
  x = enc (across edge);
  y_square = enc (Mul (beside edge) (beside edge));
  d_ss = enc (source_to_edge path (across edge) edge);
}

-- the length of a way that is so long in plan and rises so much
abbrev pub slant_of : Interval → Interval → Interval
slant_of length rise = enc (Root (Add (Mul (Known length) (Known length)) (Mul (Known rise) (Known rise))))

-- and z and K_met of the edge alone
abbrev pub single_of : Path → Interval → Edge → SingleDiffraction
single_of path d edge = record {
  passage = passage_of path edge;
  z = enc (single_difference path edge (Known d));
  k = enc (single_k path edge (Known d));
}

-- what stands under the logarithm of an edge whose z and K_met are known
abbrev pub known_argument : Band → SingleDiffraction → Interval
known_argument band single = enc (three_and (Mul (at_one_edge band (Known single.z)) (Known single.k)))

-- and D_z of it
abbrev pub known_single : Band → SingleDiffraction → Interval
known_single band single = enc (attenuation single_limit (Known (known_argument band single)))

abbrev pub single_is_above : SingleDiffraction → Bool
single_is_above single = is_above single.passage.edge

-- ---- two edges

-- both statements hold
abbrev pub both_of : Truth → Truth → Truth
both_of Never b = Never
both_of Sure b = b
both_of Unsure Never = Never
both_of Unsure Sure = Unsure
both_of Unsure Unsure = Unsure

-- whether sound bends over both edges, from how the path passes each
abbrev pub convexity_of : EdgePassage → EdgePassage → Truth
convexity_of first second =
    both_of
    (less_of first.before second.before)
    (both_of
    (less_of (mul_of second.over_source first.before) (mul_of first.over_source second.before))
    (less_of (mul_of first.over_receiver second.behind) (mul_of second.over_receiver first.behind)))

-- the same, by what that picks
abbrev pub IsConvexity : Path → Edge → Edge → Truth → Type 0
IsConvexity path first second convex =
    (quantity : Interval)
    → pick_of convex quantity (enc (whole 0)) ≡ enc (where_convex path (Known path.dp) first second (Known quantity))

-- D_z of two edges of which e, z and K_met are known
abbrev pub known_pair : DoubleDiffraction → Band → Interval
known_pair pair band =
    enc (attenuation double_limit (three_and (Mul (Known (two_edges band pair.spacing pair.z)) (Known pair.k))))

-- the same where sound bends over both, and else 0
abbrev pub pair_value : DoubleDiffraction → Band → Interval
pair_value pair band = pick_of pair.convex (known_pair pair band) (enc (whole 0))

-- it is that of these two edges in every band
abbrev pub IsPair : Path → Interval → Edge → Edge → DoubleDiffraction → Type 0
IsPair path d first second pair =
    (band : Band) → pair_value pair band ≡ enc (pair_attenuation path (Known path.dp) first second (Known d) band)

-- sound never bends over both: D_z is 0 in every band
abbrev pub IsNoPair : Path → Interval → Edge → Edge → Type 0
IsNoPair path d first second =
    (band : Band) → enc (pair_attenuation path (Known path.dp) first second (Known d) band) ≡ enc (whole 0)

-- ---- the greatest

-- the greatest so far, after one more
abbrev pub max_with_of : Option Interval → Interval → Option Interval
max_with_of None next = Some next
max_with_of (Some best) next = Some (max_of best next)

-- the greatest so far and of some more
abbrev pub greatest_from : Option Interval → List Interval → Option Interval
greatest_from best [] = best
greatest_from best (next ∷ others) = greatest_from (max_with_of best next) others

-- where its high end is bounded, a number under the logarithm decides what is greatest: that is D_z of the number
abbrev pub Decides : ℕ → Interval → Option Interval → Type 0
Decides limit number best = IsSome number.hi → best ≡ Some (enc (attenuation limit (Known number)))

-- a number decides what D_z of two edges is, and doesn't raise the greatest so far
pub record Passes (best : Interval) (band : Band) (pair : DoubleDiffraction) : Type 0 where
  pub number : Interval
  pub interval : IsInterval number
  pub decides : pair_value pair band ≡ enc (attenuation double_limit (Known number))
  pub lesser : max_of best number ≡ best

-- D_z of an edge alone, what stands under its logarithm, and D_z of two edges
abbrev pub single_value : Path → Interval → Band → Edge → Interval
single_value path d band edge = enc (attenuation single_limit (single_argument path edge (Known d) band))

abbrev pub argument_value : Path → Interval → Band → Edge → Interval
argument_value path d band edge = enc (single_argument path edge (Known d) band)

abbrev pub both_value : Path → Interval → Band → Edge × Edge → Interval
both_value path d band pair = enc (pair_attenuation path (Known path.dp) pair.0 pair.1 (Known d) band)

-- the greatest attenuation over the top, where an edge rises above the line of sight
abbrev pub best_over : Path → Interval → Band → List Edge → Option Interval
best_over path d band edges =
    greatest_from
    (greatest_from None (map (single_value path d band) (edges_above edges)))
    (map (both_value path d band) (pairs_of (edges_above edges)))

-- the greatest that stands under the logarithm of an edge alone, where there is an edge
abbrev pub best_argument : Path → Interval → Band → List Edge → Option Interval
best_argument path d band edges = greatest_from None (map (argument_value path d band) edges)

-- A_bar where no edge rises above the line of sight, and in all cases, from these
abbrev pub below_line : Option Interval → Interval → Interval
below_line None gr = enc (whole 0)
below_line (Some b) gr = enc (grazing (Known b) (Known gr))

abbrev pub screened_by : Option Interval → Option Interval → Interval → Interval
screened_by None argument gr = below_line argument gr
screened_by (Some best) argument gr = enc (less_ground (Known best) (Known gr))

-- ---- edges by their numbers

-- things with their numbers, from a first one on
abbrev pub numbered : {A : Type 0} → ℕ → List A → List (ℕ × A)
numbered n [] = []
numbered n (thing ∷ others) = (n, thing) ∷ numbered (suc n) others

abbrev pub rises : ℕ × Edge → Bool
rises edge = is_above edge.1

-- the edges that rise above the line of sight, with their numbers among all
abbrev pub risen : ℕ → List Edge → List (ℕ × Edge)
risen n edges = filter rises (numbered n edges)

-- a number is marked by true
abbrev pub is_marked : List Bool → ℕ → Bool
is_marked marks n = unwrap_or (slice_get marks n) false

-- D_z of two edges with their numbers
abbrev pub Numbered : Type 0
Numbered = ℕ × ℕ × Interval

abbrev pub edge_pair_value : Band → EdgePair → Numbered
edge_pair_value band pair = (pair.first, pair.second, pair_value pair.diffraction band)

abbrev pub numbered_value : Path → Interval → Band → (ℕ × Edge) × (ℕ × Edge) → Numbered
numbered_value path d band pair = (pair.0.0, pair.1.0, both_value path d band (pair.0.1, pair.1.1))

-- the values of those whose numbers are both marked
abbrev pub are_marked : List Bool → Numbered → Bool
are_marked marks pair = is_marked marks pair.0 && is_marked marks pair.1

abbrev pub marked_values : List Bool → List Numbered → List Interval
marked_values marks pairs = map (λ pair. pair.2) (filter (are_marked marks) pairs)

-- the greatest attenuation of marked edges alone that rise above the line of sight
abbrev pub best_alone : Band → List Bool → List SingleDiffraction → Option Interval
best_alone band marks singles =
    greatest_from None (map (known_single band) (filter single_is_above (marked marks singles)))

-- the marked edges from one on that rise above the line of sight
abbrev pub rising_from : ℕ → List Bool → List SingleDiffraction → List SingleDiffraction
rising_from n marks singles = filter single_is_above (marked (drop n marks) (drop n singles))

-- D_z of two edges that were prepared
abbrev pub joint_value : Path → Interval → Band → SingleDiffraction × SingleDiffraction → Interval
joint_value path d band pair = both_value path d band (pair.0.passage.edge, pair.1.passage.edge)

-- the greatest attenuation of marked edges alone and of each two of them
abbrev pub best_marked : Path → Interval → Band → List Bool → List SingleDiffraction → Option Interval
best_marked path d band marks singles =
    greatest_from
    (best_alone band marks singles)
    (map (joint_value path d band) (pairs_of (rising_from 0 marks singles)))

-- ---- pairs that were kept

-- an attenuation that isn't below 0 dB at either end, so that one of 0 dB can't raise it
abbrev pub IsRaised : Interval → Type 0
IsRaised best = max_of best (enc (whole 0)) ≡ best

-- some values stand for others: from 0 dB on they have the same greatest, whichever edges are marked
abbrev pub StandFor : List Numbered → List Numbered → Type 0
StandFor kept all =
    (marks : List Bool) (best : Interval)
    → IsRaised best
    → greatest_from (Some best) (marked_values marks kept) ≡ greatest_from (Some best) (marked_values marks all)

-- what is kept after some pairs stands for what was kept before and all of these
abbrev pub Adds : Path → Interval → List EdgePair → List EdgePair → List ((ℕ × Edge) × (ℕ × Edge)) → Type 0
Adds path d before after pairs =
    (band : Band)
    → StandFor (map (edge_pair_value band) after)
    (map (edge_pair_value band) before ++ map (numbered_value path d band) pairs)

-- with all pairs that were kept, D_z of a number is the greatest, and so it is with those that these stand for
abbrev pub IsDecided : Band → List Bool → List SingleDiffraction → List EdgePair → Interval → Type 0
IsDecided band marks singles pairs number =
    IsSomeAnd
    (best_alone band marks singles)
    (λ best. IsRaised best
    × (greatest_from (Some best) (marked_values marks (map (edge_pair_value band) pairs))
    ≡ Some (enc (attenuation double_limit (Known number)))))

-- an edge that was prepared
pub record IsSingle (path : Path) (d : Interval) (single : SingleDiffraction) : Type 0 where
  pub is : single ≡ single_of path d single.passage.edge
  pub fits : FitsEdge single.passage.edge

-- what was prepared of a path whose source and receiver are d apart
pub record ArePrepared (path : Path) (d : Interval) (singles : List SingleDiffraction) (pairs : List EdgePair)
    : Type 0 where
  pub singles_are : All (IsSingle path d) singles
  pub pairs_are : Adds path d [] pairs (pairs_of (risen 0 (edges_in singles)))
