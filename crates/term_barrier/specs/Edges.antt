-- Diffraction over top edges that a path passes (ISO 9613-2, 7.4): each edge alone, and two after another. The path
-- passes an edge in the direction that the edge carries. Heights are in mm.
use Rattle.std.specs.Prelude.{ℕ, ◌*◌, ◌≤◌, pos, unsigned_abs, Bool, true, false}
use Rattle.fix_interval.specs.Tree.{Tree, Const, Add, Sub, Neg, Mul, Div, Root, Pick}
use Rattle.scene_geom.specs.declared.band.Band.{Band}
use Rattle.scene_geom.specs.declared.plan.Side.{Side}
use Rattle.scene_geom.specs.Direction.{way, FitsDirection}
use Rattle.scene_geom.specs.Fraction.{rest_of}
use Rattle.scene_geom.specs.Point.{along}
use Rattle.scene_geom.specs.Reflection.{squared_length}
use Rattle.scene_geom.specs.Vector.{cross, dot}
use Rattle.scene_parts.specs.declared.screening.edge.Edge.{Edge}
use Rattle.path_shape.specs.declared.path.Path.{Path}
use Rattle.term_barrier.specs.Diffraction.{whole, path_difference, k_met, at_one_edge, at_two_edges, three_and, attenuation, single_limit, double_limit}

-- the bound of a product of a direction and a side, which the divisor of a place is
abbrev pub most_product : ℕ
most_product = 33760000000000000000000000

-- the bounds of an edge on a path, direct or by way of a wall: it doesn't lie beyond either end
pub record FitsEdge (edge : Edge) : Type 0 where
  pub within : unsigned_abs edge.t.n ≤ unsigned_abs edge.t.d
  pub below : unsigned_abs edge.t.d ≤ most_product
  pub direction : FitsDirection edge.dir

-- ---- how the path passes an edge

-- the length of a side in plan, in mm
abbrev pub side_length : Side → Tree
side_length side = Root (Const (pos (squared_length side)) 1)

-- X, the component of the path in plan across the edge, and Y, that along it (a of equation 16)
unfoldable pub across : Edge → Tree
across edge =
    Div
    (Const (pos (unsigned_abs (cross (way edge.dir) (along edge.side)))) (1000 * unsigned_abs edge.dir.w))
    (side_length edge.side)

unfoldable pub beside : Edge → Tree
beside edge =
    Div
    (Const (pos (unsigned_abs (dot (way edge.dir) (along edge.side)))) (1000 * unsigned_abs edge.dir.w))
    (side_length edge.side)

-- t, which part of the path lies before the edge, and 1 - t
unfoldable pub place : Edge → Tree
place edge = Const edge.t.n (unsigned_abs edge.t.d)

unfoldable pub rest : Edge → Tree
rest edge = Const (rest_of edge.t).n (unsigned_abs edge.t.d)

-- by how much one height is above another, in metres
unfoldable pub rise : ℕ → ℕ → Tree
rise high low = Sub (Const (pos high) 1000) (Const (pos low) 1000)

-- the length of a way that is so long in plan and leads from one height to another
unfoldable pub slant : Tree → ℕ → ℕ → Tree
slant length high low = Root (Add (Mul length length) (Mul (rise high low) (rise high low)))

-- d_ss from the source to an edge, d_sr from an edge to the receiver, and e between two edges, all across the edges,
-- where the path is x long across them
abbrev pub source_to_edge : Path → Tree → Edge → Tree
source_to_edge path x edge = slant (Mul (place edge) x) edge.h path.hs

abbrev pub edge_to_receiver : Path → Tree → Edge → Tree
edge_to_receiver path x edge = slant (Mul (rest edge) x) edge.h path.hr

abbrev pub edge_to_edge : Tree → Edge → Edge → Tree
edge_to_edge x first second = slant (Mul (Sub (place second) (place first)) x) second.h first.h

-- ---- a single edge

-- z is negative where the line of sight passes above the edge, or on it
abbrev pub negated_below : Bool → Tree → Tree
negated_below true z = z
negated_below false z = Neg z

-- z of an edge (equation 16)
unfoldable pub single_difference : Path → Edge → Tree → Tree
single_difference path edge d =
    negated_below
    edge.above
    (path_difference
    (Add (source_to_edge path (across edge) edge) (edge_to_receiver path (across edge) edge))
    (Mul (beside edge) (beside edge))
    d)

-- its K_met
unfoldable pub single_k : Path → Edge → Tree → Tree
single_k path edge d =
    k_met
    (source_to_edge path (across edge) edge)
    (edge_to_receiver path (across edge) edge)
    d
    (single_difference path edge d)

-- what stands under its logarithm, 3 + (C_2 / λ) z K_met
unfoldable pub single_argument : Path → Edge → Tree → Band → Tree
single_argument path edge d band =
    three_and (Mul (at_one_edge band (single_difference path edge d)) (single_k path edge d))

-- its D_z
abbrev pub single_attenuation : Path → Edge → Tree → Band → Tree
single_attenuation path edge d band = attenuation single_limit (single_argument path edge d band)

-- ---- two edges, one after another. The path leads across both as it does across the first

-- z of two edges (equation 17)
unfoldable pub pair_difference : Path → Edge → Edge → Tree → Tree
pair_difference path first second d =
    path_difference
    (Add
    (Add (source_to_edge path (across first) first) (edge_to_receiver path (across first) second))
    (edge_to_edge (across first) first second))
    (Mul (beside first) (beside first))
    d

-- their K_met
unfoldable pub pair_k : Path → Edge → Edge → Tree → Tree
pair_k path first second d =
    k_met
    (source_to_edge path (across first) first)
    (edge_to_receiver path (across first) second)
    d
    (pair_difference path first second d)

-- what stands under their logarithm, 3 + (C_2 / λ) C_3 z K_met
unfoldable pub pair_argument : Path → Edge → Edge → Tree → Band → Tree
pair_argument path first second d band =
    three_and
    (Mul
    (at_two_edges band (edge_to_edge (across first) first second) (pair_difference path first second d))
    (pair_k path first second d))

-- how far an edge lies along the path in plan
abbrev pub distance_to : Tree → Edge → Tree
distance_to dp edge = Mul (place edge) dp

-- a quantity of two edges where sound bends over both, and else 0: the second lies behind the first, the first rises
-- above the line from the source to the second, and the second above that from the first to the receiver
unfoldable pub where_convex : Path → Tree → Edge → Edge → Tree → Tree
where_convex path dp first second quantity =
    Pick
    (distance_to dp second)
    (distance_to dp first)
    (Pick
    (Mul (rise first.h path.hs) (distance_to dp second))
    (Mul (rise second.h path.hs) (distance_to dp first))
    (Pick
    (Mul (rise second.h path.hr) (Sub dp (distance_to dp first)))
    (Mul (rise first.h path.hr) (Sub dp (distance_to dp second)))
    quantity
    (whole 0))
    (whole 0))
    (whole 0)

-- D_z of two edges
abbrev pub pair_attenuation : Path → Tree → Edge → Edge → Tree → Band → Tree
pair_attenuation path dp first second d band =
    where_convex path dp first second (attenuation double_limit (pair_argument path first second d band))
