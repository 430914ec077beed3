-- The order in which points are wound round: what stands between the code and the definition of a chain.
use Rattle.std.specs.Prelude.{ℤ, pos, ◌&&◌, if◌then◌else◌}
use Rattle.std.specs.Ordering.{int_cmp, ordering_then}
use Rattle.std.specs.declared.cmp.Ordering.{Ordering}
use Rattle.scene_geom.specs.declared.plan.Pt.{Pt}
use Rattle.edge_chain.specs.declared.hand.Hand.{Hand}
use Rattle.edge_chain.specs.Chain.{off_line, is_beside}

-- how far b lies to the hand of the ray from S to a, and 0 where one of them isn't on the hand of the line from S to R
abbrev pub turn_of : Hand → Pt → Pt → Pt → Pt → ℤ
turn_of hand s r a b = if is_beside hand s r a && is_beside hand s r b then off_line hand s a b else pos 0

-- by bearing from S, away from the hand, and on one ray from the farthest point
abbrev pub bearing_order : Hand → Pt → Pt → Pt → Pt → Ordering
bearing_order hand s r a b =
    ordering_then (int_cmp (turn_of hand s r a b) (pos 0)) (int_cmp (off_line hand s r b) (off_line hand s r a))
