-- How the boundary of a set of cells goes on at a corner, told by which of the four cells round it are in the set.
use Rattle.std.specs.Prelude.{ℕ, Bool, ◌&&◌, ◌==◌, not, if◌then◌else◌}
use Rattle.cell_loops.specs.declared.corners.Around.{Around}
use Rattle.cell_loops.specs.declared.corners.Way.{Way}
use Rattle.cell_loops.specs.declared.corners.Way.TheVariants.{East, North, West, South}

-- the four ways in the order of edges that leave one corner
abbrev pub way_number : Way → ℕ
way_number East = 0
way_number North = 1
way_number West = 2
way_number South = 3

abbrev pub same_way : Way → Way → Bool
same_way v w = way_number v == way_number w

-- the way after a turn to the left, and after one to the right
abbrev pub left_of : Way → Way
left_of East = North
left_of North = West
left_of West = South
left_of South = East

abbrev pub right_of : Way → Way
right_of East = South
right_of North = East
right_of West = North
right_of South = West

-- whether an edge leaves a corner this way: a cell of the set lies on its left and none on its right
abbrev pub leaves : Around → Way → Bool
leaves a East = a.northeast && not a.southeast
leaves a North = a.northwest && not a.northeast
leaves a West = a.southwest && not a.northwest
leaves a South = a.southeast && not a.southwest

-- whether an edge that goes this way ends at a corner
abbrev pub reaches : Around → Way → Bool
reaches a East = a.northwest && not a.southwest
reaches a North = a.southwest && not a.southeast
reaches a West = a.southeast && not a.northeast
reaches a South = a.northeast && not a.northwest

-- How a loop that comes this way goes on: to the left where an edge leaves the corner there, else straight on, else to
-- the right. So where two edges leave a corner it turns left.
abbrev pub turn : Around → Way → Way
turn a w = if leaves a (left_of w) then left_of w else (if leaves a w then w else right_of w)

-- and how a loop that leaves this way came: from the left of two edges that end at the corner
abbrev pub came : Around → Way → Way
came a w = if reaches a (right_of w) then right_of w else (if reaches a w then w else left_of w)
