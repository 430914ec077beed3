-- The rule of turns can be gone back by.
use Rattle.std.proofs.Common.{◌≡◌, Bool, true, false, not, ◌&&◌, arith, refl}
use Rattle.std.specs.Prelude.{if◌then◌else◌}
use Rattle.cell_loops.specs.declared.corners.Around.{Around}
use Rattle.cell_loops.specs.declared.corners.Way.{Way}
use Rattle.cell_loops.specs.declared.corners.Way.TheVariants.{East, North, West, South}
use Rattle.cell_loops.specs.Turning.{leaves, reaches, turn, came, left_of, right_of}

-- where a loop comes to a corner, an edge leaves it the way that the loop turns
pub leaves-turn : (a : Around) (w : Way) → reaches a w ≡ true → leaves a (turn a w) ≡ true
leaves-turn a East h = grind arith
leaves-turn a North h = grind arith
leaves-turn a West h = grind arith
leaves-turn a South h = grind arith

-- and from there it is told how the loop came
pub came-turn : (a : Around) (w : Way) → reaches a w ≡ true → came a (turn a w) ≡ w
came-turn a East h = grind arith
came-turn a North h = grind arith
came-turn a West h = grind arith
came-turn a South h = grind arith
