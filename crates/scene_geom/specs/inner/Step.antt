-- Ways between two points of the plan, as the code keeps them.
use Rattle.scene_geom.specs.declared.directions.step.Step.{Step}
use Rattle.scene_geom.specs.Vector.{Vector}

-- the vector of a way
abbrev pub vector : Step → Vector
vector step = record { x = step.x; y = step.y }
