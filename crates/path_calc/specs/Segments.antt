-- Plan segments along which a source and a receiver read the obstacles and the zones of a scene.
use Rattle.scene_geom.specs.Reflection.{CanReflect}
use Rattle.path_calc.specs.declared.bundles.segments.Seg.{Seg}
use Rattle.path_calc.specs.declared.bundles.segments.Seg.TheVariants.{Straight, Legs}

-- A side that reflects has both ends of the path strictly on one side of its line, and is short enough for 128 bits to
-- hold all products over the legs
abbrev pub FitsSegment : Seg → Type 0
FitsSegment (Straight p q) = Unit {0}
FitsSegment (Legs side s r) = CanReflect side s r
