-- What is found, and what the sides behind give, is what all listed sides give.
use Rattle.std.proofs.Common.{◌≡◌, ◌++◌, drop, map}
use Rattle.std.specs.List.{filter_map}
use Rattle.path_calc.specs.inner.Hearing.{reflected_of}
use Rattle.path_calc.proofs.Reflecting.{way_of}
use Rattle.path_calc.proofs.direct.propagation.Between.add_by_facing.Given as goal

abbrev pub invariant-loop-facing : goal.invariant-loop-facing
invariant-loop-facing l =
    l.found.items
    ++ map (reflected_of l.self.scene.now.globals l.self.from.now l.self.ends) (filter_map (way_of l.self.scene.now l.self.ends) (drop l.facing-index l.sides))
    ≡ map (reflected_of l.self.scene.now.globals l.self.from.now l.self.ends) (filter_map (way_of l.self.scene.now l.self.ends) l.sides)
