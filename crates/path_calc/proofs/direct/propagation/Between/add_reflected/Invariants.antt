-- What is found, and what the sides behind give, is what all sides give.
use Rattle.std.proofs.Common.{◌≡◌, ◌++◌, drop, map}
use Rattle.scene_parts.specs.Parts.{sides_of}
use Rattle.path_calc.specs.ReflectedPaths.{reflected_by}
use Rattle.path_calc.specs.inner.Hearing.{reflected_of}
use Rattle.path_calc.proofs.Reflecting.{by_sides}
use Rattle.path_calc.proofs.direct.propagation.Between.add_reflected.Given as goal

abbrev pub invariant-loop-i : goal.invariant-loop-i
invariant-loop-i l =
    l.found.items
    ++ map (reflected_of l.self.scene.now.globals l.self.from.now l.self.ends) (by_sides l.self.scene.now l.self.ends l.obstacle (drop l.i (sides_of l.obstacle)))
    ≡ l.initial.found.items
    ++ map (reflected_of l.self.scene.now.globals l.self.from.now l.self.ends) (reflected_by l.self.scene.now l.self.ends l.obstacle)
