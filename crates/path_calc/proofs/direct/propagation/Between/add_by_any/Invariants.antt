-- What is found, and what the obstacles behind give, is what all obstacles give.
use Rattle.std.proofs.Common.{◌≡◌, ◌++◌, drop, map}
use Rattle.std.specs.Prelude.{flat_map}
use Rattle.path_calc.specs.ReflectedPaths.{reflected_by}
use Rattle.path_calc.specs.inner.Hearing.{reflected_of}
use Rattle.path_calc.proofs.direct.propagation.Between.add_by_any.Given as goal

abbrev pub invariant-loop-obstacle : goal.invariant-loop-obstacle
invariant-loop-obstacle l =
    l.found.items
    ++ map (reflected_of l.self.scene.now.globals l.self.from.now l.self.ends) (flat_map (reflected_by l.self.scene.now l.self.ends) (drop l.obstacle-index l.obstacle-items))
    ≡ map (reflected_of l.self.scene.now.globals l.self.from.now l.self.ends) (flat_map (reflected_by l.self.scene.now l.self.ends) l.obstacle-items)
