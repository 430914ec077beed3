-- The legs so far are added.
use Rattle.std.proofs.Common.{◌≡◌, ◌++◌, map, take}
use Rattle.path_calc.proofs.energies.paths.add_walls.Given as goal

abbrev pub invariant-loop-path : goal.invariant-loop-path
invariant-loop-path l = l.trace ≡ l.initial.trace ++ map (λ path. path.wall) (take l.path-index l.reflected)
