-- The paths so far are there.
use Rattle.std.proofs.Common.{◌≡◌, ◌++◌, map, take}
use Rattle.map_board.specs.inner.Paths.{counted, path_seen, paths_to}
use Rattle.map_board.proofs.edits.testing.push_paths.Given as goal

abbrev pub invariant-loop-place : goal.invariant-loop-place
invariant-loop-place l = record {
  so_far : map path_seen l.paths.items
      ≡ map path_seen l.initial.paths.items ++ paths_to l.receiver (take l.place (counted l.counts l.cache));
}
