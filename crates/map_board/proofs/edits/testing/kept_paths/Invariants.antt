-- The paths so far and those of the rows from here on are all.
use Rattle.std.proofs.Common.{◌≡◌, ◌++◌, map, drop}
use Rattle.map_board.specs.inner.Paths.{path_seen, paths_of}
use Rattle.map_board.proofs.edits.testing.kept_paths.Given as goal

abbrev pub invariant-loop-place : goal.invariant-loop-place
invariant-loop-place l = record {
  so_far : map path_seen l.paths.items ++ paths_of (drop l.place l.receivers) (drop l.place l.rows)
      ≡ paths_of l.receivers l.rows;
}
