-- The box so far tells of the kept bundles with the new ones so far in their places.
use Rattle.std.proofs.Common.{List, take}
use Rattle.path_calc.specs.Bundles.{Bundle}
use Rattle.path_cache.specs.Renewals.{with_each}
use Rattle.touch_test.specs.Envelopes.{TellsOf}
use Rattle.map_board.proofs.jobs.with_paths.Given as goal

abbrev pub invariant-loop-new : goal.invariant-loop-new
invariant-loop-new l = (kept : List Bundle) → TellsOf l.fn.envelope kept → TellsOf l.wide (with_each (take l.new-index l.news) kept)
