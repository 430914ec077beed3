-- None of the entries so far is one.
use Rattle.std.proofs.Common.{◌≡◌, drop}
use Rattle.map_board.specs.inner.FirstNaming.{first_noted}
use Rattle.map_board.proofs.edits.namings.first_naming.Given as goal

abbrev pub invariant-loop-naming : goal.invariant-loop-naming
invariant-loop-naming l = first_noted l.version l.name l.namings ≡ first_noted l.version l.name (drop l.naming-index l.namings)
