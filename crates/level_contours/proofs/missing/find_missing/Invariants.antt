-- The first missing is in the rows behind.
use Rattle.std.proofs.Common.{◌≡◌, ◌-◌}
use Rattle.std.specs.Prelude.{find}
use Rattle.level_contours.specs.GridNames.{names_from, names_of}
use Rattle.level_contours.specs.inner.Filing.{is_absent}
use Rattle.level_contours.proofs.missing.find_missing.Given as goal

abbrev pub invariant-loop-row : goal.invariant-loop-row
invariant-loop-row l = record {
  behind : find (is_absent l.names.entries) (names_from l.spec l.row (l.spec.rows - l.row)) ≡ find (is_absent l.names.entries) (names_of l.spec);
  all : l.row-end ≡ l.spec.rows;
}
