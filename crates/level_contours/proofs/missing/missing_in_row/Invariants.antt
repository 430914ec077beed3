-- The first missing is behind.
use Rattle.std.proofs.Common.{◌≡◌, ◌-◌}
use Rattle.std.specs.Prelude.{find}
use Rattle.level_contours.specs.GridNames.{names_along}
use Rattle.level_contours.specs.inner.Filing.{is_absent}
use Rattle.level_contours.proofs.missing.missing_in_row.Given as goal

abbrev pub invariant-loop-column : goal.invariant-loop-column
invariant-loop-column l = record {
  behind : find (is_absent l.names.entries) (names_along l.spec.name l.row l.column (l.spec.columns - l.column))
      ≡ find (is_absent l.names.entries) (names_along l.spec.name l.row 0 l.spec.columns);
  all : l.column-end ≡ l.spec.columns;
}
