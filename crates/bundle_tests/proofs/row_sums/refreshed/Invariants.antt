-- The ledger of the steps.
use Rattle.bundle_tests.proofs.row_sums.refreshed.Given as goal

abbrev pub ghosts-row_counted : goal.ghosts-row_counted
ghosts-row_counted a = record { name = a.blank.name; parts = a.blank.parts }
