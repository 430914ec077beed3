-- The ledger of the steps.
use Rattle.bundle_tests.proofs.refreshes.count.Given as goal

abbrev pub ghosts-counted : goal.ghosts-counted
ghosts-counted a = record { name = a.blank.name; parts = a.blank.parts }
