-- The ledger of the steps.
use Rattle.bundle_tests.proofs.paths.path_by.Given as goal

abbrev pub ghosts-counted_near : goal.ghosts-counted_near
ghosts-counted_near a = record { name = a.blank.name; parts = a.blank.parts }
