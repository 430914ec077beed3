-- The ledger of the steps.
use Rattle.touch_tests.proofs.paths.path.Given as goal

abbrev pub ghosts-counted : goal.ghosts-counted
ghosts-counted a = record { name = a.blank.name; parts = a.blank.parts }
