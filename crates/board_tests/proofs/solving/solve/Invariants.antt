-- The counter is that of the blank.
use Rattle.board_tests.proofs.solving.solve.Given as goal

abbrev pub ghosts-solve_counted : goal.ghosts-solve_counted
ghosts-solve_counted a = record { name = a.blank.name; parts = a.blank.parts }
