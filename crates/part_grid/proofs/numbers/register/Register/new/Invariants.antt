-- As many cells without an entry as were counted.
use Rattle.std.proofs.Common.{◌≡◌, replicate}
use Rattle.part_grid.proofs.numbers.register.Register.new.Given as goal

abbrev pub invariant-loop : goal.invariant-loop
invariant-loop l = l.newest.items ≡ replicate l.counter 0
