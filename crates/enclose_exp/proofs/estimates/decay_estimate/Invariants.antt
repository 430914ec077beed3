use Rattle.std.proofs.Common.{◌/◌, ◌%◌, ◌^◌, get_or}
use Rattle.enclose_exp.specs.declared.tables.TheConstants.{WHOLE_LOW, WHOLE_HIGH}
use Rattle.enclose_exp.proofs.DecayTables.{IsDecay}
use Rattle.enclose_exp.proofs.estimates.decay_estimate.Given as goal

abbrev pub invariant-loop-block : goal.invariant-loop-block
invariant-loop-block l = IsDecay (get_or WHOLE_LOW (l.exponent / 2 ^ 32) 0) (get_or WHOLE_HIGH (l.exponent / 2 ^ 32) 0) (l.exponent % 2 ^ 32) l.block l.product
