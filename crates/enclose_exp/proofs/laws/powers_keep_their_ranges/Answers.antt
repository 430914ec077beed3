use Rattle.enclose_exp.proofs.PowerRanges.{power-ranged, decay-ranged}
use Rattle.enclose_exp.proofs.laws.powers_keep_their_ranges.Goals as goal

pub returns : goal.returns
returns c = record { power = power-ranged; decay = decay-ranged }
