use Rattle.fix_interval.proofs.RangedFormulas.{ranged, between}
use Rattle.fix_interval.proofs.laws.formulas_keep_their_ranges.Goals as goal

pub returns : goal.returns
returns c = record { range = λ t r h. ranged h; between = λ low high t r h e. between low high h e }
