-- Energies of levels, and levels of sums of energies (ISO 9613-2, equation 5).
use Rattle.std.specs.Prelude.{pos}
use Rattle.fix_interval.specs.Tree.{Tree, Const, Mul, Div, Max, Lg, Ten}

-- the energy of a level in dB: 10 to the power of a tenth of it
abbrev pub energy_form : Tree → Tree
energy_form level = Ten (Div level (Const (pos 10) 1))

-- the level of a sum of energies in dB: ten times its logarithm, and 0 dB where the sum is below 1
abbrev pub level_form : Tree → Tree
level_form sum = Mul (Const (pos 10) 1) (Lg (Max (Const (pos 1) 1) sum))
