-- Numbers and sums as formulas.
use Rattle.std.specs.Prelude.{pos, List, [], ◌∷◌}
use Rattle.fix_interval.specs.Tree.{Tree, Const, Add}

abbrev pub zero_form : Tree
zero_form = Const (pos 0) 1

abbrev pub one_form : Tree
one_form = Const (pos 1) 1

-- a total to which terms are added, one after another
abbrev pub plus_all : Tree → List Tree → Tree
plus_all total [] = total
plus_all total (term ∷ terms) = plus_all (Add total term) terms
