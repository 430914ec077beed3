-- Ground factors and lengths as formulas.
use Rattle.std.specs.Prelude.{ℕ, ◌*◌, pos}
use Rattle.fix_interval.specs.Tree.{Tree, Const}

-- a ground factor of so many hundredths
abbrev pub factor : ℕ → Tree
factor g = Const (pos g) 100

-- 30 times a height in mm, in metres: how far a region of ground reaches (ISO 9613-2, 7.3.1)
abbrev pub thirty : ℕ → Tree
thirty h = Const (pos (30 * h)) 1000
