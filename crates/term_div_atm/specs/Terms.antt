-- Geometrical divergence and atmospheric absorption (ISO 9613-2, 7.1 and 7.2).
use Rattle.std.specs.Prelude.{ℕ, pos}
use Rattle.fix_interval.specs.Tree.{Tree, Const, Add, Mul, Div, Max, Lg}

-- the distance d in metres, which counts as 1 m at least
abbrev pub at_least_one : Tree → Tree
at_least_one d = Max (Const (pos 1) 1) d

-- the attenuation by divergence in dB (equation 7): 20 lg (d / 1 m) + 11
abbrev pub divergence : Tree → Tree
divergence d = Add (Mul (Const (pos 20) 1) (Lg (at_least_one d))) (Const (pos 11) 1)

-- the attenuation by the air in dB (equation 8): alpha d / 1000, with alpha10 the coefficient in tenths of a decibel
-- per kilometre, as Table 2 has it
abbrev pub absorption : Tree → ℕ → Tree
absorption d alpha10 = Div (Mul (at_least_one d) (Const (pos alpha10) 1)) (Const (pos 10000) 1)
