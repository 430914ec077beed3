-- The alternative method for ground (ISO 9613-2, 7.3.2, equations 10 and 11), in dB. Heights are in mm.
use Rattle.std.specs.Prelude.{ℕ, ◌+◌, pos}
use Rattle.std.specs.Int.{abs_diff}
use Rattle.fix_interval.specs.Tree.{Tree, Const, Add, Sub, Mul, Div, Max, Lg}
use Rattle.path_shape.specs.declared.path.Path.{Path}
use Rattle.path_shape.specs.Forms.{zero_form, one_form}
use Rattle.path_shape.specs.Shape.{squared}

-- h_m: the mean height of the path above ground, in metres
abbrev pub mean_height : Path → Tree
mean_height path = Const (pos (path.hs + path.hr)) 2000

-- 4.8 - (2 h_m / g) (17 + 300 / g), of a mean height and a distance g in metres
abbrev pub simple_over : Tree → Tree → Tree
simple_over height g =
    Sub
    (Const (pos 48) 10)
    (Mul (Div (Mul (Const (pos 2) 1) height) g) (Add (Const (pos 17) 1) (Div (Const (pos 300) 1) g)))

-- A_gr (equation 10) of a path whose length is d, at least 0 dB, with a distance of at least 1 m: the same in every
-- band
unfoldable pub simple_ground : Path → Tree → Tree
simple_ground path d = Max zero_form (simple_over (mean_height path) (Max one_form d))

-- the square of a height in mm, in m²
abbrev pub height_square : ℕ → Tree
height_square h = Const (pos (squared h)) 1000000

-- D_Omega (equation 11) of a path, with the square of its plan length in m²
unfoldable pub solid_angle : Path → Tree → Tree
solid_angle path q =
    Mul
    (Const (pos 10) 1)
    (Lg
    (Add
    one_form
    (Div
    (Add q (height_square (abs_diff path.hs path.hr)))
    (Add q (height_square (path.hs + path.hr))))))
