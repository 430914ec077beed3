-- Diffraction at edges (ISO 9613-2, 7.4): the quantities of equations (14) to (18), as formulas of the lengths in them.
-- Lengths are in metres, attenuations in dB.
use Rattle.std.specs.Prelude.{ℕ, ◌*◌, pos}
use Rattle.fix_interval.specs.Tree.{Tree, Const, Add, Sub, Mul, Div, Max, Min, Root, Lg, ExpNeg, Pick}
use Rattle.scene_geom.specs.declared.band.Band.{Band}
use Rattle.scene_geom.specs.Bands.{frequency_of}

-- a whole number
abbrev pub whole : ℕ → Tree
whole n = Const (pos n) 1

-- C_2, which includes the effect of reflections by the ground
abbrev pub c_2 : ℕ
c_2 = 20

-- the speed of sound in m/s, by which a frequency has its wavelength
abbrev pub sound_speed : ℕ
sound_speed = 340

-- C_2 / λ, with the wavelength λ at the midband frequency
unfoldable pub c_2_by_wavelength : Band → Tree
c_2_by_wavelength band = Const (pos (c_2 * frequency_of band)) sound_speed

-- (5 λ)²
unfoldable pub five_wavelengths_squared : Band → Tree
five_wavelengths_squared band =
    Const (pos (25 * (sound_speed * sound_speed))) (frequency_of band * frequency_of band)

-- C_3 of two edges that lie e apart (equation 15), with numerator and denominator times e²; of a single edge it is 1
unfoldable pub c_3 : Band → Tree → Tree
c_3 band e =
    Div
    (Add (Mul e e) (five_wavelengths_squared band))
    (Add (Div (Mul e e) (whole 3)) (five_wavelengths_squared band))

-- z (equations 16 and 17): by how much the way over or round edges is longer than d. Across the edges it is d_ss + d_sr
-- long, of two edges with e, and at a right angle to that as long as the square says
unfoldable pub path_difference : Tree → Tree → Tree → Tree
path_difference length square d = Sub (Root (Add (Mul length length) square)) d

-- K_met (equation 18): e^(-(1 / 2000) √(d_ss d_sr d / 2 z)) where z is above 0, and else 1
unfoldable pub k_met : Tree → Tree → Tree → Tree → Tree
k_met d_ss d_sr d z =
    Pick
    z
    (whole 0)
    (ExpNeg (Max (whole 0) (Div (Root (Div (Mul (Mul d_ss d_sr) d) (Mul (whole 2) z))) (whole 2000))))
    (whole 1)

-- (C_2 / λ) C_3 z at a single edge, and at two edges that lie e apart
unfoldable pub at_one_edge : Band → Tree → Tree
at_one_edge band z = Mul (c_2_by_wavelength band) z

unfoldable pub at_two_edges : Band → Tree → Tree → Tree
at_two_edges band e z = Mul (Mul (c_2_by_wavelength band) (c_3 band e)) z

-- what stands under the logarithm of equation (14)
abbrev pub three_and : Tree → Tree
three_and x = Add (whole 3) x

-- 10 lg of what stands there, which counts as 1 where it is less
unfoldable pub ten_lg : Tree → Tree
ten_lg b = Mul (whole 10) (Lg (Max (whole 1) b))

-- D_z (equation 14) where b stands under the logarithm, at most the limit
unfoldable pub attenuation : ℕ → Tree → Tree
attenuation limit b = Min (whole limit) (ten_lg b)

-- D_z is at most 20 dB at a single edge, and 25 dB at two
abbrev pub single_limit : ℕ
single_limit = 20

abbrev pub double_limit : ℕ
double_limit = 25
