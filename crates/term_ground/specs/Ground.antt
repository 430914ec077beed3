-- The attenuation by the ground (ISO 9613-2, 7.3.1, equation 9 and Table 3), in dB, in the octave bands from 63 Hz to
-- 8 kHz. Heights are in mm.
use Rattle.std.specs.Prelude.{ℕ, ◌*◌, ◌^◌, pos, neg_ℤ, List, [], ◌∷◌}
use Rattle.std.specs.Int.{abs_diff}
use Rattle.fix_interval.specs.Tree.{Tree, Const, Add, Sub, Mul, Div, ExpNeg, Pick}
use Rattle.scene_parts.specs.Parts.{Zone}
use Rattle.path_shape.specs.declared.path.Path.{Path}
use Rattle.term_ground.specs.declared.legs.region.Region.TheVariants.{Source, Middle, Receiver}
use Rattle.path_shape.specs.Forms.{zero_form, one_form}
use Rattle.term_ground.specs.Regions.{middle_from, share_of}

-- ---- the functions of height and distance below Table 3

-- 1.5, to which each of them comes at a great height
abbrev pub one_and_a_half : Tree
one_and_a_half = Const (pos 15) 10

-- e^(-p / q)
abbrev pub decay : ℕ → ℕ → Tree
decay p q = ExpNeg (Const (pos p) q)

-- 1 - e^(-d_p / 50)
unfoldable pub near_growth : Tree → Tree
near_growth dp = Sub one_form (ExpNeg (Div dp (Const (pos 50) 1)))

-- 1 - e^(-2.8 d_p² / 10^6)
unfoldable pub far_growth : Tree → Tree
far_growth dp = Sub one_form (ExpNeg (Div (Mul (Mul dp dp) (Const (pos 28) 1)) (Const (pos 10000000) 1)))

-- 3.0 e^(-0.12 (h - 5)²), 5.7 e^(-0.09 h²), 8.6 e^(-0.09 h²), 14.0 e^(-0.46 h²) and 5.0 e^(-0.9 h²), for the height h
-- in metres
unfoldable pub decay_at_125 : ℕ → Tree
decay_at_125 h = Mul (Const (pos 3) 1) (decay (12 * abs_diff h 5000 ^ 2) (10 ^ 8))

unfoldable pub far_decay_at_125 : ℕ → Tree
far_decay_at_125 h = Mul (Const (pos 57) 10) (decay (9 * h ^ 2) (10 ^ 8))

unfoldable pub decay_at_250 : ℕ → Tree
decay_at_250 h = Mul (Const (pos 86) 10) (decay (9 * h ^ 2) (10 ^ 8))

unfoldable pub decay_at_500 : ℕ → Tree
decay_at_500 h = Mul (Const (pos 14) 1) (decay (46 * h ^ 2) (10 ^ 8))

unfoldable pub decay_at_1000 : ℕ → Tree
decay_at_1000 h = Mul (Const (pos 5) 1) (decay (9 * h ^ 2) (10 ^ 7))

-- a'(h), b'(h), c'(h) and d'(h), of the bands 125 Hz, 250 Hz, 500 Hz and 1 kHz
abbrev pub a_prime : ℕ → Tree → Tree
a_prime h dp =
    Add (Add one_and_a_half (Mul (decay_at_125 h) (near_growth dp))) (Mul (far_decay_at_125 h) (far_growth dp))

abbrev pub b_prime : ℕ → Tree → Tree
b_prime h dp = Add one_and_a_half (Mul (decay_at_250 h) (near_growth dp))

abbrev pub c_prime : ℕ → Tree → Tree
c_prime h dp = Add one_and_a_half (Mul (decay_at_500 h) (near_growth dp))

abbrev pub d_prime : ℕ → Tree → Tree
d_prime h dp = Add one_and_a_half (Mul (decay_at_1000 h) (near_growth dp))

-- ---- Table 3

abbrev pub minus_one_and_a_half : Tree
minus_one_and_a_half = Const (neg_ℤ (pos 15)) 10

-- A_s or A_r in a band from 125 Hz to 1 kHz, with the ground factor g of the source or receiver region, and that one of
-- a'(h) to d'(h) that belongs to the band
abbrev pub end_region_below_2khz : Tree → Tree → Tree
end_region_below_2khz g prime = Add minus_one_and_a_half (Mul g prime)

-- the part that isn't porous
abbrev pub hard_part : Tree → Tree
hard_part g = Sub one_form g

-- A_s or A_r in a band from 2 kHz on
abbrev pub end_region_from_2khz : Tree → Tree
end_region_from_2khz g = Mul minus_one_and_a_half (hard_part g)

-- q: the part of the path that is the middle region
unfoldable pub middle_part : Path → Tree → Tree
middle_part path dp = Pick dp (middle_from path) (Sub one_form (Div (middle_from path) dp)) zero_form

-- A_m at 63 Hz, and above with the ground factor g of the middle region
abbrev pub middle_at_63 : Tree → Tree
middle_at_63 q = Mul (Const (neg_ℤ (pos 3)) 1) q

abbrev pub middle_above : Tree → Tree → Tree
middle_above q g = Mul (middle_at_63 q) (hard_part g)

-- A_s + A_r + A_m (equation 9), with the ground factors of the source, middle and receiver region

-- in a band from 125 Hz to 1 kHz, with that one of a'(h) to d'(h) that belongs to it
abbrev pub below_2khz : (ℕ → Tree → Tree) → Tree → Tree → Tree → Path → Tree → Tree
below_2khz prime gs gm gr path dp =
    Add
    (Add (end_region_below_2khz gs (prime path.hs dp)) (end_region_below_2khz gr (prime path.hr dp)))
    (middle_above (middle_part path dp) gm)

-- in a band from 2 kHz on
abbrev pub from_2khz : Tree → Tree → Tree → Path → Tree → Tree
from_2khz gs gm gr path dp =
    Add (Add (end_region_from_2khz gs) (end_region_from_2khz gr)) (middle_above (middle_part path dp) gm)

-- in each band
abbrev pub attenuations : Tree → Tree → Tree → Path → Tree → List Tree
attenuations gs gm gr path dp =
    Add (Add minus_one_and_a_half minus_one_and_a_half) (middle_at_63 (middle_part path dp))
    ∷ below_2khz a_prime gs gm gr path dp
    ∷ below_2khz b_prime gs gm gr path dp
    ∷ below_2khz c_prime gs gm gr path dp
    ∷ below_2khz d_prime gs gm gr path dp
    ∷ from_2khz gs gm gr path dp
    ∷ from_2khz gs gm gr path dp
    ∷ from_2khz gs gm gr path dp
    ∷ []

-- A_gr of a path whose plan length is dp, among zones of ground, with the ground factor g0, in hundredths, outside of
-- them
unfoldable pub ground : List Zone → ℕ → Path → Tree → List Tree
ground zones g0 path dp =
    attenuations
    (share_of Source zones g0 path dp)
    (share_of Middle zones g0 path dp)
    (share_of Receiver zones g0 path dp)
    path
    dp
