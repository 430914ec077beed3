-- What stands under the logarithm of two edges, as the code keeps it,
-- and how far it reaches at most.
use Rattle.std.specs.Prelude.{Option, Some, None, ℕ, ◌+◌, ◌-◌, ◌*◌, ◌^◌, pos, ◌+ℤ◌, ◌*ℤ◌, ◌≤ℤ◌, unwrap_or, IsSomeAnd}
use Rattle.std.specs.Int.{div_ceil}
use Rattle.fix_interval.specs.Interval.{Interval, open_low, open_high}
use Rattle.fix_interval.specs.Tree.{Known, Add, Mul, Div, enc}
use Rattle.scene_geom.specs.Bands.{frequency_of}
use Rattle.scene_geom.specs.declared.band.Band.{Band}
use Rattle.term_barrier.specs.declared.pair.spacing.EdgeSpacing.{EdgeSpacing}
use Rattle.term_barrier.specs.declared.pair.factors.Factors.{Factors}
use Rattle.term_barrier.specs.Diffraction.{whole, c_2, sound_speed, c_2_by_wavelength, five_wavelengths_squared, at_one_edge, three_and, attenuation, single_limit, double_limit}

-- what C_3 takes of the distance e between two edges, and C_3 and (C_2 / λ) C_3 z from it
abbrev pub spacing_of : Interval → EdgeSpacing
spacing_of e = record {
  square = enc (Mul (Known e) (Known e));
  third = enc (Div (Mul (Known e) (Known e)) (whole 3));
}

abbrev pub known_c_3 : Band → EdgeSpacing → Interval
known_c_3 band spacing =
    enc
    (Div
    (Add (Known spacing.square) (five_wavelengths_squared band))
    (Add (Known spacing.third) (five_wavelengths_squared band)))

abbrev pub two_edges : Band → EdgeSpacing → Interval → Interval
two_edges band spacing z = enc (Mul (Mul (c_2_by_wavelength band) (Known (known_c_3 band spacing))) (Known z))

-- D_z round the corners of a chain of which z is known, and what C_3 takes of e where it has several
abbrev pub round_value : Option EdgeSpacing → Interval → Band → Interval
round_value None z band = enc (attenuation single_limit (Known (enc (three_and (at_one_edge band (Known z))))))
round_value (Some spacing) z band =
    enc (attenuation double_limit (Known (enc (three_and (Known (two_edges band spacing z))))))

-- what stands under the logarithm of two edges, where sound bends over both
abbrev pub pair_number : Band → EdgeSpacing → Interval → Interval → Interval
pair_number band spacing z k = enc (three_and (Mul (Known (two_edges band spacing z)) (Known k)))

-- three times C_2 / λ, which is rounded up, in units
unfoldable pub growth_of : Band → ℕ
growth_of band = 3 * div_ceil (c_2 * frequency_of band * 2 ^ 32) sound_speed

-- what an end of the number is at most, in units, for that end of K_met: 3 and the product of it with what C_2 C_3 / λ
-- and z are at most, rounded up after each factor
abbrev pub most_number : ℕ → ℕ → ℕ → ℕ
most_number growth z k = 3 * 2 ^ 32 + div_ceil (k * div_ceil (growth * z) (2 ^ 32)) (2 ^ 32)

-- the ends of a square and of its third are so near that C_3 is at most 3 in every band
abbrev pub IsNear : Interval → Interval → Type 0
IsNear square third = unwrap_or square.hi open_high ≤ℤ ((pos 3 *ℤ unwrap_or third.lo open_low) +ℤ pos (2 ^ 28 - 1))

-- in every band the two ends of K_met bound those of the number of two edges
abbrev pub IsReach : EdgeSpacing → Interval → Interval → Factors → Type 0
IsReach spacing z k factors =
    (band : Band)
    → (unwrap_or (pair_number band spacing z k).lo open_low
    ≤ℤ pos (most_number (growth_of band) factors.z factors.k_low))
    × IsSomeAnd
    (pair_number band spacing z k).hi
    (λ high. high ≤ℤ pos (most_number (growth_of band) factors.z factors.k_high))

-- in a band with this growth, neither end of such a number is above that of an interval
abbrev pub StaysBelow : Interval → ℕ → Factors → Type 0
StaysBelow x growth factors =
    (pos (most_number growth factors.z factors.k_low) ≤ℤ unwrap_or x.lo open_low)
    × (pos (most_number growth factors.z factors.k_high) ≤ℤ unwrap_or x.hi open_high)
