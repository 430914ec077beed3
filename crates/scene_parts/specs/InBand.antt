-- In which bands an obstacle is large enough to screen (ISO 9613-2, 7.4): its dimension normal to the line from source
-- to receiver exceeds the wavelength at the nominal midband frequency.
use Rattle.std.specs.Prelude.{ℕ, ◌*◌, ◌^◌, unsigned_abs, Bool, nat_lt}
use Rattle.scene_geom.specs.declared.plan.Pt.{Pt}
use Rattle.scene_geom.specs.declared.band.Band.{Band}
use Rattle.scene_geom.specs.Bands.{frequency_of}
use Rattle.scene_geom.specs.Outline.{extent_of}
use Rattle.scene_parts.specs.Parts.{Obstacle}
use Rattle.scene_parts.specs.Sides.{squared_length}

-- the speed of sound in mm/s: sound of f Hz has the wavelength of this number over f
abbrev pub sound_speed : ℕ
sound_speed = 340000

-- An extent across a line, in mm², is a dimension normal to the line times the line's length, whose square is given in
-- mm². So both numbers of the comparison are multiplied by that length and the frequency, and squared
abbrev pub exceeds_wavelength : ℕ → ℕ → Band → Bool
exceeds_wavelength extent square band = nat_lt (sound_speed ^ 2 * square) ((frequency_of band * extent) ^ 2)

-- Where source and receiver share their place in plan, nothing is in a band
abbrev pub is_in_band : Obstacle → Pt → Pt → Band → Bool
is_in_band o s r =
    exceeds_wavelength (unsigned_abs (extent_of o.points s r)) (squared_length (record { from = s; to = r }))
