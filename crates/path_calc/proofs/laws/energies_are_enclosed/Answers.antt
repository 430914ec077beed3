use Rattle.path_calc.specs.Energies.{band_energy, long_energy}
use Rattle.path_calc.proofs.Sound.{sound-band, sound-long}
use Rattle.path_calc.proofs.laws.energies_are_enclosed.Goals as goal

pub returns-clause-bands : goal.returns-clause-bands
returns-clause-bands c = λ globals around s r band. c.every_formula_is_enclosed.ensures.enclosed (band_energy globals around s r band) (sound-band (record { over = c.screening_is_sound.ensures.over; round = c.screening_is_sound.ensures.round }) globals around s r band)

pub returns-clause-long : goal.returns-clause-long
returns-clause-long c = λ globals around s r. c.every_formula_is_enclosed.ensures.enclosed (long_energy globals around s r) (sound-long (record { over = c.screening_is_sound.ensures.over; round = c.screening_is_sound.ensures.round }) globals around s r)
