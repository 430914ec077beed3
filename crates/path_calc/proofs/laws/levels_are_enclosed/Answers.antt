use Rattle.std.proofs.Common.{sym, subst}
use Rattle.fix_interval.specs.Encloses.{Encloses}
use Rattle.path_calc.specs.Show.{total_form, band_form}
use Rattle.path_calc.proofs.Sound.{sound-total, sound-level}
use Rattle.path_calc.proofs.Showing.{total-shown, bands-shown, band-shown}
use Rattle.path_calc.proofs.laws.levels_are_enclosed.Goals as goal

pub returns : goal.returns
returns c = λ book r.
    let enclosed = c.every_formula_is_enclosed.ensures.enclosed in
    record {
      total = total-shown book r;
      total_enclosed = subst (Encloses (total_form book r)) (sym (total-shown book r)) (enclosed (total_form book r) (sound-total (record { over = c.screening_is_sound.ensures.over; round = c.screening_is_sound.ensures.round }) book r));
      bands = bands-shown book r;
      bands_enclosed = λ band. subst (Encloses (band_form book r band)) (sym (band-shown book r band)) (enclosed (band_form book r band) (sound-level (record { over = c.screening_is_sound.ensures.over; round = c.screening_is_sound.ensures.round }) book r band));
    }
