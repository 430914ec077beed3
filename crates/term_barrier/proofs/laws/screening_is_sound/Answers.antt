use Rattle.term_barrier.proofs.Sound.{screening-sound, side-sound}
use Rattle.term_barrier.proofs.laws.screening_is_sound.Goals as goal

pub returns-clause-over : goal.returns-clause-over
returns-clause-over c = screening-sound

pub returns-clause-round : goal.returns-clause-round
returns-clause-round c = side-sound
