use Rattle.term_ground.proofs.Sound.{ground-sound}
use Rattle.term_ground.proofs.laws.ground_is_sound.Goals as goal

pub returns : goal.returns
returns c = ground-sound
