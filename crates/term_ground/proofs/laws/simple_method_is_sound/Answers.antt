use Rattle.term_ground.proofs.SimpleMethod.{simple-sound, angle-sound}
use Rattle.term_ground.proofs.laws.simple_method_is_sound.Goals as goal

pub returns-clause-ground : goal.returns-clause-ground
returns-clause-ground c = simple-sound

pub returns-clause-index : goal.returns-clause-index
returns-clause-index c = angle-sound
