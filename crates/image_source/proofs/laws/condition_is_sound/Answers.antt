use Rattle.image_source.proofs.Sound.{condition-is-sound}
use Rattle.image_source.proofs.laws.condition_is_sound.Goals as goal

pub returns : goal.returns
returns c = condition-is-sound
