use Rattle.term_foliage.proofs.Lawful.{foliage-sound}
use Rattle.term_foliage.proofs.laws.foliage_is_sound.Goals as goal

pub returns : goal.returns
returns c = foliage-sound
