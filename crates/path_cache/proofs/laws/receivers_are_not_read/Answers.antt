use Rattle.path_cache.proofs.Receivers.{receivers-not-read}
use Rattle.path_cache.proofs.laws.receivers_are_not_read.Goals as goal

pub returns : goal.returns
returns c = receivers-not-read
