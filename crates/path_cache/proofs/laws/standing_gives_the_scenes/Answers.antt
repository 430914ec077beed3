use Rattle.path_cache.proofs.Rightness.{refreshed-is}
use Rattle.path_cache.proofs.laws.standing_gives_the_scenes.Goals as goal

pub returns : goal.returns
returns c = refreshed-is
