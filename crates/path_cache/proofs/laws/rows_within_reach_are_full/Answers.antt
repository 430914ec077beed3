use Rattle.path_cache.proofs.Standing.{rows-within-reach-are-full}
use Rattle.path_cache.proofs.laws.rows_within_reach_are_full.Goals as goal

pub returns : goal.returns
returns c = rows-within-reach-are-full
