use Rattle.path_cache.proofs.Standing.{full-rows-stand}
use Rattle.path_cache.proofs.laws.full_rows_stand.Goals as goal

pub returns : goal.returns
returns c = full-rows-stand
