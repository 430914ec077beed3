use Rattle.std.proofs.Common.{arith}
use Rattle.std.proofs.lemmas.Grind.{common_steps}
use Rattle.path_cache.proofs.renewing.put_new.Goals as goal

pub returns-in-New : goal.returns-in-New
returns-in-New c = grind (arith, common_steps)
