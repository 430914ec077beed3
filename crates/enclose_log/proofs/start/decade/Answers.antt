use Rattle.std.proofs.Common.{refl}
use Rattle.enclose_log.proofs.DecadeLemmas.{decade-from_one}
use Rattle.enclose_log.proofs.start.decade.Goals as goal

pub returns-else-end-eq0 : goal.returns-else-end-eq0
returns-else-end-eq0 c =
    let r = c.ilog10-else-end-eq0 in
    decade-from_one c.args.end _ r.result c.requires.below refl r.ensures.power_le r.ensures.next_power_gt
