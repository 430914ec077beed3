use Rattle.std.proofs.Common.{ap, length, arith}
use Rattle.path_cache.proofs.Ascending.{few-from}
use Rattle.path_cache.proofs.Placing.{length-each}
use Rattle.path_cache.proofs.renewing.renew.Goals as goal

pub returns-then-stand-clause-few : goal.returns-then-stand-clause-few
returns-then-stand-clause-few g c =
    omega (arith, ap length c.in_ok-row.ensures.value, length-each c.in_ok-row.row.news.items c.args.renewal.now.kept.now, c.args.renewal.now.keeps.few)

pub returns-clause-few : goal.returns-clause-few
returns-clause-few g c =
    omega (arith, ap length c.in_ok-origins.ensures.value, few-from c.args.renewal.now.kept.now c.in_ok-origins.origins.items, c.in_ok-origins.ensures.few)
