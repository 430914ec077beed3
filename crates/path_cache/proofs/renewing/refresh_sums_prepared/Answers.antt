use Rattle.std.proofs.Common.{ap, length, arith}
use Rattle.path_cache.proofs.Ascending.{few-from}
use Rattle.path_cache.proofs.renewing.refresh_sums_prepared.Goals as goal

pub returns-clause-few : goal.returns-clause-few
returns-clause-few g c =
    omega (arith, ap length c.in_ok-bundles.ensures, few-from c.args.renewal.now.kept.now c.in_ok-origins.origins.items, c.in_ok-origins.ensures.few)
