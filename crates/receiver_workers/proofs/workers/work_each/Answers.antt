use Rattle.std.proofs.Common.{rules, sym}
use Rattle.receiver_workers.proofs.Lists.{all_zip}
use Rattle.receiver_workers.proofs.workers.work_each.Goals as goal

pub returns : goal.returns
returns g c = all_zip _ c.args.seats.now c.for_each_mut.new.s (search rules)
    (λ i d lt. let change = (c.for_each_mut.ensures i d lt).1 in rw (sym change.argument_is, sym change.left) change.call)
