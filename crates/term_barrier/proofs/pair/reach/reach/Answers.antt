use Rattle.term_barrier.proofs.Reaching.{reach-is}
use Rattle.term_barrier.proofs.pair.reach.reach.Goals as goal

pub returns-then-is_near : goal.returns-then-is_near
returns-then-is_near c =
    let square = c.lies_between.ensures in
    let third = c.lies_between-then-lies_between.ensures in
    let z = c.lies_between-then-lies_between-2.ensures in
    let k = c.lies_between-then-lies_between-3.ensures in
    let ends = c.factors.ensures in
    reach-is c.args.spacing.now c.args.z c.args.k c.factors.result square.interval third.interval z.interval k.interval
    (square.within c.if-lies_between.true) (third.within c.if-lies_between-2.true) (z.within c.if-lies_between-3.true) (k.within c.if-lies_between-4.true)
    (c.is_near.ensures c.if-is_near.true) ends.z ends.k_low ends.k_high
