use Rattle.std.proofs.Common.{◌≡◌, subst, IfSome}
use Rattle.fix_interval.specs.Interval.{Interval}
use Rattle.term_ground.specs.inner.Extents.{by_ends}
use Rattle.term_ground.proofs.ShortEnds.{rest-passed}
use Rattle.term_ground.proofs.extents.extent.Extent.less.Goals as goal

pub returns : goal.returns
returns c =
    let a = c.args.self in
    let b = c.args.other in
    subst (λ (i : Interval). IfSome c.between.result (λ rest. by_ends rest ≡ i))
    (rest-passed a.lo a.hi b.lo b.hi a.low_end a.high_end b.low_end b.high_end) c.between.ensures
