use Rattle.std.proofs.Common.{◌∙◌}
use Rattle.term_ground.proofs.ShortEnds.{part-interval, part-is, beyond-small, beyond-passed, end-passed}
use Rattle.term_ground.proofs.extents.extent.Section.before.Goals as goal

pub of_ends-requires : goal.of_ends-requires
of_ends-requires c =
    let place = c.args.place in
    let from = c.args.self.from in
    let to = c.args.self.to in
    let low-is = beyond-passed place.lo to.lo from.hi c.beyond.result place.low_end to.low_end from.high_end c.beyond.ensures in
    let high-is = beyond-passed place.hi to.hi from.lo c.beyond-2.result place.high_end to.high_end from.low_end c.beyond-2.ensures in
    let low = beyond-small place.lo to.lo from.hi c.beyond.result place.low_end to.low_end from.high_end low-is in
    let high = beyond-small place.hi to.hi from.lo c.beyond-2.result place.high_end to.high_end from.low_end high-is in
    rw (end-passed c.beyond.result c.into.result low.1 c.into.ensures, end-passed c.beyond-2.result c.into-2.result high.1 c.into-2.ensures)
    (part-interval place.lo place.hi from.lo from.hi to.lo to.hi c.beyond.result c.beyond-2.result place.low_end place.high_end from.low_end from.high_end to.low_end to.high_end place.ordered from.ordered to.ordered low-is high-is)

pub returns : goal.returns
returns c =
    let place = c.args.place in
    let from = c.args.self.from in
    let to = c.args.self.to in
    let low-is = beyond-passed place.lo to.lo from.hi c.beyond.result place.low_end to.low_end from.high_end c.beyond.ensures in
    let high-is = beyond-passed place.hi to.hi from.lo c.beyond-2.result place.high_end to.high_end from.low_end c.beyond-2.ensures in
    let low = beyond-small place.lo to.lo from.hi c.beyond.result place.low_end to.low_end from.high_end low-is in
    let high = beyond-small place.hi to.hi from.lo c.beyond-2.result place.high_end to.high_end from.low_end high-is in
    c.of_ends.ensures
    ∙ rw (end-passed c.beyond.result c.into.result low.1 c.into.ensures, end-passed c.beyond-2.result c.into-2.result high.1 c.into-2.ensures)
    (part-is place.lo place.hi from.lo from.hi to.lo to.hi c.beyond.result c.beyond-2.result place.low_end place.high_end from.low_end from.high_end to.low_end to.high_end place.ordered from.ordered to.ordered low-is high-is)
