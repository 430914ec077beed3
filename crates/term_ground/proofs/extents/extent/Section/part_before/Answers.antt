use Rattle.std.proofs.Common.{arith}
use Rattle.std.proofs.lemmas.Int.{ints}
use Rattle.term_ground.proofs.ShortEnds.{part-is, part-within, within-short, within-passed, beyond-ordered, beyond-passed}
use Rattle.term_ground.proofs.extents.extent.Section.part_before.Goals as goal

pub invariant_of-result-clause-low_end : goal.invariant_of-result-clause-low_end
invariant_of-result-clause-low_end c =
    let place = c.args.place in
    let from = c.args.self.from in
    let to = c.args.self.to in
    let low-is = beyond-passed place.lo to.lo from.hi c.beyond.result place.low_end to.low_end from.high_end c.beyond.ensures in
    let high-is = beyond-passed place.hi to.hi from.lo c.beyond-2.result place.high_end to.high_end from.low_end c.beyond-2.ensures in
    let low = part-within place.lo to.lo from.hi c.beyond.result (omega (arith, ints, to.ordered, c.args.self.ends)) (omega (arith, ints, from.ordered, c.args.self.begins)) low-is in
    let high = part-within place.hi to.hi from.lo c.beyond-2.result c.args.self.ends c.args.self.begins high-is in
    rw (within-passed c.beyond.result low) (within-short c.beyond.result low)

pub invariant_of-result-clause-high_end : goal.invariant_of-result-clause-high_end
invariant_of-result-clause-high_end c =
    let place = c.args.place in
    let from = c.args.self.from in
    let to = c.args.self.to in
    let low-is = beyond-passed place.lo to.lo from.hi c.beyond.result place.low_end to.low_end from.high_end c.beyond.ensures in
    let high-is = beyond-passed place.hi to.hi from.lo c.beyond-2.result place.high_end to.high_end from.low_end c.beyond-2.ensures in
    let low = part-within place.lo to.lo from.hi c.beyond.result (omega (arith, ints, to.ordered, c.args.self.ends)) (omega (arith, ints, from.ordered, c.args.self.begins)) low-is in
    let high = part-within place.hi to.hi from.lo c.beyond-2.result c.args.self.ends c.args.self.begins high-is in
    rw (within-passed c.beyond-2.result high) (within-short c.beyond-2.result high)

pub invariant_of-result-clause-ordered : goal.invariant_of-result-clause-ordered
invariant_of-result-clause-ordered c =
    let place = c.args.place in
    let from = c.args.self.from in
    let to = c.args.self.to in
    let low-is = beyond-passed place.lo to.lo from.hi c.beyond.result place.low_end to.low_end from.high_end c.beyond.ensures in
    let high-is = beyond-passed place.hi to.hi from.lo c.beyond-2.result place.high_end to.high_end from.low_end c.beyond-2.ensures in
    let low = part-within place.lo to.lo from.hi c.beyond.result (omega (arith, ints, to.ordered, c.args.self.ends)) (omega (arith, ints, from.ordered, c.args.self.begins)) low-is in
    let high = part-within place.hi to.hi from.lo c.beyond-2.result c.args.self.ends c.args.self.begins high-is in
    rw (within-passed c.beyond.result low, within-passed c.beyond-2.result high)
    (beyond-ordered place.lo place.hi to.lo to.hi from.hi from.lo c.beyond.result c.beyond-2.result place.ordered to.ordered from.ordered low-is high-is)

pub returns : goal.returns
returns c =
    let place = c.args.place in
    let from = c.args.self.from in
    let to = c.args.self.to in
    let low-is = beyond-passed place.lo to.lo from.hi c.beyond.result place.low_end to.low_end from.high_end c.beyond.ensures in
    let high-is = beyond-passed place.hi to.hi from.lo c.beyond-2.result place.high_end to.high_end from.low_end c.beyond-2.ensures in
    let low = part-within place.lo to.lo from.hi c.beyond.result (omega (arith, ints, to.ordered, c.args.self.ends)) (omega (arith, ints, from.ordered, c.args.self.begins)) low-is in
    let high = part-within place.hi to.hi from.lo c.beyond-2.result c.args.self.ends c.args.self.begins high-is in
    rw (within-passed c.beyond.result low, within-passed c.beyond-2.result high)
    (part-is place.lo place.hi from.lo from.hi to.lo to.hi c.beyond.result c.beyond-2.result place.low_end place.high_end from.low_end from.high_end to.low_end to.high_end place.ordered from.ordered to.ordered low-is high-is)
