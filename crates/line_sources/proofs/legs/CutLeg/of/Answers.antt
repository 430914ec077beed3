use Rattle.std.proofs.Common.{◌≤◌}
use Rattle.line_sources.proofs.LegLemmas.{leg-long, leg-facts}
use Rattle.line_sources.proofs.legs.CutLeg.of.Goals as goal

pub count-count-requires-clause-some : goal.count-count-requires-clause-some
count-count-requires-clause-some c = rw c.squared-square.ensures.value (leg-long c.args.side c.requires)

pub gain-requires-clause-least : goal.gain-requires-clause-least
gain-requires-clause-least c =
    let some : 1 ≤ c.squared-square.result = rw c.squared-square.ensures.value (leg-long c.args.side c.requires) in
    let f = leg-facts c.squared-square.result c.line.inside.piece some c.squared-square.ensures.within c.line.invariant.piece_low c.line.invariant.piece_high in
    rw c.count-count.ensures.value f.least

pub gain-requires-clause-most : goal.gain-requires-clause-most
gain-requires-clause-most c =
    let some : 1 ≤ c.squared-square.result = rw c.squared-square.ensures.value (leg-long c.args.side c.requires) in
    let f = leg-facts c.squared-square.result c.line.inside.piece some c.squared-square.ensures.within c.line.invariant.piece_low c.line.invariant.piece_high in
    rw c.count-count.ensures.value f.most
