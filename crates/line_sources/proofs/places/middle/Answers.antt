use Rattle.std.proofs.Common.{◌≡◌, ◌+ℤ◌, rules, to_z, of_z, w64}
use Rattle.line_sources.specs.Legs.{middle_of}
use Rattle.line_sources.proofs.Middles.{middle_of-in_plan}
use Rattle.line_sources.proofs.places.middle.Goals as goal

pub returns-clause-in_plan : goal.returns-clause-in_plan
returns-clause-in_plan c =
    let e : to_z w64 (of_z w64 (to_z w64 (of_z w64 c.from.result) +ℤ to_z w64 (of_z w64 c.part.result))) ≡ middle_of c.args.from c.args.to c.args.i c.args.count = search rules in
    rw e (middle_of-in_plan c.args.from c.args.to c.args.i c.args.count c.requires.from_in_plan c.requires.to_in_plan c.requires.within)
