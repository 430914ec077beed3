use Rattle.term_ground.proofs.PlacesOn.{extended-is}
use Rattle.term_ground.proofs.extents.extent.Section.extended.Goals as goal

pub returns : goal.returns
returns c =
    extended-is c.counted.result c.args.length c.args.place c.part_before.result c.args.self c.args.to_left c.counted.ensures c.part_before.ensures
