use Rattle.scene_geom.proofs.Walls.{unfolded-fits, exchanged}
use Rattle.scene_geom.proofs.reflection.unfold.Goals as goal

pub image_way-requires-2 : goal.image_way-requires-2
image_way-requires-2 c = exchanged c.args.side c.args.s c.args.r c.requires

pub returns-clause-fits : goal.returns-clause-fits
returns-clause-fits c =
    let fits = unfolded-fits c.args.side c.args.s c.args.r c.requires in
    rw (c.image_way.ensures, c.image_way-2.ensures, c.specular_place.ensures, c.square_of.ensures) fits
