use Rattle.std.proofs.Common.{sym, ◌∙◌}
use Rattle.image_source.proofs.Walls.{can-reflect}
use Rattle.path_calc.proofs.Reflecting.{none-added}
use Rattle.path_calc.proofs.direct.propagation.Between.add_side.Goals as goal

pub returns-then-not-has_mirror : goal.returns-then-not-has_mirror
returns-then-not-has_mirror c =
    let book = c.args.self.now.scene.now in
    none-added book.globals c.args.self.now.from.now book c.args.self.now.ends c.args.obstacle.now c.args.side c.args.found.now.items
    (sym c.has_mirror.ensures.value ∙ c.if-not-has_mirror.true)

pub add_by_way_of-requires-clause-wall : goal.add_by_way_of-requires-clause-wall
add_by_way_of-requires-clause-wall c =
    can-reflect c.args.obstacle.now c.args.i c.args.side c.args.self.now.ends c.has_mirror.ensures.kept c.requires.side (sym c.has_mirror.ensures.value ∙ c.if-not-has_mirror.false)
