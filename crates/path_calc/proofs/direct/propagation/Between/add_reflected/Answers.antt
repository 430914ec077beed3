use Rattle.std.proofs.Common.{◌∙◌, ap, sym}
use Rattle.scene_parts.specs.Parts.{Obstacle, sides_of}
use Rattle.path_calc.proofs.Reflecting.{side-added, nothing-reflected}
use Rattle.path_calc.proofs.direct.propagation.Between.add_reflected.Goals as goal

pub loop-i-preserved : goal.loop-i-preserved
loop-i-preserved c =
    let book = c.args.self.now.scene.now in
    side-added book.globals c.args.self.now.from.now book c.args.self.now.ends c.args.obstacle.now (sides_of c.args.obstacle.now) c.loop-i.i c.side_of.result _ _ _
    c.side_of.ensures c.in_ok-add_side.ensures c.loop-i.invariant

pub returns-then-obstacle-eq0 : goal.returns-then-obstacle-eq0
returns-then-obstacle-eq0 c =
    let book = c.args.self.now.scene.now in
    nothing-reflected book.globals c.args.self.now.from.now book c.args.self.now.ends c.args.obstacle.now c.args.found.now.items
    (sym (ap (λ (o : Obstacle). o.rho) c.obstacle.view_is) ∙ c.if-obstacle-eq0.true)
