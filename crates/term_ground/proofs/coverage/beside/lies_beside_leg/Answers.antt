use Rattle.std.proofs.Common.{◌≡◌, rules, refl, sym, ◌∷◌, ◌∙◌}
use Rattle.scene_geom.specs.Direction.{way}
use Rattle.scene_geom.proofs.Uncrossed.{beside}
use Rattle.term_ground.proofs.coverage.beside.lies_beside_leg.Goals as goal

pub returns : goal.returns
returns c = λ all.
    let leg = c.args.leg.now in
    let outline : c.args.outline.now ≡ c.in-Some.first.now ∷ c.in-Some.rest.now = search rules in
    rw (beside c.args.outline.now leg.start leg.dir (way leg.dir) c.leaves_left.result c.in-Some.first.now c.in-Some.rest.now outline refl c.leaves_left.ensures (sym c.are_on_hand.ensures ∙ all))
    refl
