use Rattle.std.proofs.Common.{◌≡◌, rules, refl, sym, ◌∷◌, ◌∙◌}
use Rattle.scene_geom.specs.Direction.{direct}
use Rattle.scene_geom.specs.Point.{from_to}
use Rattle.scene_geom.proofs.Uncrossed.{beside}
use Rattle.term_ground.proofs.coverage.walk.lies_beside.Goals as goal

pub returns : goal.returns
returns c = λ all.
    let line = c.args.line.now in
    let outline : c.args.outline.now ≡ c.in-Some.first.now ∷ c.in-Some.rest.now = search rules in
    rw (beside c.args.outline.now line.s (direct line.s line.r) (from_to line.s line.r) c.leaves_left.result c.in-Some.first.now c.in-Some.rest.now outline refl c.leaves_left.ensures (sym c.are_on_hand.ensures ∙ all))
    refl
