use Rattle.std.proofs.Common.{◌≡◌, ◌≤◌, arith, ap, sym, subst, ◌∙◌}
use Rattle.std.specs.Prelude.{ℤ, unsigned_abs}
use Rattle.std.proofs.lemmas.Int.{ints}
use Rattle.scene_geom.specs.Vector.{Vector, turned_left}
use Rattle.scene_geom.specs.Reflection.{image_dir}
use Rattle.scene_geom.proofs.Whole.{restored}
use Rattle.scene_geom.proofs.Walls.{within_wall, off}
use Rattle.scene_geom.proofs.reflection.image_way.Goals as goal

pub bent-requires-clause-some : goal.bent-requires-clause-some
bent-requires-clause-some c =
    let some = off c.args.side c.args.p c.args.q c.requires in
    rw (restored c.wall_square.result c.wall_square.ensures.within, c.wall_square.ensures.value) (omega (arith, ints, some.wall))

pub bent-requires-clause-square : goal.bent-requires-clause-square
bent-requires-clause-square c =
    rw (restored c.wall_square.result c.wall_square.ensures.within, c.wall_square.ensures.value) c.requires.length

pub bent-requires-clause-x_within : goal.bent-requires-clause-x_within
bent-requires-clause-x_within c =
    let w = within_wall c.args.side c.requires.length in
    let normal = c.turned_left.ensures ∙ ap turned_left c.between-wall.ensures in
    subst (λ (v : Vector). unsigned_abs v.x ≤ 262143) (sym normal) (omega (arith, ints, w.y))

pub bent-requires-clause-y_within : goal.bent-requires-clause-y_within
bent-requires-clause-y_within c =
    let w = within_wall c.args.side c.requires.length in
    let normal = c.turned_left.ensures ∙ ap turned_left c.between-wall.ensures in
    subst (λ (v : Vector). unsigned_abs v.y ≤ 262143) (sym normal) w.x

pub bent-requires-clause-off : goal.bent-requires-clause-off
bent-requires-clause-off c =
    let w = within_wall c.args.side c.requires.length in
    rw (restored c.turn-off.result c.turn-off.ensures.within, c.turn-off.ensures.value) (w.off c.args.q)

same : (way way' normal normal' : Vector) (square square' off off' : ℤ) → way ≡ way' → square ≡ square' → normal ≡ normal' → off ≡ off'
    → image_dir way square normal off ≡ image_dir way' square' normal' off'
same way way' normal normal' square square' off off' e f g h =
    ap (λ (v : Vector). image_dir v square normal off) e
    ∙ ap (λ (z : ℤ). image_dir way' z normal off) f
    ∙ ap (λ (v : Vector). image_dir way' square' v off) g
    ∙ ap (λ (z : ℤ). image_dir way' square' normal' z) h

pub returns : goal.returns
returns c =
    c.bent.ensures
    ∙ same _ _ _ _ _ _ _ _ c.between.ensures
    (restored c.wall_square.result c.wall_square.ensures.within ∙ c.wall_square.ensures.value)
    (c.turned_left.ensures ∙ ap turned_left c.between-wall.ensures)
    (restored c.turn-off.result c.turn-off.ensures.within ∙ c.turn-off.ensures.value)
