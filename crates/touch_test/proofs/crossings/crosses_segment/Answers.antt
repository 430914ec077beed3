use Rattle.std.proofs.Common.{ap, sym, ◌∙◌}
use Rattle.std.specs.List.{list_any}
use Rattle.scene_geom.specs.declared.plan.Side.{Side}
use Rattle.scene_geom.specs.declared.reflection.Reflection.{Reflection}
use Rattle.scene_parts.specs.Parts.{sides_of}
use Rattle.path_calc.specs.declared.bundles.segments.Seg.{Seg}
use Rattle.touch_test.specs.Crossings.{crosses_legs, crosses_segment}
use Rattle.touch_test.proofs.crossings.crosses_segment.Goals as goal

pub returns-in-Legs : goal.returns-in-Legs
returns-in-Legs c =
    c.crosses_reflection.ensures
    ∙ ap (λ (path : Reflection). list_any (λ (side : Side). crosses_legs side path c.in-Legs.s c.in-Legs.r) (sides_of c.args.obstacle.now))
    c.unfold.ensures.value
    ∙ ap (λ (segment : Seg). list_any (λ (side : Side). crosses_segment side segment) (sides_of c.args.obstacle.now)) (sym c.in-Legs.is)
