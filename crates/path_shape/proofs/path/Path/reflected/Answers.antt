use Rattle.std.proofs.Common.{ap, ◌∙◌}
use Rattle.fix_interval.specs.Tree.{enc}
use Rattle.scene_geom.specs.declared.reflection.Reflection.{Reflection}
use Rattle.path_shape.specs.Shape.{length_of}
use Rattle.path_shape.proofs.path.Path.reflected.Goals as goal

pub returns-clause-path : goal.returns-clause-path
returns-clause-path c = record {
  side = c.args.side;
  can_reflect = c.requires;
  first_is = ap (λ (plan : Reflection). plan.first) c.unfold-plan.ensures.value;
  second_is = ap (λ (plan : Reflection). plan.second) c.unfold-plan.ensures.value;
  p_is = ap (λ (plan : Reflection). plan.p) c.unfold-plan.ensures.value;
  length_is = c.length_of.ensures ∙ ap (λ (plan : Reflection). enc (length_of plan.square)) c.unfold-plan.ensures.value;
}
