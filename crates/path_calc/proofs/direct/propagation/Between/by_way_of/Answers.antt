use Rattle.std.proofs.Common.{ap, sym, ◌∙◌, map}
use Rattle.fix_interval.specs.Tree.{enc}
use Rattle.scene_geom.specs.Bands.{all_bands}
use Rattle.scene_geom.specs.declared.reflection.Reflection.{Reflection}
use Rattle.scene_parts.specs.Parts.{Obstacle}
use Rattle.path_calc.specs.Lengths.{reflected_distance}
use Rattle.path_calc.specs.Contributions.{reflection_level}
use Rattle.path_calc.specs.inner.Hearing.{counts_on}
use Rattle.path_calc.proofs.Reflecting.{square-kept, by-way-is}
use Rattle.path_calc.proofs.direct.propagation.Between.by_way_of.Goals as goal

pub reflected_distance-distance-requires-clause-plan : goal.reflected_distance-distance-requires-clause-plan
reflected_distance-distance-requires-clause-plan c =
    square-kept c.args.side c.args.self.now.ends.s c.args.self.now.ends.r _ (c.mirror.view_is ∙ c.requires.mirror) c.mirror.invariant

pub returns : goal.returns
returns c =
    let book = c.args.self.now.scene.now in
    let ends = c.args.self.now.ends in
    let laid = c.args.mirror.now in
    let d = c.reflected_distance-distance.result in
    let counts = c.big_enough_in_bands-counts.result in
    record {
      value = by-way-is c.of-2.result (record { path = c.in_ok-path.path; level = c.reflection_level-level.result; counts = counts }) book c.args.self.now.from.now ends c.args.obstacle.now c.args.side laid d c.heard_in_bands-asked.result
          (c.reflected_distance-distance.ensures.value ∙ ap (λ (m : Reflection). enc (reflected_distance m.square ends.hs ends.hr)) c.mirror.view_is)
          c.in_ok-path.ensures.value
          (c.reflection_level-level.ensures.value ∙ ap (λ (o : Obstacle). enc (reflection_level o.rho)) c.obstacle.view_is)
          (c.big_enough_in_bands-counts.ensures ∙ ap (λ (o : Obstacle). map (counts_on c.args.side o.h laid d) all_bands) c.obstacle.view_is)
          c.heard_in_bands-asked.ensures
          (sym c.is_any.ensures ∙ c.if-not-is_any.false)
          c.of-2.ensures;
    }
