use Rattle.std.proofs.Common.{subst, sym}
use Rattle.scene_geom.specs.declared.fractions.fraction.Frac.{Frac}
use Rattle.scene_geom.specs.declared.reflection.Reflection.{Reflection}
use Rattle.path_calc.specs.declared.bundles.segments.Seg.{Seg}
use Rattle.touch_test.specs.Envelopes.{HoldsSegment, HoldsWay}
use Rattle.scene_geom.specs.Fraction.{rest_of}
use Rattle.touch_test.proofs.Widening.{wider-both, wider-way}
use Rattle.touch_test.proofs.envelopes.Envelope.with_segment.Goals as goal

pub returns-in-Legs-clause-wider : goal.returns-in-Legs-clause-wider
returns-in-Legs-clause-wider c = wider-both c.args.self c.with_way.result c.with_way-in-Legs.result c.with_way.ensures.wider c.with_way-in-Legs.ensures.wider

pub returns-in-Legs-clause-segment : goal.returns-in-Legs-clause-segment
returns-in-Legs-clause-segment c =
    let holds = λ (path : Reflection). HoldsWay c.with_way-in-Legs.result c.in-Legs.s path.first path.p × HoldsWay c.with_way-in-Legs.result c.in-Legs.r path.second (rest_of path.p) in
    subst (λ (segment : Seg). HoldsSegment c.with_way-in-Legs.result segment) (sym c.in-Legs.is)
    (subst holds c.unfold-path.ensures.value (
      wider-way c.with_way.result c.with_way-in-Legs.result c.in-Legs.s c.unfold-path.result.first c.unfold-path.result.p c.with_way-in-Legs.ensures.wider c.with_way.ensures.way,
      subst (λ (rest : Frac). HoldsWay c.with_way-in-Legs.result c.in-Legs.r c.unfold-path.result.second rest) c.rest_after.ensures c.with_way-in-Legs.ensures.way,
    ))
