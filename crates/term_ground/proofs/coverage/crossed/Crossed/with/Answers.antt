use Rattle.std.proofs.Common.{refl}
use Rattle.fix_interval.specs.Tree.{enc}
use Rattle.path_shape.specs.Outlines.{place_form}
use Rattle.term_ground.specs.inner.Extents.{regional_of}
use Rattle.term_ground.proofs.Windings.{winding-passed}
use Rattle.term_ground.proofs.Walking.{passage-known}
use Rattle.term_ground.proofs.coverage.crossed.Crossed.with.Goals as goal

pub returns : goal.returns
returns c =
    let at = enc (place_form c.args.passage.place) in
    record {
      between = c.crosses_at.ensures;
      winding = winding-passed c.in_ok-wound_at.field-0 _ c.in_ok-wound_at.ensures.value c.in_ok-wound_at.ensures.fits;
      lengths = λ stretches are.
          passage-known at c.args.passage (regional_of c.args.self.lengths) stretches _ _ _ refl (c.in_ok-extended.ensures at stretches.source c.in_ok-place.ensures are.source) (c.in_ok-extended-2.ensures at stretches.middle c.in_ok-place.ensures are.middle) (c.in_ok-extended-3.ensures at stretches.receiver c.in_ok-place.ensures are.receiver);
    }
