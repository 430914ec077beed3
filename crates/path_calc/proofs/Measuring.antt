-- Strings with what the bands share of the way round their corners, where there are any.
use Rattle.std.proofs.Common.{◌≡◌, ◌<◌, List, [], length, ap, subst, ◌∙◌}
use Rattle.std.specs.Prelude.{Some, None}
use Rattle.fix_interval.specs.Interval.{Interval}
use Rattle.fix_interval.specs.Tree.{Known, enc}
use Rattle.scene_geom.specs.declared.plan.Pt.{Pt}
use Rattle.scene_geom.specs.declared.band.Band.{Band}
use Rattle.scene_parts.specs.declared.screening.ends.Ends.{Ends}
use Rattle.term_barrier.specs.Lateral.{in_band, side_attenuation}
use Rattle.term_barrier.specs.Limits.{IsScreening}
use Rattle.path_calc.specs.declared.lateral.strings.Stretched.{Stretched}
use Rattle.path_calc.specs.inner.Strings.{IsMeasured}

-- a string that turns nowhere
pub unmeasured : (string : Stretched) (ends : Ends) (d : Interval) → string.way ≡ None → string.corners.items ≡ [] → IsMeasured string ends d
unmeasured string ends d way corners = record {
  turns = rw way tt;
  values = rw way tt;
  bounds = rw way tt;
  none = rw way corners;
}

-- one that turns at a corner at least
pub measured : (string : Stretched) (ends : Ends) (d : Interval) (way : List Interval) (corners : List Pt) → string.way ≡ Some way → corners ≡ string.corners.items → 0 < length corners
    → ((band : Band) → in_band way band ≡ enc (side_attenuation ends.s ends.hs ends.r ends.hr corners (Known d) band))
    → ((band : Band) → IsScreening (in_band way band)) → IsMeasured string ends d
measured string ends d way corners is same turns values bounds = record {
  turns = rw is (subst (λ (ps : List Pt). 0 < length ps) same turns);
  values = rw is (λ band. values band ∙ ap (λ (ps : List Pt). enc (side_attenuation ends.s ends.hs ends.r ends.hr ps (Known d) band)) same);
  bounds = rw is bounds;
  none = rw is tt;
}
