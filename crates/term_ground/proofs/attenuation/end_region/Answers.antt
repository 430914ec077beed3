use Rattle.std.proofs.Common.{rules, ap, sym, ◌∙◌}
use Rattle.fix_interval.specs.Interval.{Interval}
use Rattle.fix_interval.specs.Tree.{enc}
use Rattle.fix_interval.specs.Values.{add_of, sub_of, mul_of}
use Rattle.term_ground.specs.Quantities.{interval_of}
use Rattle.term_ground.specs.Ground.{minus_one_and_a_half}
use Rattle.path_shape.specs.Forms.{one_form}
use Rattle.term_ground.proofs.Factors.{porous-part}
use Rattle.term_ground.proofs.attenuation.end_region.Goals as goal

pub returns : goal.returns
returns c =
    let share = c.of-factor.result in
    record {
      at_125 = search rules;
      at_250 = search rules;
      at_500 = search rules;
      at_1000 = search rules;
      high =
          c.less_one_and_a_half-2.ensures
          ∙ ap (add_of (enc minus_one_and_a_half)) (c.by-4.ensures.value ∙ ap (λ (i : Interval). mul_of i (interval_of share)) c.one_and_a_half-2.ensures.value)
          ∙ sym (porous-part share.lo share.hi share.ordered c.of-factor.ensures.small)
          ∙ ap (λ (i : Interval). mul_of (enc minus_one_and_a_half) (sub_of (enc one_form) i)) c.of-factor.ensures.value;
    }
