use Rattle.std.proofs.Common.{refl, ap, ◌∙◌, arith}
use Rattle.std.specs.Prelude.{Some}
use Rattle.fix_interval.specs.Interval.{Interval}
use Rattle.fix_interval.specs.Tree.{Known, enc}
use Rattle.path_shape.specs.Shape.{square_form}
use Rattle.term_ground.specs.Alternative.{solid_angle}
use Rattle.term_ground.proofs.SimpleMethod.{angle-same}
use Rattle.path_calc.proofs.Bounds.{is-plan_square}
use Rattle.path_calc.proofs.direct.propagation.omega.Goals as goal

pub returns-in-Simple-clause-value : goal.returns-in-Simple-clause-value
returns-in-Simple-clause-value c =
    let path = c.args.path.now in
    rw c.in-Simple.is (ap (λ (i : Interval). Some i) (c.d_omega.ensures.value ∙ ap (λ (i : Interval). enc (solid_angle path (Known i))) c.square_in_metres.ensures
    ∙ angle-same path (Known (enc (square_form c.args.square))) (square_form c.args.square) refl))

pub returns-in-Simple-clause-bounds : goal.returns-in-Simple-clause-bounds
returns-in-Simple-clause-bounds c =
    c.d_omega.ensures.bounds
    (record {
      source = omega (arith, c.requires.source_height.high);
      receiver = omega (arith, c.requires.receiver_height.high);
      above_ground = omega (arith, c.requires.source_height.low);
    })
    (rw c.square_in_metres.ensures (is-plan_square c.args.square c.requires.square))
