use Rattle.std.proofs.Common.{rules, arith, sym, ap, ◌∙◌}
use Rattle.scene_parts.specs.Parts.{Globals}
use Rattle.path_shape.proofs.Lengths.{paths-have_lengths}
use Rattle.path_shape.specs.Shape.{square_form}
use Rattle.energy_sum.specs.Weather.{IsLengthInPlan}
use Rattle.path_calc.proofs.Bounds.{raised-by}
use Rattle.path_calc.proofs.direct.propagation.Between.in_the_open.Goals as goal

pub returns-clause-range : goal.returns-clause-range
returns-clause-range c =
    let path = c.args.path.now in
    let length = paths-have_lengths path c.requires.path in
    let plan : IsLengthInPlan path.dp = record { bounds = length.bounds; close = length.close } in
    record {
      distance = c.requires.distance;
      divergence = c.a_div.ensures.value;
      grounds = search rules;
      bands = search rules;
      omega = raised-by c.globals.inside.ground path (square_form c.args.square) c.omega.result c.grounds_along.result c.omega.ensures.value c.omega.ensures.bounds
          (λ simple. c.grounds_along.ensures.simple (sym (ap (λ (g : Globals). g.method) (c.globals.view_is ∙ c.globals-globals.ensures)) ∙ simple));
      screening = search rules;
      screened_bands = search rules;
      foliage = search rules;
      correction = c.c_met.ensures.bounds plan (record {
        source = omega (arith, c.requires.source_height.high);
        receiver = omega (arith, c.requires.receiver_height.high);
        above_ground = omega (arith, c.requires.source_height.low);
        most = omega (arith, c.globals.invariant.c0);
      });
    }
