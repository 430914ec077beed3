use Rattle.std.proofs.Common.{◌∙◌, ◌<◌, length, refl, arith}
use Rattle.path_calc.proofs.Screened.{bar-is}
use Rattle.path_calc.proofs.direct.screening.bar.Goals as goal

pub returns-clause-value : goal.returns-clause-value
returns-clause-value c =
    let below : c.place.result < length c.args.ground.now = omega (arith, c.place.ensures.bound, c.type_inv.ground) in
    bar-is _ _ _ _ _ _ c.index-ground-place.result c.args.ground.now c.place.result c.args.band c.args.crossings.now
    (c.as_slice.ensures.value ∙ c.in_ok-mark.ensures) c.requires.edges c.place.ensures.value below refl c.a_bar.ensures.value
