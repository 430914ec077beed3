use Rattle.std.proofs.Common.{◌≡◌, ap, sym, arith, length, to_z, of_z, w32}
use Rattle.std.specs.Prelude.{None, map}
use Rattle.std.proofs.lemmas.Int.{ints}
use Rattle.scene_parts.proofs.BandLemmas.{eight}
use Rattle.line_sources.specs.Pieces.{power_with}
use Rattle.line_sources.proofs.legs.powers.Goals as goal

pub returns-clause-value : goal.returns-clause-value
returns-clause-value c =
    let n : length c.args.lw ≡ 8 = omega arith in
    let same : to_z w32 (of_z w32 c.args.gain) ≡ c.args.gain = omega (arith, ints) in
    let h = c.power.ensures.value in
    rw (c.power.ensures.value, c.power-2.ensures.value, c.power-3.ensures.value, c.power-4.ensures.value, c.power-5.ensures.value, c.power-6.ensures.value, c.power-7.ensures.value, c.power-8.ensures.value, same)
    (ap (map (power_with c.args.gain)) (sym (eight c.args.lw None n)))
