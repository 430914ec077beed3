use Rattle.std.proofs.Common.{◌≡◌, refl, rules, w32, to_z, of_z}
use Rattle.std.proofs.lemmas.Int.{to_z-of_z}
use Rattle.site_maker.specs.Parts.{source}
use Rattle.site_maker.proofs.DrawnLemmas.{line_drawn}
use Rattle.site_maker.proofs.parts.source.Goals as goal

pub returns : goal.returns
returns c =
    let x : to_z w32 (of_z w32 c.place-x.result) ≡ c.place-x.result = to_z-of_z w32 c.place-x.result (search rules) in
    let y : to_z w32 (of_z w32 c.place-y.result) ≡ c.place-y.result = to_z-of_z w32 c.place-y.result (search rules) in
    line_drawn (source c.args.number) _ _ _ _ c.source_line.ensures
    (rw (x, y, c.powers-lw.ensures.values, c.draw_from-h.ensures.value, c.draw_from-h.ensures.state, c.place-y.ensures.value, c.place-y.ensures.state, c.place-x.ensures.value, c.place-x.ensures.state) refl)
    (rw (c.powers-lw.ensures.state, c.draw_from-h.ensures.state, c.place-y.ensures.state, c.place-x.ensures.state) refl)
