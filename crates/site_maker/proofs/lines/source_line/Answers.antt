use Rattle.std.proofs.Common.{◌≡◌, ◌∙◌, refl, rules, w32, to_z, of_z}
use Rattle.std.proofs.lemmas.Int.{to_z-of_z}
use Rattle.site_maker.proofs.lines.source_line.Goals as goal

pub returns : goal.returns
returns c =
    let x : to_z w32 (of_z w32 c.args.x) ≡ c.args.x = to_z-of_z w32 c.args.x (search rules) in
    let y : to_z w32 (of_z w32 c.args.y) ≡ c.args.y = to_z-of_z w32 c.args.y (search rules) in
    c.in_ok-format.ensures.ok ∙ rw (x, y, c.in_ok-lw.ensures) refl
