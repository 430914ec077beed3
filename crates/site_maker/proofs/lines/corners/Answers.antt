use Rattle.std.proofs.Common.{◌≡◌, append_assoc, rules, w32, to_z, of_z}
use Rattle.std.proofs.lemmas.Int.{to_z-of_z}
use Rattle.site_maker.proofs.lines.corners.Goals as goal

pub returns : goal.returns
returns c rest =
    let of = c.args.of.now in
    let left : to_z w32 (of_z w32 of.left) ≡ of.left = to_z-of_z w32 of.left (search rules) in
    let bottom : to_z w32 (of_z w32 of.bottom) ≡ of.bottom = to_z-of_z w32 of.bottom (search rules) in
    let right : to_z w32 (of_z w32 of.right) ≡ of.right = to_z-of_z w32 of.right (search rules) in
    let top : to_z w32 (of_z w32 of.top) ≡ of.top = to_z-of_z w32 of.top (search rules) in
    rw c.in_ok-format.ensures.ok (simp (append_assoc, c.in_ok-first.ensures, c.in_ok-second.ensures, c.in_ok-third.ensures, c.in_ok-last.ensures, left, bottom, right, top))
