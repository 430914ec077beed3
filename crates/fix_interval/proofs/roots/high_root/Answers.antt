use Rattle.std.proofs.Common.{◌≡◌, ◌∙◌, sym, ap, arith, rules, pos, ◌≤ℤ◌, ◌<◌, ◌^◌, ℤ, to_z, of_z, ◌*◌}
use Rattle.std.specs.Prelude.{unsigned_abs, FitsSigned}
use Rattle.std.specs.Int.{w128}
use Rattle.std.proofs.lemmas.Int.{ints, to_z-of_z}
use Rattle.fix_interval.specs.Round.{ceil_root}
use Rattle.fix_interval.specs.Values.{root_of_high}
use Rattle.fix_interval.proofs.Rooting.{high_root_found}
use Rattle.fix_interval.proofs.roots.high_root.Goals as goal

pub returns-in-Some : goal.returns-in-Some
returns-in-Some c =
    let fits : FitsSigned w128 c.in-Some.end = search rules in
    let same : to_z w128 (of_z w128 c.in-Some.end) ≡ c.in-Some.end = to_z-of_z w128 c.in-Some.end fits in
    let positive : pos 0 ≤ℤ c.in-Some.end = omega (arith, ints) in
    let small : unsigned_abs c.in-Some.end < 2 ^ 95 = omega (arith, ints) in
    let root : c.root_up.result ≡ ceil_root (unsigned_abs c.in-Some.end * 2 ^ 32) =
    c.root_up.ensures.value ∙ ap (λ (z : ℤ). ceil_root (unsigned_abs z * 2 ^ 32)) same in
    high_root_found c.in-Some.end c.root_up.result positive small root c.root_up.ensures.limited
    ∙ ap root_of_high (sym c.in-Some.is)
