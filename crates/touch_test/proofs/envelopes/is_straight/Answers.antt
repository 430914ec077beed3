use Rattle.std.proofs.Common.{◌≡◌, sym, ap, ◌∙◌}
use Rattle.path_calc.specs.declared.bundles.segments.Seg.TheVariants.{Straight}
use Rattle.touch_test.proofs.Far.{same-points}
use Rattle.touch_test.proofs.envelopes.is_straight.Goals as goal

pub returns-then-eq : goal.returns-then-eq
returns-then-eq c same =
    let p = c.in-Straight.p in
    let q = c.in-Straight.q in
    let first : p ≡ c.args.from = same-points p c.args.from (sym c.eq.ensures ∙ c.if-eq.true) in
    let second : q ≡ c.args.to = same-points q c.args.to (sym c.eq-then-eq.ensures ∙ same) in
    c.in-Straight.is ∙ ap (λ from. Straight from q) first ∙ ap (Straight c.args.from) second
