use Rattle.std.proofs.Common.{◌≡◌, ◌∙◌, ap, sym, subst, arith, rules}
use Rattle.std.specs.Prelude.{Some, IsSome}
use Rattle.fix_interval.specs.Interval.{IsInterval}
use Rattle.term_barrier.specs.Diffraction.{single_limit, double_limit}
use Rattle.term_barrier.specs.inner.Prepared.{IsRaised}
use Rattle.term_barrier.proofs.OneLogarithm.{screens, screens-capped, screens-raised}
use Rattle.term_barrier.proofs.screens.edges.deciding_argument.Goals as goal

pub returns-then-is_bounded : goal.returns-then-is_bounded
returns-then-is_bounded c =
    let alone = c.in_ok-alone.alone in
    let interval : IsInterval alone = search rules in
    let bounded : IsSome alone.hi = sym c.is_bounded.ensures ∙ c.if-not-is_bounded.false in
    let most : IsSome c.greatest_with_pairs-most.result.hi = sym c.is_bounded-2.ensures ∙ c.if-is_bounded.true in
    let capped : screens single_limit alone ≡ screens double_limit c.min.result =
    screens-capped alone interval bounded ∙ ap (screens double_limit) (sym (rw c.exact.ensures at c.min.ensures)) in
    rw (c.in_ok-alone.ensures bounded ∙ ap Some capped)
    (subst IsRaised capped (screens-raised single_limit alone (omega arith) interval bounded), c.greatest_with_pairs-most.ensures most)
