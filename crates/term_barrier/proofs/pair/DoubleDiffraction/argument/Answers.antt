use Rattle.std.proofs.Common.{◌≡◌, ◌∙◌, ap, sym, refl, rules}
use Rattle.fix_interval.specs.Interval.{IsInterval}
use Rattle.term_barrier.specs.Diffraction.{double_limit}
use Rattle.term_barrier.specs.inner.Reaching.{pair_number}
use Rattle.term_barrier.proofs.OneLogarithm.{screens}
use Rattle.term_barrier.proofs.Passing.{argument-decides}
use Rattle.term_barrier.proofs.pair.DoubleDiffraction.argument.Goals as goal

pub returns : goal.returns
returns c =
    let pair = c.args.self.now in
    let number : c.three_and-b.result ≡ pair_number c.args.band pair.spacing pair.z pair.k =
    rw (c.three_and-b.ensures, c.mul.ensures, c.at_two_edges.ensures) refl in
    let interval : IsInterval c.three_and-b.result = search rules in
    argument-decides pair c.args.band c.three_and-b.result number interval
    ∙ ap (screens double_limit) (sym (rw c.exact.ensures at c.pick.ensures))
