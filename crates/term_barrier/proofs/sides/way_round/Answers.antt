use Rattle.std.proofs.Common.{sym, ◌∙◌}
use Rattle.std.proofs.lemmas.List.{drop_all}
use Rattle.term_barrier.specs.Diffraction.{whole}
use Rattle.term_barrier.specs.Lateral.{steps}
use Rattle.term_barrier.proofs.Loops.{drop-item}
use Rattle.term_barrier.proofs.Cornering.{sum-is, length-step, last-step, length-end, last-end}
use Rattle.term_barrier.proofs.sides.way_round.Goals as goal

pub loop-corner-preserved : goal.loop-corner-preserved
loop-corner-preserved c =
    let corner = c.corner-item.result in
    let last = c.loop-corner.last in
    let here = drop-item c.args.others.now c.loop-corner.corner-index corner c.loop-corner-test.true c.corner-item.is in (
      length-step c.loop-corner.e _ last corner _ _ _ here (rw c.add-e.ensures (rw c.distance.ensures)) c.loop-corner.invariant.0,
      last-step last corner _ _ _ here c.loop-corner.invariant.1,
    )

pub returns-clause-length : goal.returns-clause-length
returns-clause-length c =
    length-end c.loop-corner.e c.loop-corner.last _ _ (drop_all c.loop-corner.corner-index c.args.others.now c.loop-corner-test.false) c.loop-corner.invariant.0
    ∙ sym (sum-is (whole 0) (steps c.args.first c.args.others.now))

pub returns-clause-last : goal.returns-clause-last
returns-clause-last c =
    last-end c.loop-corner.last _ _ (drop_all c.loop-corner.corner-index c.args.others.now c.loop-corner-test.false) c.loop-corner.invariant.1
