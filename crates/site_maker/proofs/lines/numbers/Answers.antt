use Rattle.site_maker.proofs.CommaLemmas.{next_number}
use Rattle.site_maker.proofs.lines.numbers.Goals as goal

pub loop-place-preserved : goal.loop-place-preserved
loop-place-preserved c = next_number c.args.numbers.now c.loop-place.place _ _ _ c.loop-place-test.true c.loop-place.invariant c.comma_before-comma.ensures c.in_ok-write.ensures.bytes
