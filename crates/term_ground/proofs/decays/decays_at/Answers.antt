use Rattle.std.proofs.Common.{arith}
use Rattle.term_ground.specs.Ground.{decay_at_125, far_decay_at_125, decay_at_250, decay_at_500, decay_at_1000}
use Rattle.term_ground.proofs.TermBounds.{at-125-small, far-at-125-small, at-250-small, at-500-small, at-1000-small}
use Rattle.term_ground.proofs.decays.decays_at.Goals as goal

pub of-requires : goal.of-requires
unfolding decay_at_125
of-requires c = rw (c.mul.ensures, c.exact.ensures, c.decay.ensures, c.square.ensures.value, c.abs_diff.ensures) (at-125-small c.args.h (omega arith))

pub of-requires-2 : goal.of-requires-2
unfolding far_decay_at_125
of-requires-2 c = rw (c.mul-2.ensures, c.ratio.ensures, c.decay-slow.ensures, c.square-squared.ensures.value) (far-at-125-small c.args.h (omega arith))

pub of-requires-3 : goal.of-requires-3
unfolding decay_at_250
of-requires-3 c = rw (c.mul-3.ensures, c.ratio-2.ensures, c.decay-slow.ensures, c.square-squared.ensures.value) (at-250-small c.args.h (omega arith))

pub of-requires-4 : goal.of-requires-4
unfolding decay_at_500
of-requires-4 c = rw (c.mul-4.ensures, c.exact-2.ensures, c.decay-2.ensures, c.square-squared.ensures.value) (at-500-small c.args.h (omega arith))

pub of-requires-5 : goal.of-requires-5
unfolding decay_at_1000
of-requires-5 c = rw (c.mul-5.ensures, c.exact-3.ensures, c.decay-3.ensures, c.square-squared.ensures.value) (at-1000-small c.args.h (omega arith))
