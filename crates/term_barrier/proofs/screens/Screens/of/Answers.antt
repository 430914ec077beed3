use Rattle.std.proofs.Common.{refl}
use Rattle.term_barrier.proofs.screens.Screens.of.Goals as goal

pub returns : goal.returns
returns c = rw (c.as_slice-2.ensures.value, c.in_ok-prepare.ensures.edges) refl
