-- A write takes more of the rest.
use Rattle.std.proofs.Common.{◌∙◌, arith}
use Rattle.std.proofs.lemmas.Grind.{common_steps}
use Rattle.map_io.proofs.Known.{TakenBefore-more}
use Rattle.map_io.proofs.sink.put_all.Goals as goal

pub loop-rest-preserved : goal.loop-rest-preserved
loop-rest-preserved g c = record {
  taken = rw c.split_at.ensures.back (TakenBefore-more _ _ _ _ _ c.in_ok-taken.taken c.loop-rest.invariant.taken c.in_ok-taken.ensures.bytes);
  faults = c.in_ok-taken.ensures.cause.answered ∙ c.loop-rest.invariant.faults;
}

pub returns-clause-whole : goal.returns-clause-whole
returns-clause-whole g c = grind (arith, common_steps)
