use Rattle.std.proofs.Common.{arith}
use Rattle.std.proofs.lemmas.List.{length-take, drop_all}
use Rattle.scene_parts.specs.Parts.{Source}
use Rattle.line_sources.specs.Pieces.{sources_of}
use Rattle.line_sources.proofs.SourceLemmas.{point-step, no_side-left}
use Rattle.line_sources.proofs.sources.first_sources.Goals as goal

pub loop-to-preserved : goal.loop-to-preserved
loop-to-preserved c = record {
  so_far = point-step c.args.line.now (sources_of c.args.line.now) c.loop-to.sources.items c.add_side.new.sources.items c.loop-to.from c.to-item.result c.in-Some.rest.now 129 c.loop-to.to-index (omega (arith, c.loop-to-test.true)) c.to-item.is c.in_ok-add_side.ensures c.loop-to.invariant.so_far;
  few = rw c.in_ok-add_side.ensures (omega (arith, length-take {A = Source}));
}

pub returns : goal.returns
returns c =
    no_side-left c.args.line.now c.loop-to.sources.items 129 (sources_of c.args.line.now) c.loop-to.invariant.few
    (rw (drop_all c.loop-to.to-index c.in-Some.rest.now (omega (arith, c.loop-to-test.false))) at c.loop-to.invariant.so_far)
