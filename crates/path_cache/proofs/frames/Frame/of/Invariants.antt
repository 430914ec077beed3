-- The sources so far stand in the box, and it lies in each that holds all sources.
use Rattle.std.proofs.Common.{take}
use Rattle.path_cache.specs.declared.frames.Frame.{Frame}
use Rattle.path_cache.specs.Frames.{Holds, LiesIn}
use Rattle.path_cache.proofs.frames.Frame.of.Given as goal

abbrev pub invariant-loop-source : goal.invariant-loop-source
invariant-loop-source l = record {
  holds : Holds l.frame (take l.source-index l.sources);
  tight : (other : Frame) → Holds other l.sources → LiesIn l.frame other;
}
