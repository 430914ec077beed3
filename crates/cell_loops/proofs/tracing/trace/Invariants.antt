-- So many edges of the boundary are gone through.
use Rattle.std.proofs.Common.{◌≡◌}
use Rattle.cell_loops.specs.Boundary.{boundary_of}
use Rattle.cell_loops.proofs.Scans.{Scans}
use Rattle.cell_loops.proofs.tracing.trace.Given as goal

abbrev pub invariant-loop-begin : goal.invariant-loop-begin
invariant-loop-begin l = Scans l.region l.begin-index l.walked.items l.loops.items
