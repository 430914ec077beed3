-- The paths whose memory is not given back yet become fewer.
use Rattle.path_calc.proofs.workspace.PathBuffers.take_back.Given as goal

abbrev pub decreases-loop-path : goal.decreases-loop-path
decreases-loop-path l = goal.left-loop-path l
