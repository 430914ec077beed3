use Rattle.touch_test.proofs.Far.{far-edits-touch-no-path}
use Rattle.touch_test.proofs.laws.far_edits_touch_no_path.Goals as goal

pub returns : goal.returns
returns c = far-edits-touch-no-path
