use Rattle.fix_interval.specs.Values.{pick_of}
use Rattle.fix_interval.proofs.values.pick.Goals as goal

pub returns-in-Sure : goal.returns-in-Sure
unfolding pick_of
returns-in-Sure c = cc

pub returns-in-Never : goal.returns-in-Never
unfolding pick_of
returns-in-Never c = cc

pub returns-in-Unsure : goal.returns-in-Unsure
unfolding pick_of
returns-in-Unsure c = cc
