use Rattle.order_law.proofs.Shown.{shown-law}
use Rattle.order_law.proofs.laws.scenes_show_alike.Goals as goal

pub returns : goal.returns
returns c = shown-law
