use Rattle.scene_geom.proofs.Turning.{meets_reversed}
use Rattle.scene_geom.proofs.laws.meets_reversed.Goals as goal

pub returns : goal.returns
returns c = meets_reversed
