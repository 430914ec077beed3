use Rattle.std.proofs.Common.{arith}
use Rattle.std.proofs.lemmas.Int.{ints}
use Rattle.scene_geom.proofs.Vectors.{vector_eq}
use Rattle.scene_geom.proofs.directions.step.Step.between.Goals as goal

pub returns : goal.returns
returns c = vector_eq _ _ (omega (arith, ints)) (omega (arith, ints))
