use Rattle.std.proofs.Common.{rules}
use Rattle.scene_parts.specs.Parts.{class_word}
use Rattle.scene_parts.proofs.parts.Class.word.Goals as goal

pub returns-in-Obstacle : goal.returns-in-Obstacle
unfolding class_word
returns-in-Obstacle c = search rules
