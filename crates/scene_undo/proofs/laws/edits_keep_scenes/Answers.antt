use Rattle.scene_undo.proofs.Kept.{empty-scene, scene-kept}
use Rattle.scene_undo.proofs.laws.edits_keep_scenes.Goals as goal

pub returns-clause-first : goal.returns-clause-first
returns-clause-first c = empty-scene

pub returns-clause-kept : goal.returns-clause-kept
returns-clause-kept c = scene-kept
