use Rattle.std.proofs.Common.{◌∙◌}
use Rattle.scene_undo.proofs.KeptVersions.{others-kept}
use Rattle.scene_undo.proofs.versions.keeps.Goals as goal

pub returns-else-version-eq0 : goal.returns-else-version-eq0
returns-else-version-eq0 c = c.is_among.ensures ∙ others-kept c.args.version c.args.kept.now c.if-version-eq0.false
