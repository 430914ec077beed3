use Rattle.line_sources.specs.Pieces.{batch_edits_of}
use Rattle.noise_map.specs.Demands.{command}
use Rattle.noise_map.proofs.Meeting.{batch-in, meets-as}
use Rattle.noise_map.proofs.lines.step.Context.batch.Goals as goal

pub returns : goal.returns
returns g c =
    let before = c.args.editor.now in
    let asked = c.args.command.now in
    meets-as before c.make_or_refuse.new.editor c.make_or_refuse.result (batch_edits_of asked before.scene) (command asked) (batch-in before asked c.requires.batch c.requires.knows)
    (c.make_or_refuse.ensures (batch_edits_of asked before.scene) c.batch_edits-edits.ensures.value)
