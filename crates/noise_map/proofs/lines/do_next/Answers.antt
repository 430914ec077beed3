use Rattle.std.proofs.Common.{◌<◌, length}
use Rattle.map_io.specs.Reading.{line_limit}
use Rattle.noise_map.proofs.lines.do_next.Goals.{in-LongLine, in_default}
use Rattle.noise_map.proofs.lines.do_next.Goals as goal

pub returns-then-matches-clause-done : goal.returns-then-matches-clause-done
returns-then-matches-clause-done g c text is =
    let long : line_limit < length text =
    elim c.match-matches.branch [
      | in-LongLine w ↦ (rw w.in-LongLine.is at is)
      | in_default w ↦ absurd cc
    ] in
    c.refuse_long.ensures.met c.args.editor.now text c.requires.knows long
