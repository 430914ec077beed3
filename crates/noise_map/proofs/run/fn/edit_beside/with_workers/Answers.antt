use Rattle.noise_map.proofs.Ending.{finished-asked}
use Rattle.noise_map.proofs.run.fn.edit_beside.with_workers.Goals as goal

pub returns : goal.returns
returns g c =
    let words = c.captures.words in
    let ending = c.do_asked-ending in (
      finished-asked words.make words ending.result.status ending.result.lines c.captures.editor.now.seat ending.new.editor.seat c.finish.new.seat _ _ _ _ ending.ensures.ended c.finish.ensures.turn c.finish.ensures.sound,
      ending.ensures.read_fault,
      ending.ensures.write_fault,
      ending.ensures.unread,
    )
