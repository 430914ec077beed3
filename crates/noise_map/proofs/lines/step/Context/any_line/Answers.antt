use Rattle.noise_map.proofs.lines.step.Context.any_line.Goals as goal

pub returns-then-line-gt-LONGEST : goal.returns-then-line-gt-LONGEST
returns-then-line-gt-LONGEST g c = c.refuse_long.ensures.met c.args.editor.now c.args.line.now c.requires.knows c.if-line-gt-LONGEST.true
