use Rattle.std.proofs.Common.{sym, subst, map, string_bytes, IfSome}
use Rattle.command_words.specs.Words.{command_line_of}
use Rattle.noise_map.specs.declared.run.status.Report.{Report}
use Rattle.noise_map.specs.Outcome.{RunOutcome}
use Rattle.noise_map.proofs.RowsWritten.{asked_complete, asked_or_not}
use Rattle.noise_map.proofs.run.run.Goals as goal

pub returns-in-Ok-clause-complete : goal.returns-in-Ok-clause-complete
returns-in-Ok-clause-complete g c words no_read no_write =
    asked_complete c.in-Ok.asked.make c.in-Ok.asked _ _ _ _ _ _ _ _ _ _ _ c.run_asked.ensures.outcome c.run_asked.ensures.read_fault c.run_asked.ensures.write_fault no_read no_write

pub returns-in-Err-NoMemory-clause-outcome : goal.returns-in-Err-NoMemory-clause-outcome
returns-in-Err-NoMemory-clause-outcome g c =
    let asked = command_line_of (map string_bytes c.args.words.now) in
    let left = g.S.Source.left c.args.input.now in
    let taken = g.K.Sink.taken c.args.out.now in
    subst (λ (r : Report). IfSome asked (λ line. RunOutcome line r.status r.lines r.seat left left taken taken)) (sym c.not_begun-in-Err-NoMemory.ensures) (asked_or_not asked left taken)
