use Rattle.std.proofs.Common.{refl, sym, ap, ◌∙◌}
use Rattle.noise_map.proofs.Reading.{within_at_start, passes_on}
use Rattle.noise_map.proofs.Ending.{started, unread, ended-reading, turned, turned-off}
use Rattle.noise_map.proofs.RowsWritten.{goes_without_fault, line_is_no_fault, read_told, write_untold, read_untold, write_told}
use Rattle.noise_map.proofs.lines.do_lines.Goals as goal

pub loop-status-init : goal.loop-status-init
loop-status-init g c = record {
  progress = started c.args.words c.in-Ok.reader c.args.editor.now _ _ c.in-Ok.ensures c.requires.nothing c.requires.knows;
  own = c.requires.own;
  knows = c.requires.knows;
  within = within_at_start _ c.in-Ok.ensures;
  reads = refl;
  writes = refl;
}

pub returns-in_default-clause-ended : goal.returns-in_default-clause-ended
returns-in_default-clause-ended g c =
    unread c.args.words c.args.editor.now.seat (g.S.Source.left c.args.input.now) (g.K.Sink.taken c.args.out.now) c.requires.nothing c.without_memory.result.status c.without_memory.result.lines
    c.without_memory.ensures.status c.without_memory.ensures.lines

pub returns-in-Some-clause-ended : goal.returns-in-Some-clause-ended
returns-in-Some-clause-ended g c =
    ended-reading c.args.words c.next-next.result c.in-Some.status c.loop-status.reader c.next-next.new.self c.loop-status.lines c.loop-status.refused c.args.editor.now.seat c.loop-status.editor _ _ _ _ _
    c.loop-status.invariant.progress c.next-next.ensures.within.1
    (sym c.ending.ensures ∙ c.in-Some.is) c.next-next.ensures.going
    (λ h. let kept = c.next-next.ensures.stopped h in (kept.0, kept.1, ap g.S.Source.left kept.2))

pub loop-status-smaller : goal.loop-status-smaller
loop-status-smaller g c =
    passes_on c.next-next.result c.loop-status.reader c.next-next.new.self c.loop-status.lines c.loop-status.refused _ _ _ c.loop-status.invariant.progress.done c.loop-status.invariant.progress.read
    (sym c.ending.ensures ∙ c.in_default-ending.is) c.next-next.ensures.going
    (λ h. let kept = c.next-next.ensures.stopped h in (kept.0, kept.1, ap g.S.Source.left kept.2)) c.next-next.ensures.within.1

pub returns-in-Err-clause-ended : goal.returns-in-Err-clause-ended
returns-in-Err-clause-ended g c =
    rw c.status_when.ensures
    (turned-off c.args.words c.next-next.result c.line.result.now c.loop-status.reader c.next-next.new.self c.loop-status.lines c.loop-status.refused c.args.editor.now.seat c.loop-status.editor c.do_and_show.new.editor
    _ _ _ _ _ _ c.loop-status.invariant.progress
    (sym c.ending.ensures ∙ c.in_default-ending.is) c.next-next.ensures.going
    (λ h. let kept = c.next-next.ensures.stopped h in (kept.0, kept.1, ap g.S.Source.left kept.2)) c.next-next.ensures.within.1 c.line.ensures c.in-Err.stopped c.in-Err.ensures.done c.next-next.ensures.few.1)

pub returns-in-Some-clause-read_fault : goal.returns-in-Some-clause-read_fault
returns-in-Some-clause-read_fault g c =
    read_told c.next-next.result c.loop-status.refused _ _ _ _ (sym c.ending.ensures ∙ c.in-Some.is) c.loop-status.invariant.reads
    (λ told. c.next-next.ensures.fault told (goes_without_fault _ _ _ _ _ c.loop-status.invariant.progress.read)) c.next-next.ensures.well

pub returns-in-Some-clause-write_fault : goal.returns-in-Some-clause-write_fault
returns-in-Some-clause-write_fault g c = write_untold c.next-next.result c.loop-status.refused _ _ _ (sym c.ending.ensures ∙ c.in-Some.is) c.loop-status.invariant.writes

pub returns-in-Err-clause-read_fault : goal.returns-in-Err-clause-read_fault
returns-in-Err-clause-read_fault g c =
    rw c.status_when.ensures
    (read_untold c.in-Err.stopped _ _ (c.next-next.ensures.well (line_is_no_fault _ _ (sym c.ending.ensures ∙ c.in_default-ending.is)) ∙ c.loop-status.invariant.reads))

pub returns-in-Err-clause-write_fault : goal.returns-in-Err-clause-write_fault
returns-in-Err-clause-write_fault g c = rw c.status_when.ensures (write_told c.in-Err.stopped _ _ _ c.loop-status.invariant.writes c.in-Err.ensures.cause)

pub loop-status-preserved : goal.loop-status-preserved
loop-status-preserved g c =
    let on =
    turned c.args.words c.next-next.result c.line.result.now c.loop-status.reader c.next-next.new.self c.loop-status.lines c.loop-status.refused c.args.editor.now.seat c.loop-status.editor c.do_and_show.new.editor
    (g.S.Source.left c.args.input.now) (g.S.Source.left c.loop-status.input) (g.S.Source.left c.next-next.new.source) (g.K.Sink.taken c.args.out.now) (g.K.Sink.taken c.loop-status.out) (g.K.Sink.taken c.do_and_show.new.out) c.loop-status.invariant.progress
    (sym c.ending.ensures ∙ c.in_default-ending.is) c.next-next.ensures.going
    (λ h. let kept = c.next-next.ensures.stopped h in (kept.0, kept.1, ap g.S.Source.left kept.2)) c.next-next.ensures.within.1 c.line.ensures c.in-Ok-do_and_show.is_refused c.in-Ok-do_and_show.ensures.done in
    record {
      progress = on.0;
      knows = on.1;
      own = on.0.did.same.table ∙ c.requires.own;
      within = c.next-next.ensures.within.1;
      reads = c.next-next.ensures.well (line_is_no_fault _ _ (sym c.ending.ensures ∙ c.in_default-ending.is)) ∙ c.loop-status.invariant.reads;
      writes = c.in-Ok-do_and_show.ensures.cause.done ∙ c.loop-status.invariant.writes;
    }
