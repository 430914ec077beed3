use Rattle.std.proofs.lemmas.Result.{err_from_is_err_and}
use Rattle.map_lock.proofs.Rounds.{quiet-none, quiet-idle, quiet-job, unseen-job, owed-taken, looked, never-finished}
use Rattle.map_lock.proofs.lock.MapLock.settle_by.Goals as goal

pub loop-init : goal.loop-init
loop-init g c = record {
  can_next = tt;
  is_finite = tt;
  so_far = quiet-none c.args.seat.now c.requires.editor.free;
  sound = c.requires.editor.sound;
}

pub work_off-requires-clause-owed : goal.work_off-requires-clause-owed
work_off-requires-clause-owed g c =
    owed-taken c.loop.seat c.ask_take.new.seat c.in-Job.job c.loop.invariant.so_far.worked.free c.in-Job.ensures.turn

pub loop-preserved-in-Continue-1 : goal.loop-preserved-in-Continue-1
loop-preserved-in-Continue-1 g c = record {
  can_next = tt;
  is_finite = tt;
  so_far = quiet-job c.args.seat.now c.loop.seat c.ask_take.new.seat c.work_off.new.seat c.in-Job.job c.loop.invariant.so_far
      c.in-Job.ensures.turn c.in_ok-work_off-in-Job.ensures.worked;
  sound = c.work_off.ensures.sound;
}

pub returns-in_err-work_off-in-Job-clause-settled : goal.returns-in_err-work_off-in-Job-clause-settled
returns-in_err-work_off-in-Job-clause-settled g c =
    let p = err_from_is_err_and c.from_residual.result c.from_residual.ensures.1 in
    rw p.1
    (unseen-job c.args.seat.now c.loop.seat c.ask_take.new.seat c.work_off.new.seat c.in-Job.job c.loop.invariant.so_far
    c.in-Job.ensures.turn p.0 c.in_err-work_off-in-Job.ensures.worked)

pub returns-in-Idle-eq0-clause-settled : goal.returns-in-Idle-eq0-clause-settled
returns-in-Idle-eq0-clause-settled g c =
    looked c.args.seat.now c.loop.seat c.ask_take.new.seat c.ask_look.new.seat c.requires.editor.number c.loop.invariant.so_far
    (rw c.in-Idle-eq0.taken-test at c.in-Idle-eq0.ensures.turn) c.ask_look.result c.ask_look.ensures.turn

pub loop-preserved : goal.loop-preserved
loop-preserved g c = record {
  can_next = tt;
  is_finite = tt;
  so_far = quiet-idle c.args.seat.now c.loop.seat c.ask_take.new.seat c.in-Idle.taken c.loop.invariant.so_far
      c.in-Idle.ensures.turn;
  sound = c.ask_take.ensures.sound;
}

pub unreachable-requires : goal.unreachable-requires
unreachable-requires g c =
    never-finished c.args.seat.now c.loop.seat c.ask_take.new.seat c.requires.editor.number c.requires.unfinished
    c.loop.invariant.so_far c.ask_take.ensures.sound_before c.in-Finished.ensures.turn
