use Rattle.map_lock.proofs.Rounds.{owed-taken}
use Rattle.board_tests.proofs.one_course.take_job.Goals as goal

pub returns-in-Job-clause-owed : goal.returns-in-Job-clause-owed
returns-in-Job-clause-owed g c =
    owed-taken c.args.worker.now c.take.new.seat c.in-Job.job c.requires.free c.in-Job.ensures.turn
