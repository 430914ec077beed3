use Rattle.map_lock.proofs.Rounds.{may-give-back, unseen-back}
use Rattle.board_tests.proofs.one_course.give_up.Goals as goal

pub give_back-requires-clause-owed : goal.give_back-requires-clause-owed
give_back-requires-clause-owed g c =
    let worker = c.take_job.new.worker in
    may-give-back worker.number worker.mine c.in_ok-job.job c.in_ok-job.ensures.owed

pub returns-clause-free : goal.returns-clause-free
returns-clause-free g c _ =
    (unseen-back c.take_job.new.worker c.give_back.new.seat c.in_ok-job.job c.in_ok-job.ensures.owed
    c.give_back.ensures.turn).worked.free
