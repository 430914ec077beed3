use Rattle.map_lock.proofs.Rounds.{may-give-back}
use Rattle.board_tests.proofs.given_back.give_back_late.Goals as goal

pub give_back-requires-clause-owed : goal.give_back-requires-clause-owed
give_back-requires-clause-owed g c =
    let worker = c.take_job.new.worker in
    may-give-back worker.number worker.mine c.in_ok-job.job c.in_ok-job.ensures.owed
