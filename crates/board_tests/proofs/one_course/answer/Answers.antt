use Rattle.map_lock.proofs.Rounds.{may-offer}
use Rattle.board_tests.proofs.one_course.answer.Goals as goal

pub offer-requires-clause-owed : goal.offer-requires-clause-owed
offer-requires-clause-owed g c =
    let worker = c.args.worker.now in
    may-offer worker.number worker.mine c.args.job c.in-Ok.answer c.requires.owed c.in-Ok.ensures
