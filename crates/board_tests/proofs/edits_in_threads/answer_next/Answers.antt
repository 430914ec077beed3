use Rattle.board_tests.proofs.Alone.{may-land, right-answer}
use Rattle.board_tests.proofs.edits_in_threads.answer_next.Goals as goal

pub offer-requires-clause-may : goal.offer-requires-clause-may
offer-requires-clause-may c =
    may-land c.args.board.now c.take.new.self c.in-Job.job c.in-Ok.answer c.in-Job.ensures c.in-Ok.ensures

pub offer-requires-clause-right : goal.offer-requires-clause-right
offer-requires-clause-right c =
    right-answer c.args.board.now c.take.new.self c.in-Job.job c.in-Ok.answer c.in-Job.ensures c.in-Ok.ensures
