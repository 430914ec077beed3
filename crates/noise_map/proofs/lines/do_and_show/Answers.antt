use Rattle.map_text.proofs.Fronts.{front-as}
use Rattle.std.proofs.Common.{inl, inr}
use Rattle.std.proofs.KnownBytes.{Appends-nil}
use Rattle.std.proofs.lemmas.Result.{err_from_is_err_and}
use Rattle.noise_map.proofs.lines.do_and_show.Goals as goal

pub returns-in_err-answer-clause-done : goal.returns-in_err-answer-clause-done
returns-in_err-answer-clause-done g c text is =
    let p = err_from_is_err_and c.from_residual.result c.from_residual.ensures.1 in
    rw p.1 (inl (c.in_err-answer.ensures.done text is, p.2, Appends-nil (g.K.Sink.taken c.args.out.now)))

pub returns-in_err-show-clause-done : goal.returns-in_err-show-clause-done
returns-in_err-show-clause-done g c text is =
    let p = err_from_is_err_and c.from_residual-in_err-show.result c.from_residual-in_err-show.ensures.1 in
    let met = c.in_ok-answer.ensures.done text is in
    rw p.1 (inr (c.in_ok-answer.answer, met.0, met.1, front-as _ _ _ _ _ p.2 (rw c.requires.knows.version at c.in_err-show.ensures.taken)))

pub returns-clause-done : goal.returns-clause-done
returns-clause-done g c text is =
    let met = c.in_ok-answer.ensures.done text is in
    (c.in_ok-answer.answer, met.0, met.1, rw c.requires.knows.version at c.in_ok-show.ensures.taken, c.is_refusal.ensures)
