use Rattle.std.proofs.Common.{ℕ, List, subst, sym}
use Rattle.std.specs.Prelude.{Option}
use Rattle.std.proofs.lemmas.Bool.{false≢true}
use Rattle.noise_map.specs.inner.Progress.{HasEnded, AskedEnded}
use Rattle.noise_map.proofs.RowsWritten.{site_untold}
use Rattle.noise_map.proofs.run.do_asked.Goals as goal

pub returns-in-Some-clause-ended : goal.returns-in-Some-clause-ended
returns-in-Some-clause-ended g c = rw c.in-Some.is c.run_site.ensures.ended

pub returns-in-Some-clause-read_fault : goal.returns-in-Some-clause-read_fault
returns-in-Some-clause-read_fault g c = site_untold _ _ _ _ _ _ c.run_site.ensures.ended.writes

pub returns-in-None-clause-ended : goal.returns-in-None-clause-ended
returns-in-None-clause-ended g c =
    let ending = c.do_lines.result in
    let editor = c.do_lines.new.editor in
    subst (λ (make : Option ℕ). AskedEnded make c.args.words ending.status ending.lines (λ (done : List (List ℕ)). HasEnded ending.status done c.args.editor.now.seat editor.seat) editor.seat
    (g.S.Source.left c.args.input.now) (g.S.Source.left c.do_lines.new.input) (g.K.Sink.taken c.args.out.now) (g.K.Sink.taken c.do_lines.new.out))
    (sym c.in-None.is) c.do_lines.ensures.ended

pub returns-in-None-clause-unread : goal.returns-in-None-clause-unread
returns-in-None-clause-unread g c = rw c.in-None.is (λ asked. absurd (false≢true asked))
