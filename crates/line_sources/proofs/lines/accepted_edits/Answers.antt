use Rattle.std.proofs.Common.{◌≡◌, ◌∙◌, ◌++◌, sym, rules, Err}
use Rattle.scene_book.specs.Applying.{lacks_memory}
use Rattle.line_sources.specs.Pieces.{puts, removes}
use Rattle.line_sources.proofs.Applied.{accepted-tried, refused-tried}
use Rattle.line_sources.proofs.lines.accepted_edits.Goals as goal

pub returns-clause-value : goal.returns-clause-value
returns-clause-value c =
    let made : c.from_vec.result ≡ puts c.args.news.items ++ removes c.args.others.items = search rules in
    let same : c.deref.result.now ≡ c.from_vec.result = c.deref.ensures.value ∙ sym c.from_vec.ensures in
    rw (← made) (accepted-tried c.from_vec.result c.args.scene.now (rw same at c.in_ok-try_all.ensures)).0

pub returns-clause-accepted : goal.returns-clause-accepted
returns-clause-accepted c =
    let same : c.deref.result.now ≡ c.from_vec.result = c.deref.ensures.value ∙ sym c.from_vec.ensures in
    (accepted-tried c.from_vec.result c.args.scene.now (rw same at c.in_ok-try_all.ensures)).1

pub returns-in_err-try_all-clause-value : goal.returns-in_err-try_all-clause-value
returns-in_err-try_all-clause-value c =
    let made : c.deref.result.now ≡ puts c.args.news.items ++ removes c.args.others.items = search rules in
    let fault : c.from_residual-in_err-try_all.result ≡ Err c.in_err-try_all.field-0.0 = search rules in
    rw (fault, ← made) (refused-tried c.deref.result.now c.args.scene.now c.in_err-try_all.field-0.0 (lacks_memory c.in_err-try_all.field-0.0) c.in_err-try_all.ensures)
