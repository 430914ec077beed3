use Rattle.std.proofs.Common.{sym, ap, get_or, ◌∙◌, length, arith}
use Rattle.path_cache.specs.inner.OfOneSource.{needs_path}
use Rattle.path_cache.proofs.Scanning.{found-one, past-one, none-left}
use Rattle.path_cache.proofs.refreshing.needs_a_path.Goals as goal

pub returns : goal.returns
returns c =
    let book = c.args.scene.now in
    sym (none-left (needs_path book c.args.receiver.now c.args.kept.now c.args.marks.now) book.sources c.loop-source.source-index
    (omega (arith, c.loop-source-test.false, ap length c.sources-source-items.ensures.value)) c.loop-source.invariant)

pub returns-then-needs_path_of : goal.returns-then-needs_path_of
returns-then-needs_path_of c =
    let book = c.args.scene.now in
    found-one (needs_path book c.args.receiver.now c.args.kept.now c.args.marks.now) book.sources c.loop-source.source-index c.source-item.result
    (omega (arith, c.loop-source-test.true, ap length c.sources-source-items.ensures.value))
    (c.source-item.is ∙ ap (λ ss. get_or ss c.loop-source.source-index c.source-item.result) c.sources-source-items.ensures.value) (sym c.if-needs_path_of.ensures) c.loop-source.invariant

pub loop-source-preserved : goal.loop-source-preserved
loop-source-preserved c =
    let book = c.args.scene.now in
    past-one (needs_path book c.args.receiver.now c.args.kept.now c.args.marks.now) book.sources c.loop-source.source-index c.source-item.result
    (omega (arith, c.loop-source-test.true, ap length c.sources-source-items.ensures.value))
    (c.source-item.is ∙ ap (λ ss. get_or ss c.loop-source.source-index c.source-item.result) c.sources-source-items.ensures.value) (sym c.if-needs_path_of.ensures) c.loop-source.invariant
