use Rattle.std.proofs.Common.{◌≡◌, ◌∙◌, ap, subst, arith, List, Result}
use Rattle.scene_parts.specs.Answers.{MatchesUnlessMemory}
use Rattle.scene_book.specs.declared.edits.Edit.{Edit}
use Rattle.scene_book.specs.declared.edits.EditFault.{EditFault}
use Rattle.scene_book.specs.Applying.{lacks_memory}
use Rattle.command_lines.specs.Views.{LineSource}
use Rattle.line_sources.specs.Pieces.{beyond}
use Rattle.line_sources.proofs.Applied.{line-edits}
use Rattle.line_sources.proofs.LegLemmas.{leg-tiled}
use Rattle.line_sources.proofs.lines.pieces.Goals as goal

pub returns-clause-value : goal.returns-clause-value
returns-clause-value c =
    let P : Result (List Edit) EditFault → Type 0 = λ r. MatchesUnlessMemory lacks_memory c.accepted_edits.result r in
    let name : c.items-name.result.now ≡ c.args.line.now.name = c.items-name.ensures.value ∙ ap (λ (l : LineSource). l.name) c.line.view_is in
    let others : c.in_ok-others.others.items ≡ beyond c.items-name.result.now c.in_ok-news.news.items c.args.scene.now.sources =
    rw (c.deref.ensures.value, c.sources.ensures.value) at c.in_ok-others.ensures in
    subst P
    (line-edits c.args.line.now c.args.scene.now c.items-name.result.now c.in_ok-news.news.items c.in_ok-others.others.items name c.in_ok-news.ensures others c.sources.ensures.within.lists.sources)
    c.accepted_edits.ensures.value

pub returns-clause-tiled : goal.returns-clause-tiled
returns-clause-tiled c =
    let piece = ap (λ (l : LineSource). l.piece) c.line.view_is in
    λ leg is. leg-tiled c.args.line.now leg is (omega (arith, c.line.invariant.piece_low, piece)) (omega (arith, c.line.invariant.piece_high, piece))

pub returns-in_err-news-clause-tiled : goal.returns-in_err-news-clause-tiled
returns-in_err-news-clause-tiled c =
    let piece = ap (λ (l : LineSource). l.piece) c.line.view_is in
    λ leg is. leg-tiled c.args.line.now leg is (omega (arith, c.line.invariant.piece_low, piece)) (omega (arith, c.line.invariant.piece_high, piece))

pub returns-in_err-others-clause-tiled : goal.returns-in_err-others-clause-tiled
returns-in_err-others-clause-tiled c =
    let piece = ap (λ (l : LineSource). l.piece) c.line.view_is in
    λ leg is. leg-tiled c.args.line.now leg is (omega (arith, c.line.invariant.piece_low, piece)) (omega (arith, c.line.invariant.piece_high, piece))
