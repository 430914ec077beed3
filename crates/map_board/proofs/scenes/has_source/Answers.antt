use Rattle.std.proofs.Common.{◌∙◌, ap, sym}
use Rattle.std.specs.Prelude.{bytes_eq}
use Rattle.std.specs.List.{list_any}
use Rattle.scene_parts.specs.Parts.{Source}
use Rattle.map_board.proofs.Scanning.{found-one, past-one, none-left}
use Rattle.map_board.proofs.scenes.has_source.Goals as goal

pub returns : goal.returns
returns c =
    sym (ap (list_any (λ (s : Source). bytes_eq c.args.name.now s.name)) (sym c.sources-sources.ensures.value)
    ∙ none-left (λ (s : Source). bytes_eq c.args.name.now s.name) c.sources-sources.result.now c.loop-source.source-index c.loop-source-test.false c.loop-source.invariant)

pub returns-then-eq : goal.returns-then-eq
returns-then-eq c =
    found-one (λ (s : Source). bytes_eq c.args.name.now s.name) c.sources-sources.result.now c.loop-source.source-index c.source-item.result c.loop-source-test.true c.source-item.is
    (ap (bytes_eq c.args.name.now) (sym (c.items.ensures.value ∙ ap (λ (s : Source). s.name) c.source.view_is)) ∙ sym c.if-eq.ensures) c.loop-source.invariant
    ∙ ap (list_any (λ (s : Source). bytes_eq c.args.name.now s.name)) c.sources-sources.ensures.value

pub loop-source-preserved : goal.loop-source-preserved
loop-source-preserved c =
    past-one (λ (s : Source). bytes_eq c.args.name.now s.name) c.sources-sources.result.now c.loop-source.source-index c.source-item.result c.loop-source-test.true c.source-item.is
    (ap (bytes_eq c.args.name.now) (sym (c.items.ensures.value ∙ ap (λ (s : Source). s.name) c.source.view_is)) ∙ sym c.if-eq.ensures) c.loop-source.invariant
