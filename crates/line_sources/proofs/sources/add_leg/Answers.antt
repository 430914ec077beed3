use Rattle.std.proofs.Common.{◌≡◌, ◌∙◌, ◌+◌, ◌-◌, ◌++◌, ◌∷◌, [], ap, arith, ℕ, List, length, append_assoc, min}
use Rattle.std.specs.Prelude.{map}
use Rattle.std.specs.List.{range_with_len}
use Rattle.std.proofs.lemmas.List.FromFn.{map-range_with_len_more}
use Rattle.scene_parts.specs.Parts.{Source}
use Rattle.line_sources.specs.Pieces.{CutLeg, source_at}
use Rattle.line_sources.proofs.SourceLemmas.{leg-end}
use Rattle.line_sources.proofs.sources.add_leg.Goals as goal

pub loop-i-preserved : goal.loop-i-preserved
loop-i-preserved c =
    let items : List Source = c.args.sources.now.items in
    let i = c.loop-i.i in
    let f : ℕ → Source = λ k. source_at c.args.line.now c.args.leg.now (length items + k) k in
    let first : c.len-first.result ≡ length items = omega (arith, c.len-first.ensures) in
    let made : c.in_ok-source.source ≡ f i = c.in_ok-source.ensures ∙ ap (λ (n : ℕ). source_at c.args.line.now c.args.leg.now (n + i) i) first in
    let before : c.loop-i.sources.items ≡ items ++ map f (range_with_len 0 i) = c.loop-i.invariant in
    let after : c.push.new.self.items ≡ items ++ map f (range_with_len 0 (i + 1)) =
    rw (c.in_ok-push.ensures.items, before, made, map-range_with_len_more f 0 i i (omega arith)) (append_assoc items (map f (range_with_len 0 i)) (f i ∷ [])) in
    after

pub returns : goal.returns
returns c =
    let items : List Source = c.args.sources.now.items in
    let before : c.loop-i.sources.items ≡ items ++ map (λ i. source_at c.args.line.now c.args.leg.now (length items + i) i) (range_with_len 0 c.loop-i.i) = c.loop-i.invariant in
    let k = c.loop-i.i in
    let first : c.len-first.result ≡ length items = omega (arith, c.len-first.ensures) in
    let count : c.leg.inside.count ≡ c.args.leg.now.count = ap (λ (leg : CutLeg). leg.count) c.leg.view_is in
    let last : c.min-i-end.result ≡ min c.args.leg.now.count (129 - length items) = rw (count, first) at c.min-i-end.ensures in
    let end : k ≡ min c.args.leg.now.count (129 - length items) = omega (arith, last, c.loop-i.auto.i-end, c.loop-i-test.false) in
    before ∙ leg-end c.args.line.now c.args.leg.now items 129 k (omega (arith, c.requires)) end
