use Rattle.std.proofs.Common.{arith, ap, sym, ◌∙◌, map, List}
use Rattle.std.proofs.lemmas.List.{drop_all}
use Rattle.fix_interval.specs.Tree.{enc}
use Rattle.scene_parts.specs.Parts.{Foliage}
use Rattle.term_foliage.specs.Foliage.{lengths_in}
use Rattle.term_foliage.specs.inner.Distances.{with_length, with_lengths}
use Rattle.term_foliage.proofs.Counting.{drop-step, lengths-step, from-none}
use Rattle.term_foliage.proofs.distance.length_in_all.Goals as goal

pub loop-one-preserved : goal.loop-one-preserved
loop-one-preserved c =
    lengths-step c.args.path.now _ c.one-item.result _ c.loop-one.total c.with_length-total.result _
    (drop-step c.one-item.result c.args.foliage.now c.loop-one.one-index c.one-item.is (omega arith))
    (c.with_length-total.ensures ∙ ap (with_length c.loop-one.total) c.length_in.ensures) c.loop-one.invariant

pub returns : goal.returns
returns c =
    ap (λ (l : List Foliage). with_lengths c.loop-one.total (map enc (lengths_in c.args.path.now l))) (sym (drop_all c.loop-one.one-index c.args.foliage.now c.loop-one-test.false))
    ∙ c.loop-one.invariant
    ∙ from-none (lengths_in c.args.path.now c.args.foliage.now)
