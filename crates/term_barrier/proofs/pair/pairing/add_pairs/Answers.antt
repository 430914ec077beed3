use Rattle.std.proofs.Common.{ℕ, ap, refl, arith, get_or, List, [], ◌∷◌}
use Rattle.std.specs.Prelude.{flat_map}
use Rattle.std.proofs.lemmas.List.{drop_all, drop_more}
use Rattle.scene_parts.specs.declared.screening.edge.Edge.{Edge}
use Rattle.term_barrier.specs.declared.single.SingleDiffraction.{SingleDiffraction}
use Rattle.term_barrier.specs.Screening.{both_ways, edges_in}
use Rattle.term_barrier.specs.inner.Prepared.{risen}
use Rattle.term_barrier.proofs.Joining.{remains-none, remains-step, remains-same, risen-kept, risen-left}
use Rattle.term_barrier.proofs.pair.pairing.add_pairs.Goals.{then-second+in_ok-add_pair+in_ok-add_pair-2, else-second}
use Rattle.term_barrier.proofs.pair.pairing.add_pairs.Goals as goal

pub loop-j-preserved : goal.loop-j-preserved
loop-j-preserved c =
    let path = c.args.path.now in
    let i = c.args.i in
    let j = c.loop-j.j in
    let first = c.args.first.now.edge in
    let second = get_or c.args.singles.now j c.index-singles-j.result in
    let here = drop_more c.args.singles.now j c.index-singles-j.result c.loop-j-test.true in
    let there : (ℕ × Edge) × (ℕ × Edge) = ((i, first), (j, second.passage.edge)) in
    let back : (ℕ × Edge) × (ℕ × Edge) = ((j, second.passage.edge), (i, first)) in
    elim c.if-second.branch [
      | then-second+in_ok-add_pair+in_ok-add_pair-2 w ↦
          let risen = ap (flat_map (both_ways (i, first))) (risen-kept j second _ _ here w.if-second.true) in
          rw w.pairs-is
          (remains-step path c.args.d _ _ _ (back ∷ []) _ _ _ w.in_ok-add_pair-2.ensures refl
          (remains-step path c.args.d c.loop-j.pairs.items _ _ (there ∷ []) _ _ _ w.in_ok-add_pair.ensures risen c.loop-j.invariant))
      | else-second w ↦
          rw w.pairs-is
          (remains-same path c.args.d c.loop-j.pairs.items _ _ _ _ (ap (flat_map (both_ways (i, first))) (risen-left j second _ _ here w.if-second.false)) c.loop-j.invariant)
    ]

pub returns : goal.returns
returns c =
    remains-none c.args.path.now c.args.d c.loop-j.pairs.items _ _ _
    (ap (λ (singles : List SingleDiffraction). flat_map (both_ways (c.args.i, c.args.first.now.edge)) (risen c.loop-j.j (edges_in singles)))
    (drop_all c.loop-j.j c.args.singles.now (omega (arith, c.loop-j-test.false))))
    c.loop-j.invariant
