use Rattle.std.proofs.Common.{ap, ◌+◌, [], drop, get_or}
use Rattle.std.specs.Prelude.{flat_map}
use Rattle.term_barrier.specs.Screening.{pairs_of, both_ways, edges_in}
use Rattle.term_barrier.specs.inner.Prepared.{risen}
use Rattle.std.proofs.lemmas.List.{drop_more}
use Rattle.term_barrier.proofs.Joining.{remains-step, remains-same, risen-kept, risen-left}
use Rattle.term_barrier.proofs.pair.pairing.prepare_pairs.Goals.{then-first+in_ok-add_pairs, else-first}
use Rattle.term_barrier.proofs.pair.pairing.prepare_pairs.Goals as goal

pub loop-i-preserved : goal.loop-i-preserved
loop-i-preserved c =
    let path = c.args.path.now in
    let i = c.loop-i.i in
    let single = get_or c.args.singles.now i c.index-singles-i.result in
    let here = drop_more c.args.singles.now i c.index-singles-i.result c.loop-i-test.true in
    let all = pairs_of (risen 0 (edges_in c.args.singles.now)) in
    elim c.if-first.branch [
      | then-first+in_ok-add_pairs w ↦
          rw w.pairs-is
          (remains-step path c.args.d c.loop-i.pairs.items _ _ (flat_map (both_ways (i, single.passage.edge)) (risen (i + 1) (edges_in (drop (i + 1) c.args.singles.now)))) _ [] all
          w.in_ok-add_pairs.ensures (ap pairs_of (risen-kept i single _ _ here w.if-first.true)) c.loop-i.invariant)
      | else-first w ↦
          rw w.pairs-is
          (remains-same path c.args.d c.loop-i.pairs.items _ _ [] all (ap pairs_of (risen-left i single _ _ here w.if-first.false)) c.loop-i.invariant)
    ]
