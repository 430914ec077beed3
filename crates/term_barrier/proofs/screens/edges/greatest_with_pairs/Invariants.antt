-- The greatest so far decides, with the pairs behind.
use Rattle.std.proofs.Common.{map, drop, Some}
use Rattle.fix_interval.specs.Tree.{Known, enc}
use Rattle.term_barrier.specs.Diffraction.{attenuation, double_limit}
use Rattle.term_barrier.specs.inner.Prepared.{greatest_from, edge_pair_value, marked_values}
use Rattle.term_barrier.proofs.Deciding.{Deciding}
use Rattle.term_barrier.proofs.screens.edges.greatest_with_pairs.Given as goal

abbrev pub invariant-loop-pair : goal.invariant-loop-pair
invariant-loop-pair l =
    Deciding double_limit (Some l.best) (marked_values l.marks (map (edge_pair_value l.band) (drop l.pair-index l.pairs)))
    (greatest_from (Some (enc (attenuation double_limit (Known l.initial.best)))) (marked_values l.marks (map (edge_pair_value l.band) l.pairs)))
