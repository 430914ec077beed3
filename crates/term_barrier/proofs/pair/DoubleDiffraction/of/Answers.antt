use Rattle.std.proofs.Common.{◌≡◌, refl, ap, ◌∙◌}
use Rattle.fix_interval.specs.Interval.{Interval}
use Rattle.fix_interval.specs.Tree.{Known, Add, Sub, Mul, enc}
use Rattle.scene_parts.specs.declared.screening.edge.Edge.{Edge}
use Rattle.path_shape.specs.declared.path.Path.{Path}
use Rattle.term_barrier.specs.Diffraction.{path_difference, k_met}
use Rattle.term_barrier.specs.Edges.{across, beside, place, rest, source_to_edge, edge_to_receiver, edge_to_edge, pair_difference, pair_k}
use Rattle.term_barrier.specs.inner.Prepared.{passage_of}
use Rattle.term_barrier.specs.inner.Reaching.{spacing_of}
use Rattle.term_barrier.proofs.Slants.{slant-is, slant-between}
use Rattle.term_barrier.proofs.Pairs.{convexity-from, pair-is, pair-never}
use Rattle.term_barrier.proofs.pair.DoubleDiffraction.of.Goals as goal

z-known : (path : Path) (first second : Edge) (d : Interval)
    → enc (path_difference
    (Known (enc (Add (Add (source_to_edge path (across first) first) (edge_to_receiver path (across first) second)) (edge_to_edge (across first) first second))))
    (Known (enc (Mul (beside first) (beside first)))) (Known d))
    ≡ enc (pair_difference path first second (Known d))
unfolding pair_difference path_difference
z-known path first second d = refl

k-known : (path : Path) (first second : Edge) (d : Interval)
    → enc (k_met (Known (enc (source_to_edge path (across first) first))) (Known (enc (edge_to_receiver path (across first) second))) (Known d)
    (Known (enc (pair_difference path first second (Known d)))))
    ≡ enc (pair_k path first second (Known d))
unfolding pair_k k_met
k-known path first second d = refl

pub returns-in-Never-clause-never : goal.returns-in-Never-clause-never
returns-in-Never-clause-never c =
    pair-never c.args.path.now c.args.d c.args.first.now.edge c.args.second.now.edge c.convexity-convex.result
    (convexity-from c.args.path.now c.args.first.now c.args.second.now c.convexity-convex.result c.requires.first c.requires.second c.convexity-convex.ensures)
    c.in-Never.is

pub returns-clause-bends : goal.returns-clause-bends
returns-clause-bends c =
    let path = c.args.path.now in
    let d = c.args.d in
    let first = c.args.first.now.edge in
    let second = c.args.second.now.edge in
    let start : c.args.first.now ≡ passage_of path first = c.requires.first in
    let end : c.args.second.now ≡ passage_of path second = c.requires.second in
    let d_sr : c.slant-d_sr.result ≡ enc (edge_to_receiver path (across first) second) =
    rw (c.slant-d_sr.ensures, c.mul.ensures, start, end) (slant-is (Mul (rest second) (across first)) second.h path.hr) in
    let e : c.slant-e.result ≡ enc (edge_to_edge (across first) first second) =
    rw (c.slant-e.ensures, c.mul-way.ensures, c.sub.ensures, c.sub-2.ensures, start, end)
    (slant-between (Mul (Sub (place second) (place first)) (across first)) second.h first.h) in
    let z : c.path_difference-z.result ≡ enc (pair_difference path first second (Known d)) =
    rw (c.path_difference-z.ensures, c.add-length.ensures, c.add.ensures, d_sr, e, start) (z-known path first second d) in
    let k : c.k_met-k.result ≡ enc (pair_k path first second (Known d)) =
    rw (c.k_met-k.ensures, z, d_sr, start) (k-known path first second d) in
    pair-is path d first second c.convexity-convex.result c.of-spacing.result c.path_difference-z.result c.k_met-k.result
    (convexity-from path c.args.first.now c.args.second.now c.convexity-convex.result start end c.convexity-convex.ensures)
    (c.of-spacing.ensures ∙ ap spacing_of e) z k
